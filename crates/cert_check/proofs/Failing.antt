-- What is told of all nodes, once those that are left were read.
use Rattle.std.proofs.Common.{◌≡◌, ◌++◌, ◌∷◌, [], ℕ, List, Option, Ok, Err, Result, IfErr, OnOk, arith, refl, sym, ap, subst, ◌∙◌}
use Rattle.std.proofs.lemmas.List.{append_assoc}
use Rattle.ttp_model.specs.Instance.{Instance}
use Rattle.tt_choice.specs.Choice.{Choice}
use Rattle.certificate.specs.declared.fault.CertTextError.TheVariants as text
use Rattle.certificate.specs.declared.node.Node.{Node}
use Rattle.certificate.specs.declared.node.Node.TheVariants as node
use Rattle.certificate.specs.declared.stream.CertStream.{CertStream}
use Rattle.certificate.specs.Streams.{next_line, LeavesNodes}
use Rattle.certificate.specs.Trees.{trees_of}
use Rattle.tree_check.specs.declared.fault.CertFault.{CertFault}
use Rattle.tree_check.specs.declared.walk.Walk.{Walk}
use Rattle.tree_check.specs.Faults.{told_line}
use Rattle.tree_check.specs.Seen.{IsSeen, TellsFirst, line_behind}
use Rattle.tree_check.proofs.Seen.{node_fails, branch_tells}
use Rattle.cert_check.specs.declared.leaves.HeldLeaf.{HeldLeaf}
use Rattle.cert_check.specs.declared.ahead.Ahead.{Ahead}
use Rattle.cert_check.specs.declared.ahead.Ahead.TheVariants.{More, End, Fault}
use Rattle.cert_check.specs.declared.fault.StreamFault.{StreamFault}
use Rattle.cert_check.specs.declared.fault.StreamFault.TheVariants.{Read, TooLong, Text, Cert as InCert}
use Rattle.cert_check.specs.Waiting.{Finishes, Judges}
use Rattle.cert_check.specs.UnderWay.{AnswersAll, BeginsWrong, Fits, IsAhead, IsLinesFault, IsUnderWay, IsWrongBranch, LeavesRest, told_of}
use Rattle.cert_check.proofs.NextNodes.{held_tells, all_proved}
use Rattle.cert_check.proofs.Streams.{behind_rest, behind_all}

-- ---- what is left

module _ {R : Type 0} (i : Instance) (remaining : R → Option (List ℕ)) (at now : CertStream R) (w : Walk) (left : List Choice) (taken : ℕ) where
  pub more_rest : (rest : Result (Unit {0}) StreamFault) → IsAhead i remaining at now w left More
      → OnOk rest ((nodes : List Node) × LeavesNodes remaining now (Ok nodes)) → IfErr rest (IsLinesFault (LeavesNodes remaining now) taken)
      → LeavesRest i remaining at left More taken rest
  more_rest (Ok u) ahead is err = (is.0, (subst (λ (s : CertStream R). LeavesNodes remaining s (Ok is.0)) (sym ahead.0) is.1, tt))
  more_rest (Err fault) ahead is err = subst (λ (s : CertStream R). IsLinesFault (LeavesNodes remaining s) taken fault) (sym ahead.0) err

  pub wrong_rest : (own : CertFault) (rest : Result (Unit {0}) StreamFault) → IsWrongBranch i remaining at now left own
      → OnOk rest ((nodes : List Node) × LeavesNodes remaining now (Ok nodes)) → IfErr rest (IsLinesFault (LeavesNodes remaining now) taken)
      → LeavesRest i remaining at left (Fault (InCert own)) taken rest
  wrong_rest own (Ok u) b is err = (
    node.Branch b.branch ∷ is.0,
    (
      b.leaves (Ok is.0) is.1,
      record {
        branch = b.branch;
        more = is.0;
        choice = b.choice;
        others = b.others;
        left_is = b.left_is;
        rest_is = refl;
        low_line = b.low_line;
        tells
            = b.tells;
      },
    ),
  )
  wrong_rest own (Err Read) b is err = tt
  wrong_rest own (Err TooLong) b is err = err
  wrong_rest own (Err (Text text.OutOfMemory)) b is err = tt
  wrong_rest own (Err (Text (text.At line fault))) b is err = b.leaves (Err (text.At line fault)) err
  wrong_rest own (Err (InCert fault)) b is err = absurd err

  pub end_rest : IsAhead i remaining at now w left End → LeavesRest i remaining at left End taken (Ok tt)
  end_rest ahead = ([], (ahead.0, refl))

-- ---- what is told

module _ {R : Type 0} (i : Instance) (low : ℕ) (remaining : R → Option (List ℕ)) (first at : CertStream R) (left : List Choice) (hs : List HeldLeaf)
    (u : IsUnderWay i low remaining first at left hs) (taken : ℕ) where
  -- a fault of the lines behind nodes goes before one of a leaf,
  lines_told : (own : CertFault) (later : StreamFault) → Finishes i low hs (Err (InCert own)) → IsLinesFault (LeavesNodes remaining at) taken later
      → AnswersAll i low remaining first taken (Err later)
  lines_told own Read own_told is = tt
  lines_told own TooLong own_told is = is
  lines_told own (Text text.OutOfMemory) own_told is = tt
  lines_told own (Text (text.At line fault)) own_told is = (u.so_far own_told.0 own_told.1.0).behind_them (Err (text.At line fault)) is
  lines_told own (InCert fault) own_told is = absurd is

  -- and what is wrong with those that wait is told
  rest_told : (fault : StreamFault) (nodes : List Node) → Finishes i low hs (Err fault) → LeavesNodes remaining at (Ok nodes)
      → AnswersAll i low remaining first taken (Err fault)
  rest_told Read nodes told l = absurd told
  rest_told TooLong nodes told l = absurd told
  rest_told (Text text.OutOfMemory) nodes told l = tt
  rest_told (Text (text.At line fault)) nodes told l = u.unread (text.At line fault) told (Ok nodes) l
  rest_told (InCert own) nodes told l =
      let s = u.so_far told.0 told.1.0 in
      (s.seen ++ nodes, (behind_rest remaining first at s.seen nodes s.behind_them l, held_tells i low s.seen told.0 left own s.so_far told.1.1 nodes))

  pub all_told : (ahead : Ahead) (fault : StreamFault) (rest : Result (Unit {0}) StreamFault) → Finishes i low hs (Err fault)
      → LeavesRest i remaining at left ahead taken rest → AnswersAll i low remaining first taken (Err (told_of fault rest))
  all_told ahead fault (Ok v) told l = rest_told fault l.0 told l.1.0
  all_told ahead Read (Err later) told l = absurd told
  all_told ahead TooLong (Err later) told l = absurd told
  all_told ahead (InCert own) (Err later) told l = lines_told own later told l
  all_told ahead (Text error) (Err Read) told l = tt
  all_told ahead (Text error) (Err TooLong) told l = l
  all_told ahead (Text error) (Err (Text text.OutOfMemory)) told l = tt
  all_told ahead (Text error) (Err (InCert later)) told l = absurd l
  all_told ahead (Text text.OutOfMemory) (Err (Text (text.At line other))) told l = tt
  all_told ahead (Text (text.At at_line fault)) (Err (Text (text.At line other))) told l = u.unread (text.At at_line fault) told (Err (text.At line other)) l

  -- ---- where all leaves close

  module _ (closed : Judges i low hs (Ok tt)) where
    pub fault_ends : (later : StreamFault) → IsLinesFault (LeavesNodes remaining at) taken later → AnswersAll i low remaining first taken (Err later)
    fault_ends Read is = tt
    fault_ends TooLong is = is
    fault_ends (Text text.OutOfMemory) is = tt
    fault_ends (Text (text.At line fault)) is = (u.so_far closed.0 closed.1.0).behind_them (Err (text.At line fault)) is
    fault_ends (InCert fault) is = absurd is

    wrong_ends : (own : CertFault) (rest : List Node) → LeavesNodes remaining at (Ok rest) → BeginsWrong i left (next_line at) own rest
        → AnswersAll i low remaining first taken (Err (InCert own))
    wrong_ends own rest l b =
        let s = u.so_far closed.0 closed.1.0 in
        let n = node.Branch b.branch in
        let here : IsSeen i low s.seen closed.0 (b.choice ∷ b.others) = subst (IsSeen i low s.seen closed.0) b.left_is s.so_far in
        let line : next_line at ≡ told_line (line_behind s.seen) = omega (arith, b.low_line, s.line) in
        let tells = node_fails i low s.seen closed.0 b.choice b.others n (next_line at) own closed.1.1 here line
        (branch_tells i low b.choice b.branch (next_line at) own b.tells) b.more in
        let whole : (s.seen ++ n ∷ []) ++ b.more ≡ s.seen ++ rest = append_assoc s.seen (n ∷ []) b.more
        ∙ ap (λ (ns : List Node). s.seen ++ ns) (sym b.rest_is) in (
          s.seen ++ rest,
          (
            behind_rest remaining first at s.seen rest s.behind_them l,
            subst (λ (ns : List Node). TellsFirst i low (trees_of ns) own) whole tells,
          ),
        )

    pub fits_ends : (fault : StreamFault) (rest : List Node) → LeavesNodes remaining at (Ok rest) → Fits i left (next_line at) (Fault fault) rest
        → AnswersAll i low remaining first taken (Err fault)
    fits_ends Read rest l fits = absurd fits
    fits_ends TooLong rest l fits = absurd fits
    fits_ends (Text error) rest l fits = absurd fits
    fits_ends (InCert own) rest l fits = wrong_ends own rest l fits

    pub proof_ends : LeavesNodes remaining at (Ok []) → left ≡ [] → AnswersAll i low remaining first taken (Ok tt)
    proof_ends l none =
        let s = u.so_far closed.0 closed.1.0 in
        let last = subst (IsSeen i low s.seen closed.0) none s.so_far in
        (s.seen, (behind_all remaining first at s.seen s.behind_them l, all_proved i low s.seen closed.0 last closed.1.1))

-- What taking the next node of a stream comes to, where a leaf's steps aren't read yet.
use Rattle.std.proofs.Common.{◌≡◌, ℕ, ◌+◌, ◌^◌, ◌<◌, List, [], ◌∷◌, ◌++◌, Option, Some, IfSome, Ok, reverse, arith, refl, sym, ap, subst, ◌∙◌}
use Rattle.std.specs.Global.{Vec}
use Rattle.std.proofs.lemmas.List.{append_assoc}
use Rattle.ttp_model.specs.declared.step.Step.{Step}
use Rattle.ttp_model.specs.Instance.{Instance}
use Rattle.tt_choice.specs.Choice.{Choice}
use Rattle.tt_choice.specs.Branches.{child_choices}
use Rattle.certificate.specs.declared.branch.Branch.{Branch}
use Rattle.certificate.specs.declared.fault.CertTextError.TheVariants as text
use Rattle.certificate.specs.declared.fault.SourceFault.{SourceFault}
use Rattle.certificate.specs.declared.fault.SourceFault.TheVariants as source
use Rattle.certificate.specs.declared.head.Head.{Head}
use Rattle.certificate.specs.declared.head.Head.TheVariants.{OfBranch, OfLeaf}
use Rattle.certificate.specs.declared.node.Node.TheVariants as node
use Rattle.certificate.specs.declared.stream.CertStream.{CertStream}
use Rattle.certificate.specs.Words.{count_of, node_of_head}
use Rattle.certificate.specs.Reading.{steps_at}
use Rattle.certificate.specs.Sources.{Origin}
use Rattle.certificate.specs.Opened.{still_due, TakesChild}
use Rattle.certificate.specs.Streams.{stream_version, next_line, still_to_come, bytes_taken, LeavesNodes, LeavesNext, LeavesPiece, StreamIsFrom, IsNodeFault}
use Rattle.tree_check.specs.declared.walk.Walk.{Walk}
use Rattle.tree_check.specs.Seen.{TellsBranch}
use Rattle.tree_check.specs.Turns.{IsWalk}
use Rattle.cert_check.specs.declared.leaves.HeldLeaf.{HeldLeaf}
use Rattle.cert_check.specs.declared.ahead.Ahead.{Ahead}
use Rattle.cert_check.specs.declared.ahead.Ahead.TheVariants.{More, End, Fault}
use Rattle.cert_check.specs.declared.fault.StreamFault.{StreamFault}
use Rattle.cert_check.specs.declared.fault.StreamFault.TheVariants.{Read, TooLong, Text, Cert as InCert}
use Rattle.cert_check.specs.Streams.{fault_of_source}
use Rattle.cert_check.specs.UnderWay.{IsAhead, IsUnderWay, Stands, to_come}
use Rattle.cert_check.specs.Waiting.{TakeFails, Takes, held_leaf}
use Rattle.cert_check.proofs.NextNodes.{one_due, first_left}
use Rattle.cert_check.proofs.Taking.{branch_taken, leaf_waits}

-- The next node's line says this, and the lines of its steps were passed.
pub record IsPiece {R : Type 0} (remaining : R → Option (List ℕ)) (now next : CertStream R) (head : Head) (line : ℕ) (steps : List ℕ) : Type 0 where
  pub leaves : LeavesPiece remaining now next steps (Some (head, line))
  pub here : line ≡ next_line now
  pub small : line < 2 ^ 63
  pub due : (read : List Step) → TakesChild (still_to_come now) (still_to_come next) (node_of_head head read)
  pub passed : next_line next ≡ next_line now + 1 + count_of head
  pub from : (origin : Origin) → StreamIsFrom remaining now origin → StreamIsFrom remaining next origin

pub is_piece : {R : Type 0} (remaining : R
    → Option (List ℕ)) (now next : CertStream R) (steps : List ℕ) (found : Option (Head × ℕ)) (said : Head × ℕ) → found ≡ Some said
    → LeavesPiece remaining now next steps found → IfSome found (λ x. x.1 ≡ next_line now) → IfSome found (λ x. x.1 < 2 ^ 63)
    → IfSome found (λ x. (read : List Step) → TakesChild (still_to_come now) (still_to_come next) (node_of_head x.0 read))
    → IfSome found (λ x. next_line next ≡ next_line now + 1 + count_of x.0) → ((origin : Origin)
    → StreamIsFrom remaining now origin → StreamIsFrom remaining next origin) → IsPiece remaining now next said.0 said.1 steps
is_piece remaining now next steps found said is leaves here small due passed from = record {
  leaves = subst (LeavesPiece remaining now next steps) is leaves;
  here = subst (λ (f : Option (Head × ℕ)). IfSome f (λ x. x.1 ≡ next_line now)) is here;
  small = subst (λ (f : Option (Head × ℕ)). IfSome f (λ x. x.1 < 2 ^ 63)) is small;
  due =
      subst (λ (f : Option (Head × ℕ)). IfSome f (λ x. (read : List Step) → TakesChild (still_to_come now) (still_to_come next)
      (node_of_head x.0 read))) is due;
  passed = subst (λ (f : Option (Head × ℕ)). IfSome f (λ x. next_line next ≡ next_line now + 1 + count_of x.0)) is passed;
  from = from;
}

-- a branch's line says all of it
branch_said : {R : Type 0} (remaining : R → Option (List ℕ)) (now next : CertStream R) (branch : Branch) (line : ℕ) (steps : List ℕ)
    → LeavesPiece remaining now next steps (Some (OfBranch branch, line)) → LeavesNext remaining now next (Some (node.Branch branch, next_line now))
unfolding steps_at
branch_said remaining now next branch line steps leaves = λ read l. leaves read l

-- what is wrong with the next lines
lines_ahead : {R : Type 0} (i : Instance) (remaining : R
    → Option (List ℕ)) (at now : CertStream R) (w : Walk) (left : List Choice) (fault : SourceFault)
    → IsNodeFault (LeavesNodes remaining at) (bytes_taken now) fault → IsAhead i remaining at now w left (Fault (fault_of_source fault))
lines_ahead i remaining at now w left source.Read is = tt
lines_ahead i remaining at now w left source.TooLong is = is
lines_ahead i remaining at now w left (source.Text text.OutOfMemory) is = tt
lines_ahead i remaining at now w left (source.Text (text.At line fault)) is = is

module _ {R : Type 0} (i : Instance) (low : ℕ) (remaining : R → Option (List ℕ)) (first now : CertStream R) (w : Walk) (hs : List HeldLeaf)
    (s : Stands i low remaining first now w hs More) where
  under_way_here : IsUnderWay i low remaining first now s.left hs
  under_way_here = subst (λ (at : CertStream R). IsUnderWay i low remaining first at s.left hs) s.is_ahead.0 s.under_way

  module _ (next : CertStream R) (from : (origin : Origin) → StreamIsFrom remaining now origin → StreamIsFrom remaining next origin) where
    -- the lines are at fault, or end
    pub lines_fail : (other : Walk) (fault : SourceFault) → IsNodeFault (LeavesNodes remaining now) (bytes_taken next) fault
        → Stands i low remaining first next other hs (Fault (fault_of_source fault))
    lines_fail other fault is = record {
      at = now;
      left = s.left;
      under_way = under_way_here;
      is_ahead = lines_ahead i remaining now next other s.left fault is;
      from = λ origin is. from origin (s.from origin is);
    }

    pub lines_end : (other : Walk) → LeavesNodes remaining now (Ok []) → still_due (reverse (still_to_come now)) ≡ []
        → Stands i low remaining first next other hs End
    lines_end other ends closed = record {
      at = now;
      left = s.left;
      under_way = under_way_here;
      is_ahead = (ends, closed);
      from = λ origin is. from origin (s.from origin is);
    }

  module _ (next : CertStream R) (head : Head) (line : ℕ) (steps : Vec ℕ) (p : IsPiece remaining now next head line steps.items) where
    -- the choice that the node stands at
    there : (c : Choice) × (left : List Choice) × (s.left ≡ c ∷ left)
    there = first_left s.left (omega (arith, under_way_here.count, one_due (still_to_come now) (still_to_come next) (node_of_head head []) (p.due [])))

    pub next_there : (c : Choice) × (left : List Choice) × (IsWalk i w (c ∷ left))
    next_there = (there.0, there.1, subst (IsWalk i w) there.2 s.is_ahead.1)

    at_choice : IsUnderWay i low remaining first now (there.0 ∷ there.1) hs
    at_choice = subst (λ (left : List Choice). IsUnderWay i low remaining first now left hs) there.2 under_way_here

    arrives : (taken : Walk) (more : List HeldLeaf) (left : List Choice) → IsUnderWay i low remaining first next left more → IsWalk i taken left
        → Stands i low remaining first next taken more More
    arrives taken more left u walk = record {
      at = next;
      left = left;
      under_way = u;
      is_ahead = (refl, walk);
      from = λ origin is. p.from origin (s.from origin is);
    }

    stops : (other : Walk) (fault : StreamFault) → IsAhead i remaining now next other (there.0 ∷ there.1) (Fault fault)
        → Stands i low remaining first next other hs (Fault fault)
    stops other fault is = record {
      at = now;
      left = there.0 ∷ there.1;
      under_way = at_choice;
      is_ahead = is;
      from = λ origin is. p.from origin (s.from origin is);
    }

module _ {R : Type 0} (i : Instance) (low : ℕ) (remaining : R → Option (List ℕ)) (first now : CertStream R) (w : Walk) (front old : List HeldLeaf)
    (s : Stands i low remaining first now w (front ++ old) More) (next : CertStream R) where
  -- it is taken
  taken_at : (taken : Walk) (more : List HeldLeaf) (head : Head) (line : ℕ) (steps : Vec ℕ) (p : IsPiece remaining now next head line steps.items)
      → (c : Choice) (left : List Choice) → IsUnderWay i low remaining first now (c ∷ left) (front ++ old)
      → Takes i (stream_version next) taken old more head line steps c left → Stands i low remaining first next taken (front ++ more) More
  taken_at taken more (OfBranch branch) line steps p c left u takes =
      let leaves = branch_said remaining now next branch line steps.items p.leaves in
      let on = branch_taken i low remaining first now next c left (front ++ old) u branch leaves (p.due []) (omega (arith, p.passed)) takes.0 in
      rw takes.1.1 (arrives i low remaining first now w (front ++ old) s next (OfBranch branch) line steps p taken (front ++ old)
      (child_choices i c branch.kind ++ left) on takes.1.0)
  taken_at taken more (OfLeaf goal count) line steps p c left u takes =
      let on = leaf_waits i low remaining first now next c left (front ++ old) u goal count line steps p.leaves p.here p.passed takes.0 (p.due []) in
      let whole : front ++ more ≡ (front ++ old) ++ held_leaf c (stream_version next) goal count line steps ∷ [] = ap
      (λ (hs : List HeldLeaf). front ++ hs) takes.1.1 ∙ sym (append_assoc front old (held_leaf c (stream_version next) goal count line steps ∷ [])) in
      rw whole (arrives i low remaining first now w (front ++ old) s next (OfLeaf goal count) line steps p taken
      ((front ++ old) ++ held_leaf c (stream_version next) goal count line steps ∷ []) left on takes.1.0)

  pub taken_on : (taken : Walk) (more : List HeldLeaf) (head : Head) (line : ℕ) (steps : Vec ℕ)
      (p : IsPiece remaining now next head line steps.items)
      → ((c : Choice) (left : List Choice) → IsWalk i w (c ∷ left) → Takes i (stream_version next) taken old more head line steps c left)
      → Stands i low remaining first next taken (front ++ more) More
  unfolding next_there there
  taken_on taken more head line steps p takes =
      let here = next_there i low remaining first now w (front ++ old) s next head line steps p in
      taken_at taken more head line steps p here.0 here.1 (at_choice i low remaining first now w (front ++ old) s next head line steps p)
      (takes here.0 here.1 here.2)

  -- or it is not
  stopped_at : (other : Walk) (head : Head) (line : ℕ) (steps : Vec ℕ) (p : IsPiece remaining now next head line steps.items) (c : Choice)
      (left : List Choice) (fault : StreamFault) → TakeFails i head line c fault → IsAhead i remaining now next other (c ∷ left) (Fault fault)
  stopped_at other head line steps p c left Read fails = absurd fails
  stopped_at other head line steps p c left TooLong fails = absurd fails
  stopped_at other head line steps p c left (Text error) fails = rw fails tt
  stopped_at other (OfBranch branch) line steps p c left (InCert own) fails = record {
    branch = branch;
    choice = c;
    others = left;
    left_is = refl;
    leaves = branch_said remaining now next branch line steps.items p.leaves;
    low_line = omega (arith, p.here, p.small);
    tells = subst (λ (l : ℕ). TellsBranch i c branch l own) p.here fails;
  }
  stopped_at other (OfLeaf goal count) line steps p c left (InCert own) fails = absurd fails

  pub not_taken : (other : Walk) (kept : List HeldLeaf) (head : Head) (line : ℕ) (steps : Vec ℕ)
      (p : IsPiece remaining now next head line steps.items) (fault : StreamFault) → kept ≡ old
      → ((c : Choice) (left : List Choice) → IsWalk i w (c ∷ left) → TakeFails i head line c fault)
      → Stands i low remaining first next other (front ++ kept) (Fault fault)
  unfolding next_there there
  not_taken other kept head line steps p fault same fails =
      let here = next_there i low remaining first now w (front ++ old) s next head line steps p in
      rw same (stops i low remaining first now w (front ++ old) s next head line steps p other fault
      (stopped_at other head line steps p here.0 here.1 fault (fails here.0 here.1 here.2)))

-- where nothing more is ahead, no step is to come
pub nothing_to_come : {R : Type 0} (ahead : Ahead) (s : CertStream R) → ¬ (ahead ≡ More) → to_come ahead s ≡ 0
nothing_to_come More s closed = absurd (closed refl)
nothing_to_come End s closed = refl
nothing_to_come (Fault fault) s closed = refl

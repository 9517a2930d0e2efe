-- One node more of those that were taken.
use Rattle.std.proofs.Common.{◌≡◌, ℕ, ◌+◌, List, [], ◌∷◌, ◌++◌, All, reverse, Option, Some, Ok, Err, arith, inl, inr, refl, sym, ap, subst, ◌∙◌}
use Rattle.std.specs.Global.{Vec}
use Rattle.std.proofs.lemmas.List.{length-append}
use Rattle.std.proofs.lemmas.List.Elements.{All-nil, All-cons, All-head, All-push, All-tail}
use Rattle.ttp_model.specs.Instance.{Instance}
use Rattle.tt_choice.specs.Choice.{Choice}
use Rattle.tt_choice.specs.Branches.{IsBranch, child_choices, root_choice}
use Rattle.certificate.specs.declared.branch.Branch.{Branch as TreeBranch}
use Rattle.certificate.specs.declared.fault.CertTextError.{CertTextError}
use Rattle.certificate.specs.declared.head.Head.TheVariants.{OfLeaf}
use Rattle.certificate.specs.declared.node.Node.{Node}
use Rattle.certificate.specs.declared.node.Node.TheVariants as node
use Rattle.certificate.specs.declared.stream.CertStream.{CertStream}
use Rattle.certificate.specs.RawLines.{node_said}
use Rattle.certificate.specs.Reading.{Reading}
use Rattle.certificate.specs.Opened.{in_front, TakesChild}
use Rattle.certificate.specs.Streams.{stream_version, next_line, still_to_come, LeavesNodes, LeavesNext, LeavesPiece, said_in_front}
use Rattle.certificate.proofs.RawNodes.{steps_count}
use Rattle.tree_check.specs.declared.walk.Walk.{Walk}
use Rattle.tree_check.specs.Turns.{IsWalk}
use Rattle.tree_check.specs.Seen.{ReadLeaf, IsSeen}
use Rattle.tree_check.proofs.Seen.{line_more, seen_none, seen_node, seen_leaf, seen_judged}
use Rattle.cert_check.specs.declared.leaves.HeldLeaf.{HeldLeaf}
use Rattle.cert_check.specs.Waiting.{Waits, leaf_with, held_leaf, AreRead, IsUnread, Judges}
use Rattle.cert_check.specs.declared.ahead.Ahead.{Ahead}
use Rattle.cert_check.specs.declared.ahead.Ahead.TheVariants.{More}
use Rattle.cert_check.specs.UnderWay.{IsReadSoFar, IsUnderWay, Stands, total_due}
use Rattle.cert_check.proofs.Runs.{read_behind, unread_behind}
use Rattle.cert_check.proofs.Streams.{behind_first, behind_more}
use Rattle.cert_check.proofs.Waiting.{read_last, unread_last}
use Rattle.cert_check.proofs.NextNodes.{takes_one, leaves_more, branch_count}

none_read : (rs : List ReadLeaf) → AreRead [] rs → [] ≡ rs
none_read [] are = refl
none_read (r ∷ rs) are = absurd are

pub waits_in_front : (P : HeldLeaf → Type 0) (front hs : List HeldLeaf) → All P (front ++ hs) → All P front
waits_in_front P [] hs all = All-nil P
waits_in_front P (h ∷ front) hs all = All-cons P h front (All-head P h (front ++ hs) all) (waits_in_front P front hs (All-tail P h (front ++ hs) all))

pub waits_behind : (P : HeldLeaf → Type 0) (front hs : List HeldLeaf) → All P (front ++ hs) → All P hs
waits_behind P [] hs all = all
waits_behind P (h ∷ front) hs all = waits_behind P front hs (All-tail P h (front ++ hs) all)

module _ {R : Type 0} (i : Instance) (low : ℕ) (remaining : R → Option (List ℕ)) (first now : CertStream R) where
  -- none was taken
  pub begins_under_way : still_to_come first ≡ 1 ∷ [] → next_line first ≡ 3 → IsUnderWay i low remaining first first (root_choice i ∷ []) []
  begins_under_way due line = record {
    count = sym (ap (λ (ks : List ℕ). total_due (reverse ks)) due);
    waits = All-nil (Waits i);
    unread = λ fault is read left. absurd is;
    so_far = λ rs are. record {
      seen = [];
      behind_them = behind_first remaining first first;
      so_far = subst (λ (xs : List ReadLeaf). IsSeen i low [] xs (root_choice i ∷ [])) (none_read rs are) (seen_none i low);
      line = line;
    };
  }

  -- those in front close, and wait no more
  pub front_judged : (left : List Choice) (front hs : List HeldLeaf) → IsUnderWay i low remaining first now left (front ++ hs)
      → Judges i low front (Ok tt) → IsUnderWay i low remaining first now left hs
  front_judged left front hs u judged = record {
    count = u.count;
    waits = waits_behind (Waits i) front hs u.waits;
    unread = λ fault is read l. u.unread fault (unread_behind front hs judged.0 fault judged.1.0 is) read l;
    so_far = λ rs are.
        let s = u.so_far (judged.0 ++ rs) (read_behind front hs judged.0 rs judged.1.0 are) in
        record {
          seen = s.seen;
          behind_them = s.behind_them;
          so_far = seen_judged i low s.seen judged.0 rs left judged.1.1 s.so_far;
          line = s.line;
        };
  }

  -- ---- one node more

  module _ (next : CertStream R) (c : Choice) (left : List Choice) (hs : List HeldLeaf) (u : IsUnderWay i low remaining first now (c ∷ left) hs) where
    pub branch_taken : (branch : TreeBranch) → LeavesNext remaining now next (Some (node.Branch branch, next_line now))
        → TakesChild (still_to_come now) (still_to_come next) (node.Branch branch) → next_line next ≡ next_line now + 1
        → IsBranch i c branch.kind branch.children → IsUnderWay i low remaining first next (child_choices i c branch.kind ++ left) hs
    branch_taken branch leaves t passed suits =
        let below = child_choices i c branch.kind in
        let counted = branch_count i c branch suits in
        record {
          count =
              omega (
                arith,
                length-append (child_choices i c branch.kind) left,
                counted,
                u.count,
                takes_one (still_to_come now) (still_to_come next) (node.Branch branch) t,
                leaves_more (still_to_come now) (still_to_come next) (node.Branch branch) t,
              );
          waits = u.waits;
          unread = λ fault is read left. u.unread fault is (in_front (node.Branch branch) read) (leaves read left);
          so_far = λ rs are.
              let s = u.so_far rs are in
              record {
                seen = s.seen ++ node.Branch branch ∷ [];
                behind_them = behind_more remaining first now next (node.Branch branch, next_line now) leaves s.seen s.behind_them;
                so_far = seen_node i low s.seen rs c left (node.Branch branch) s.so_far suits;
                line = omega (arith, passed, s.line, line_more s.seen (node.Branch branch));
              };
        }

    module _ (goal count line : ℕ) (steps : Vec ℕ) (leaves : LeavesPiece remaining now next steps.items (Some (OfLeaf goal count, line)))
        (here : line ≡ next_line now) (passed : next_line next ≡ next_line now + 1 + count) where
      pub leaf_read : (rs : List ReadLeaf) → AreRead (hs ++ held_leaf c (stream_version next) goal count line steps ∷ []) rs
          → IsReadSoFar i low remaining first next left rs
      leaf_read rs are =
          let last = read_last hs (held_leaf c (stream_version next) goal count line steps) rs are in
          let s = u.so_far last.0 last.2.1.0 in
          let said : node_said (stream_version next) (OfLeaf goal count) line steps.items
          ≡ Ok (node.Leaf (record { goal = goal; steps = last.1 })) = rw last.2.1.1 refl in
          let next_is : LeavesNext remaining now next (Some (node.Leaf (record { goal = goal; steps = last.1 }), line)) = λ read l. subst
          (λ (x : Reading Node). LeavesNodes remaining now (said_in_front x read)) said (leaves read l) in
          let long = steps_count (stream_version next) count (line + 1) steps.items last.1 last.2.1.1 in
          let seen = seen_leaf i low s.seen last.0 (leaf_with (held_leaf c (stream_version next) goal count line steps) last.1) left s.so_far (here ∙ s.line) in
          record {
            seen = s.seen ++ node.Leaf (record { goal = goal; steps = last.1 }) ∷ [];
            behind_them = behind_more remaining first now next (node.Leaf (record { goal = goal; steps = last.1 }), line) next_is s.seen s.behind_them;
            so_far =
                subst (λ (xs : List ReadLeaf). IsSeen i low (s.seen ++ node.Leaf (record { goal = goal; steps = last.1 }) ∷ []) xs left) (sym last.2.0) seen;
            line = omega (arith, passed, s.line, long, line_more s.seen (node.Leaf (record { goal = goal; steps = last.1 })));
          }

      pub leaf_unread : (fault : CertTextError) → IsUnread (hs ++ held_leaf c (stream_version next) goal count line steps ∷ []) fault
          → (read : Reading (List Node)) → LeavesNodes remaining next read → LeavesNodes remaining first (Err fault)
      leaf_unread fault is read l = elim (unread_last hs (held_leaf c (stream_version next) goal count line steps) fault is) [
        | inl before ↦ u.unread fault before (said_in_front (node_said (stream_version next) (OfLeaf goal count) line steps.items) read) (leaves read l)
        | inr own ↦
            let said : node_said (stream_version next) (OfLeaf goal count) line steps.items ≡ Err fault = rw own.1 refl in
            let s = u.so_far own.0.0 own.0.1 in
            s.behind_them (Err fault) (subst (λ (x : Reading Node). LeavesNodes remaining now (said_in_front x read)) said (leaves read l))
      ]

      -- it waits with the others
      pub leaf_waits : Waits i (held_leaf c (stream_version next) goal count line steps)
          → TakesChild (still_to_come now) (still_to_come next) (node.Leaf (record { goal = goal; steps = [] }))
          → IsUnderWay i low remaining first next left (hs ++ held_leaf c (stream_version next) goal count line steps ∷ [])
      leaf_waits waits t = record {
        count =
            omega (
              arith,
              u.count,
              takes_one (still_to_come now) (still_to_come next) (node.Leaf (record { goal = goal; steps = [] })) t,
              leaves_more (still_to_come now) (still_to_come next) (node.Leaf (record { goal = goal; steps = [] })) t,
            );
        waits = All-push (Waits i) hs (held_leaf c (stream_version next) goal count line steps) u.waits waits;
        unread = λ fault is read l. leaf_unread fault is read l;
        so_far = λ rs are. leaf_read rs are;
      }

-- ---- wherever it stands

pub stands_first : {R : Type 0} (i : Instance) (low : ℕ) (remaining : R → Option (List ℕ)) (first : CertStream R) (w : Walk)
    → still_to_come first ≡ 1 ∷ [] → next_line first ≡ 3 → IsWalk i w (root_choice i ∷ []) → Stands i low remaining first first w [] More
stands_first i low remaining first w due line walk = record {
  at = first;
  left = root_choice i ∷ [];
  under_way = begins_under_way i low remaining first first due line;
  is_ahead = (refl, walk);
  from = λ origin is. is;
}

pub front_closes : {R : Type 0} (i : Instance) (low : ℕ) (remaining : R
    → Option (List ℕ)) (first now : CertStream R) (w : Walk) (ahead : Ahead) (front hs : List HeldLeaf)
    → Stands i low remaining first now w (front ++ hs) ahead → Judges i low front (Ok tt) → Stands i low remaining first now w hs ahead
front_closes i low remaining first now w ahead front hs s closed = record {
  at = s.at;
  left = s.left;
  under_way = front_judged i low remaining first s.at s.left front hs s.under_way closed;
  is_ahead = s.is_ahead;
  from = s.from;
}

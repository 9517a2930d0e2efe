-- What is ruled out by kept decisions has a tree that proves it for what they make.
use Rattle.std.proofs.Common.{◌≡◌, ℕ, zero, suc, ◌+◌, ◌<◌, ◌≤◌, List, [], ◌∷◌, ◌++◌, map, true, arith, refl, ap, sym, ◌∙◌}
use Rattle.std.specs.List.{range_with_len}
use Rattle.ttp_model.specs.declared.step.Kind.{Kind}
use Rattle.ttp_model.specs.Instance.{Instance}
use Rattle.ttp_model.specs.Rules.{IsInstance}
use Rattle.tt_choice.specs.Choice.{Choice}
use Rattle.tt_choice.specs.Branches.{root_choice, IsOpen, branch, children, child}
use Rattle.tt_choice.specs.Decisions.{AreOpenDecisions, choice_after, chosen, decision_of}
use Rattle.tt_choice.specs.Kept.{Marked, keep, drop, all_of, kept_of, KeepsPlaces, places_kept}
use Rattle.tt_choice.proofs.Decisions.{after_all-more, open-more, child_after, decision_is_open}
use Rattle.tt_choice.proofs.kept.Branches.{branch_kept, places_of, all_of-keep, all_of-drop, kept_of-keep, kept_of-drop, places-keep, places-drop}
use Rattle.tt_choice.proofs.kept.Law.{ends}
use Rattle.tt_infer.specs.RuledOut.{IsRuledOut}
use Rattle.tt_infer.specs.RuledOut.IsRuledOut.{by_leaf, by_children, by_one}
use Rattle.tt_infer.proofs.shared.RuledOut.{closes_sharply}
use Rattle.tt_infer.proofs.shared.Uses.{leaf_kept}
use Rattle.certificate.specs.declared.node.Node.TheVariants as node
use Rattle.certificate.specs.Branch.{branch_of}
use Rattle.certificate.specs.Trees.{Trees, none, grow}
use Rattle.tree_check.specs.Proofs.{AreProofs}

-- one tree in front of others
in_front : Trees → Trees → Trees
in_front none others = others
in_front (grow one below beside) others = grow one below others

module _ (i : Instance) (low : ℕ) where
  front_proofs : (c : Choice) (cs : List Choice) (tree others : Trees) → AreProofs i low (c ∷ []) tree → AreProofs i low cs others
      → AreProofs i low (c ∷ cs) (in_front tree others)
  unfolding in_front
  front_proofs c cs none others one rest = absurd one
  front_proofs c cs (grow top below none) others one rest = (one.0, (one.1.0, rest))
  front_proofs c cs (grow top below (grow next deep beside)) others one rest = absurd one.1.1

  -- a tree for each of some children, one beside the other
  trees_beside : (cs : ℕ → Choice) (from count : ℕ) → ((k : ℕ) → from ≤ k → k < from + count → (tree : Trees) × AreProofs i low (cs k ∷ []) tree)
      → (trees : Trees) × AreProofs i low (map cs (range_with_len from count)) trees
  trees_beside cs from zero each = (none, tt)
  trees_beside cs from (suc count) each =
      let one = each from (omega arith) (omega arith) in
      let rest = trees_beside cs (from + 1) count (λ k above below. each k (omega (arith, above)) (omega (arith, below))) in
      (in_front one.0 rest.0, front_proofs (cs from) (map cs (range_with_len (from + 1) count)) one.0 rest.0 one.1 rest.1)

  module _ (w : IsInstance i) where
    pub proof_of : (ms : List Marked) → IsRuledOut i low ms → AreOpenDecisions i (root_choice i) (all_of ms) → KeepsPlaces true ms
        → (tree : Trees) × AreProofs i low (chosen i (kept_of ms) ∷ []) tree
    proof_of _ (by_leaf ms leaf le closes uses) are places =
        let kept = closes_sharply i (chosen i (kept_of ms)) leaf (leaf_kept i ms leaf w are places uses closes) in
        (grow (node.Leaf leaf) none none, (record { goal = le; closes = kept }, (tt, tt)))
    proof_of _ (by_one ms kind k is there one) are places =
        let d = decision_of i (chosen i (all_of ms)) kind k in
        let open_ones : AreOpenDecisions i (root_choice i) (all_of (ms ++ drop d ∷ [])) = rw (all_of-drop ms d)
        (open-more i (root_choice i) (all_of ms) d are (decision_is_open i (chosen i (all_of ms)) kind k is there)) in
        let found = proof_of (ms ++ drop d ∷ []) one open_ones (places-drop true ms d places) in
        (found.0, rw (kept_of-drop ms d) at found.1)
    proof_of _ (by_children ms kind is has each) are places =
        let c = chosen i (all_of ms) in
        let b = chosen i (kept_of ms) in
        let same = branch_kept i (places_kept true ms) c b (ends i ms w are places) kind has is in
        let one : (k : ℕ) → 0 ≤ k → k < 0 + children i b kind → (tree : Trees) × AreProofs i low (child i b kind k ∷ []) tree =
        λ k from below.
        let there : k < children i c kind = omega (arith, below, same.count) in
        let d = decision_of i c kind k in
        let made : child i b kind k ≡ chosen i (kept_of ms ++ d ∷ []) =
        child_after i b kind k ∙ ap (choice_after i b) (same.decision k) ∙ sym (after_all-more i (root_choice i) (kept_of ms) d) in
        let found = proof_of (ms ++ keep d ∷ []) (each k there)
        (rw (all_of-keep ms d) (open-more i (root_choice i) (all_of ms) d are (decision_is_open i c kind k is there)))
        (places-keep true ms d places (places_of i c kind k (places_kept true ms) has)) in
        (found.0, rw made (rw (kept_of-keep ms d) at found.1)) in
        let below = trees_beside (child i b kind) 0 (children i b kind) one in
        (grow (node.Branch (branch_of kind (branch i b kind).options)) below.0 none, (record { is_open = same.is_open; just = refl }, (below.1, tt)))

-- Where the decisions that a subtree needs are made, no plan is left, whatever else is decided.
use Rattle.std.proofs.Common.{◌≡◌, ℕ, ◌<◌, ◌≤◌, List, [], ◌∷◌, ◌++◌, true, arith, ap, sym, subst, ◌∙◌}
use Rattle.ttp_model.specs.declared.plan.Plan.{Plan}
use Rattle.ttp_model.specs.declared.step.Kind.{Kind}
use Rattle.ttp_model.specs.declared.step.Step.{Step}
use Rattle.ttp_model.specs.declared.step.Leaf.{Leaf}
use Rattle.ttp_model.specs.Instance.{Instance}
use Rattle.ttp_model.specs.Rules.{IsInstance}
use Rattle.tt_choice.specs.declared.decision.Decision.{Decision}
use Rattle.tt_choice.specs.Choice.{Choice, IsIn}
use Rattle.tt_choice.specs.Branches.{root_choice, IsOpen, children, child}
use Rattle.tt_choice.specs.Decisions.{AreOpenDecisions, choice_after, chosen, decision_of}
use Rattle.tt_choice.specs.Kept.{Marked, keep, drop, all_of, kept_of, KeepsPlaces, places_kept}
use Rattle.tt_choice.proofs.Children.{child-IsIn}
use Rattle.tt_choice.proofs.Decisions.{after_all-more, open-more, open-front, child_after, decision_is_open}
use Rattle.tt_choice.proofs.Root.{IsChoice-root}
use Rattle.tt_choice.proofs.kept.Wider.{IsIn-outside, inside_front}
use Rattle.tt_choice.proofs.kept.Branches.{branch_kept, places_of, all_of-keep, all_of-drop, kept_of-keep, kept_of-drop, places-keep, places-drop}
use Rattle.tt_choice.proofs.kept.Law.{ends}
use Rattle.sought_plans.specs.Known.{Known, IsSought, first_facts}
use Rattle.tt_infer.specs.Leaves.{Lead, LeadSharply, ClosesLeaf, ClosesSharply}
use Rattle.tt_infer.specs.RuledOut.{IsRuledOut}
use Rattle.tt_infer.specs.RuledOut.IsRuledOut.{by_leaf, by_children, by_one}
use Rattle.tt_infer.proofs.Leaves.{leaf_leaves_none}
use Rattle.tt_infer.proofs.shared.Uses.{leaf_kept, kept_choice}

pub Lead-sharply : (i : Instance) (c : Choice) (goal : ℕ) (f : Known) (steps : List Step) (g : Known) → LeadSharply i c goal f steps g → Lead i c goal f steps g
Lead-sharply i c goal f [] g lead = lead
Lead-sharply i c goal f (step ∷ steps) g lead = (lead.0, (lead.1.0, lead.1.1, Lead-sharply i c goal lead.1.0 steps g lead.1.3))

pub closes_sharply : (i : Instance) (c : Choice) (leaf : Leaf) → ClosesSharply i c leaf → ClosesLeaf i c leaf
closes_sharply i c leaf closes = (closes.0, Lead-sharply i c leaf.goal (first_facts i c) leaf.steps closes.0 closes.1, closes.2)

-- a plan that is sought below a bound is sought below a greater one
sought_below : (i : Instance) (c : Choice) (low goal : ℕ) (plan : Plan) → low ≤ goal → IsSought i c low plan → IsSought i c goal plan
sought_below i c low goal plan le sought = record { settled = sought.settled; chosen = sought.chosen; better = omega (arith, sought.better, le) }

module _ (i : Instance) (low : ℕ) (w : IsInstance i) where
  -- one decision more is open
  open_next : (ms : List Marked) (kind : Kind) (k : ℕ) → AreOpenDecisions i (root_choice i) (all_of ms) → IsOpen i (chosen i (all_of ms)) kind → k < children i (chosen i (all_of ms)) kind → AreOpenDecisions i (root_choice i) (all_of ms ++ decision_of i (chosen i (all_of ms)) kind k ∷ [])
  open_next ms kind k are is there =
      open-more i (root_choice i) (all_of ms) (decision_of i (chosen i (all_of ms)) kind k) are (decision_is_open i (chosen i (all_of ms)) kind k is there)

  pub none_left : (ms : List Marked) → IsRuledOut i low ms → AreOpenDecisions i (root_choice i) (all_of ms) → KeepsPlaces true ms → (plan : Plan) → ¬ IsSought i (chosen i (kept_of ms)) low plan
  none_left _ (by_leaf ms leaf le closes uses) are places plan sought =
      leaf_leaves_none i (chosen i (kept_of ms)) leaf w (kept_choice i ms leaf.goal w are places)
      (closes_sharply i (chosen i (kept_of ms)) leaf (leaf_kept i ms leaf w are places uses closes))
      plan (sought_below i (chosen i (kept_of ms)) low leaf.goal plan le sought)
  none_left _ (by_one ms kind k is there one) are places plan sought =
      let d = decision_of i (chosen i (all_of ms)) kind k in
      let open_ones : AreOpenDecisions i (root_choice i) (all_of (ms ++ drop d ∷ [])) = rw (all_of-drop ms d) (open_next ms kind k are is there) in
      none_left (ms ++ drop d ∷ []) one open_ones (places-drop true ms d places) plan
      (rw (kept_of-drop ms d) sought)
  none_left _ (by_children ms kind is has each) are places plan sought =
      let c = chosen i (all_of ms) in
      let b = chosen i (kept_of ms) in
      let same = branch_kept i (places_kept true ms) c b (ends i ms w are places) kind has is in
      let found = child-IsIn i b kind plan (kept_choice i ms low w are places) same.is_open sought.settled.valid sought.chosen in
      let k = found.0 in
      let there : k < children i c kind = rw same.count at found.1 in
      let d = decision_of i c kind k in
      let made : child i b kind k ≡ chosen i (kept_of ms ++ d ∷ []) =
      child_after i b kind k ∙ ap (choice_after i b) (same.decision k) ∙ sym (after_all-more i (root_choice i) (kept_of ms) d) in
      let inside : IsIn i (chosen i (kept_of ms ++ d ∷ [])) plan = subst (λ (x : Choice). IsIn i x plan) made found.2 in
      none_left (ms ++ keep d ∷ []) (each k there)
      (rw (all_of-keep ms d) (open_next ms kind k are is there))
      (places-keep true ms d places (places_of i c kind k (places_kept true ms) has)) plan
      (rw (kept_of-keep ms d) (record { settled = sought.settled; chosen = inside; better = sought.better }))

  -- nor below it, whatever else is decided: so it is of the other children
  pub none_below : (ms : List Marked) (more : List Decision) → IsRuledOut i low ms → AreOpenDecisions i (root_choice i) (all_of ms ++ more) → KeepsPlaces true ms → (plan : Plan) → ¬ IsSought i (chosen i (all_of ms ++ more)) low plan
  none_below ms more ruled are places plan sought =
      let front = open-front i (root_choice i) (all_of ms) more are in
      let outside = IsIn-outside i (chosen i (all_of ms ++ more)) (chosen i (all_of ms)) plan (inside_front i (root_choice i) (all_of ms) more (IsChoice-root i w) are) sought.chosen in
      let wider = IsIn-outside i (chosen i (all_of ms)) (chosen i (kept_of ms)) plan (ends i ms w front places).inside outside in
      none_left ms ruled front places plan (record { settled = sought.settled; chosen = wider; better = sought.better })

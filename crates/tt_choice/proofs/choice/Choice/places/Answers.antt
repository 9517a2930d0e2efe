use Rattle.std.proofs.Common.{◌≡◌, ℕ, length, map, filter, not, arith, ap, sym, ◌∙◌}
use Rattle.std.specs.List.{range_with_len}
use Rattle.tt_choice.specs.declared.decision.Decision.TheVariants as decided
use Rattle.tt_choice.specs.Branches.{is_placed}
use Rattle.tt_choice.proofs.ChildLists.{next_more, next_same, place_each}
use Rattle.tt_choice.proofs.choice.Choice.places.Goals.{then-not-contains+in_ok-push, else-not-contains}
use Rattle.tt_choice.proofs.choice.Choice.places.Goals as goal

pub loop-n-preserved : goal.loop-n-preserved
loop-n-preserved c = elim c.if-not-contains.branch [
  | then-not-contains+in_ok-push w ↦ rw (w.decisions-is, w.in_ok-push.ensures.items, c.loop-n.invariant) (next_more decided.Place c.args.self.now c.loop-n.n-counter (rw (← c.prefix.ensures) (sym c.contains.ensures.value ∙ w.if-not-contains.true)))
  | else-not-contains w ↦ rw (w.decisions-is, c.loop-n.invariant) (next_same decided.Place c.args.self.now c.loop-n.n-counter (rw (← c.prefix.ensures) (sym c.contains.ensures.value ∙ w.if-not-contains.false)))
]

pub returns : goal.returns
returns c =
    let self = c.args.self.now in
    let all : c.loop-n.n-counter ≡ length c.args.instance.now.nodes = omega (arith, ap length c.nodes.ensures.value, c.loop-n-test.false, c.loop-n.auto.n-counter-end, c.nodes.ensures.instance.limits.nodes) in
    c.loop-n.invariant ∙ (ap (λ (n : ℕ). map decided.Place (filter (λ m. not (is_placed self m)) (range_with_len 0 n))) all ∙ place_each c.args.instance.now self)

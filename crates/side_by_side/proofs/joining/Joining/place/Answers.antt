use Rattle.std.proofs.Common.{ℕ, List, Some, true, sym, ap, subst, ◌∙◌}
use Rattle.tt_choice.specs.Choice.{bare}
use Rattle.certificate.specs.declared.node.Node.TheVariants as node
use Rattle.side_by_side.specs.declared.side.Side.{Side}
use Rattle.side_by_side.specs.declared.joining.Joining.{Joining}
use Rattle.side_by_side.specs.Faults.{IsNodeAt}
use Rattle.side_by_side.specs.Found.{side_at}
use Rattle.side_by_side.specs.Steps.{KnowsBest}
use Rattle.side_by_side.proofs.Stages.{here_of}
use Rattle.side_by_side.proofs.Finds.{finds_leader, knows_above, knows_own, own_leaf}
use Rattle.side_by_side.proofs.joining.Joining.place.Goals as goal

pub judge-requires-clause-at : goal.judge-requires-clause-at
judge-requires-clause-at c =
    let old = c.args.self.now in
    let j : Joining = record old { walk = c.go_on.new.self } in
    let here = here_of old.instance.now old.certs.now old.walk c.go_on.new.self old.sides.items old.frames.items c.args.frame old.nodes.items c.requires.at
    c.in-Ok.ensures in
    let above = c.goal_of-above.ensures here.group.above here.frame_is.above in
    let found = rw (c.in-Some.is, c.as_slice-sides.ensures.value, c.as_slice-depth.ensures.value, above) at c.first_greatest-own.ensures in
    let own = own_leaf j c.args.frame here c.in-Some.k found in
    let placed = c.passed_of.ensures ∙ ap (λ (ss : List Side). (side_at ss c.in-Some.k).passed) c.as_slice-sides.ensures.value in
    (own.0, subst (λ (p : ℕ). IsNodeAt old.instance.now old.certs.now c.in-Some.k p (bare c.go_on.new.self.choice) (node.Leaf own.0)) (sym placed) own.2)

pub judge-requires-clause-choice : goal.judge-requires-clause-choice
judge-requires-clause-choice c =
    let old = c.args.self.now in
    let here = here_of old.instance.now old.certs.now old.walk c.go_on.new.self old.sides.items old.frames.items c.args.frame old.nodes.items c.requires.at
    c.in-Ok.ensures in
    here.choice

pub go_on-requires-in-Some-clause-at : goal.go_on-requires-in-Some-clause-at
go_on-requires-in-Some-clause-at c =
    let old = c.args.self.now in
    let j : Joining = record old { walk = c.go_on.new.self } in
    let here = here_of old.instance.now old.certs.now old.walk c.go_on.new.self old.sides.items old.frames.items c.args.frame old.nodes.items c.requires.at
    c.in-Ok.ensures in
    let above = c.goal_of-above.ensures here.group.above here.frame_is.above in
    let found = rw (c.in-Some.is, c.as_slice-sides.ensures.value, c.as_slice-depth.ensures.value, above) at c.first_greatest-own.ensures in
    let leads = rw (c.as_slice-sides.ensures.value, c.as_slice-depth.ensures.value) at c.first_greatest-leads.ensures in
    let own = own_leaf j c.args.frame here c.in-Some.k found in
    let placed = c.passed_of.ensures ∙ ap (λ (ss : List Side). (side_at ss c.in-Some.k).passed) c.as_slice-sides.ensures.value in
    let there = subst (λ (p : ℕ). IsNodeAt old.instance.now old.certs.now c.in-Some.k p (bare c.go_on.new.self.choice) (node.Leaf own.0)) (sym placed) own.2 in
    let closes = c.in_ok-room-in-Some.ensures.closes own.0 there in (
      here,
      subst (λ (p : ℕ). KnowsBest j c.args.frame here (Some (record { certificate = c.in-Some.k; node = p })) true) (sym placed)
          (knows_own j c.args.frame here c.in-Some.k own.0 own.1 own.2 closes),
      finds_leader j c.args.frame here c.first_greatest-leads.result leads,
    )

pub go_on-requires-in-None-clause-at : goal.go_on-requires-in-None-clause-at
go_on-requires-in-None-clause-at c =
    let old = c.args.self.now in
    let j : Joining = record old { walk = c.go_on.new.self } in
    let here = here_of old.instance.now old.certs.now old.walk c.go_on.new.self old.sides.items old.frames.items c.args.frame old.nodes.items c.requires.at
    c.in-Ok.ensures in
    let above = c.goal_of-above.ensures here.group.above here.frame_is.above in
    let found = rw (c.in-None.is, c.as_slice-sides.ensures.value, c.as_slice-depth.ensures.value, above) at c.first_greatest-own.ensures in
    let leads = rw (c.as_slice-sides.ensures.value, c.as_slice-depth.ensures.value) at c.first_greatest-leads.ensures in
    (here, knows_above j c.args.frame here found, finds_leader j c.args.frame here c.first_greatest-leads.result leads)

use Rattle.std.proofs.Common.{inl, sym, subst, arith}
use Rattle.search_workers.specs.Searching.{IsFound}
use Rattle.search_workers.specs.declared.outcome.Outcome.{Outcome}
use Rattle.search_workers.specs.declared.outcome.Outcome.TheVariants.{Optimal, Infeasible}
use Rattle.planner.specs.Answers.{best_of}
use Rattle.planner.specs.Onward.{IsProved}
use Rattle.planner.proofs.RaisedBounds.{end_enough, end_proved, joined_more, told_enough}
use Rattle.planner.proofs.raised.raised.Goals as goal

pub returns-in-Optimal-clause-told : goal.returns-in-Optimal-clause-told
returns-in-Optimal-clause-told c = inl (sym c.in-Optimal.is)

pub returns-in-Optimal-clause-proved : goal.returns-in-Optimal-clause-proved
returns-in-Optimal-clause-proved c = subst (IsProved c.args.instance.now) c.in-Optimal.is c.requires.own

pub returns-in-Optimal-clause-no_lower : goal.returns-in-Optimal-clause-no_lower
returns-in-Optimal-clause-no_lower c =
    let i = c.args.instance.now in
    told_enough i c.args.cert.now (Optimal c.in-Optimal.plan c.in-Optimal.delay c.in-Optimal.own) c.nodes-nodes.ensures.instance c.requires.proves
    (subst (IsProved i) c.in-Optimal.is c.requires.own) (λ why low best own wrong. absurd cc)

pub returns-in-Infeasible-clause-told : goal.returns-in-Infeasible-clause-told
returns-in-Infeasible-clause-told c = inl (sym c.in-Infeasible.is)

pub returns-in-Infeasible-clause-proved : goal.returns-in-Infeasible-clause-proved
returns-in-Infeasible-clause-proved c = subst (IsProved c.args.instance.now) c.in-Infeasible.is c.requires.own

pub returns-in-Infeasible-clause-no_lower : goal.returns-in-Infeasible-clause-no_lower
returns-in-Infeasible-clause-no_lower c =
    let i = c.args.instance.now in
    told_enough i c.args.cert.now (Infeasible c.in-Infeasible.own) c.nodes-nodes.ensures.instance c.requires.proves
    (subst (IsProved i) c.in-Infeasible.is c.requires.own) (λ why low best own wrong. absurd cc)

pub ended-requires : goal.ended-requires
ended-requires c = subst (λ (o : Outcome). IsFound c.args.instance.now (best_of o)) c.in-Stopped.is c.requires.own.found

pub returns-in_ok-both-in-Stopped-clause-proved : goal.returns-in_ok-both-in-Stopped-clause-proved
returns-in_ok-both-in-Stopped-clause-proved c =
    let i = c.args.instance.now in
    let bound = c.in_ok-both-in-Stopped.ensures.bound in
    let found = subst (λ (o : Outcome). IsFound i (best_of o)) c.in-Stopped.is c.requires.own.found in
    end_proved i c.args.gap c.in-Stopped.why c.in-Stopped.best c.in_ok-both-in-Stopped.both c.nodes-nodes.ensures.instance found
    (record { low = bound.within; tree = bound.proved }) c.ended.result c.ended.ensures.answer

pub returns-in_ok-both-in-Stopped-clause-no_lower : goal.returns-in_ok-both-in-Stopped-clause-no_lower
returns-in_ok-both-in-Stopped-clause-no_lower c =
    let i = c.args.instance.now in
    let both = c.in_ok-both-in-Stopped.both in
    let bound = c.in_ok-both-in-Stopped.ensures.bound in
    let own = subst (IsProved i) c.in-Stopped.is c.requires.own in
    let more = joined_more i c.in-Stopped.own c.args.cert.now both own.proves c.requires.proves c.in_ok-both-in-Stopped.ensures.tree bound in
    let enough = end_enough i c.args.gap c.in-Stopped.why c.in-Stopped.best both c.nodes-nodes.ensures.instance own.found
    (record { low = bound.within; tree = bound.proved }) c.ended.result c.ended.ensures.answer in
    omega (arith, more, enough)

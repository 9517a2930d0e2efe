use Rattle.std.proofs.Common.{◌≡◌, ◌∙◌, ◌<◌, ◌≤◌, ap, arith, below_more, slice_index, subst, sym}
use Rattle.std.proofs.lemmas.Bool.{false≢true}
use Rattle.ttp_model.specs.Plans.{round_of}
use Rattle.tt_moves.specs.Earlier.{CanBeSent}
use Rattle.plan_facts.specs.Earliest.{IsFirstRoom}
use Rattle.plan_facts.proofs.Rooms.{can_be_sent, can_be_sent_there, has_room_there, none_before}
use Rattle.plan_facts.proofs.rounds.first_room.Goals as goal

pub of-layout-requires-clause-capacities : goal.of-layout-requires-clause-capacities
of-layout-requires-clause-capacities c = rw c.as_slice-2.ensures c.requires.valid.capacities

pub loop-r-init : goal.loop-r-init
loop-r-init c = λ s lt can. absurd (omega (arith, lt, c.first_in_time-first.ensures.least s can.ready))

pub loop-r-preserved : goal.loop-r-preserved
loop-r-preserved c =
    let i = c.args.instance.now in
    let plan = c.args.plan.now in
    let sooner : c.loop-r.r < round_of plan c.args.m = omega (arith, c.loop-r-test.true, ap (λ xs. slice_index xs c.args.m) c.as_slice-3.ensures) in
    below_more (λ s. ¬ CanBeSent i plan c.args.m s) c.loop-r.r c.loop-r.invariant (λ can. false≢true
    (sym c.if-has_room.false ∙ c.has_room.ensures.1 (has_room_there i plan c.args.m c.requires.valid c.requires.inside c.loop-r.r sooner can)))

pub returns-then-has_room : goal.returns-then-has_room
returns-then-has_room c =
    let i = c.args.instance.now in
    let plan = c.args.plan.now in
    let m = c.args.m in
    let sooner : c.loop-r.r < round_of plan m = omega (arith, c.loop-r-test.true, ap (λ xs. slice_index xs m) c.as_slice-3.ensures) in
    record {
      can = can_be_sent i plan m c.requires.valid c.requires.inside c.first_in_time-first.result c.loop-r.r c.first_in_time-first.ensures (omega arith) sooner
          (c.has_room.ensures.0 c.if-has_room.true);
      least = none_before i plan m c.loop-r.r c.loop-r.invariant;
    }

pub returns : goal.returns
returns c =
    let i = c.args.instance.now in
    let plan = c.args.plan.now in
    let m = c.args.m in
    let own : slice_index c.as_slice-3.result.now m ≡ round_of plan m = ap (λ xs. slice_index xs m) c.as_slice-3.ensures in
    rw own record {
      can = can_be_sent_there i plan m c.requires.valid c.requires.inside;
      least = λ other can. omega (arith, none_before i plan m c.loop-r.r c.loop-r.invariant other can, c.loop-r-test.false, own);
    }

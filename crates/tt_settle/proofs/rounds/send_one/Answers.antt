use Rattle.std.proofs.Common.{◌<◌, ◌≤◌, arith, ap, refl, slice_index, sym, subst}
use Rattle.ttp_model.specs.Plans.{round_of}
use Rattle.tt_settle.specs.Settling.{IsBetter, RestsInRound}
use Rattle.tt_settle.proofs.Trying.{tried_moved, tried_none}
use Rattle.tt_settle.proofs.EarlierRounds.{better_first, rests_in_round}
use Rattle.tt_settle.proofs.rounds.send_one.Goals as goal

pub returns-then-round-as_slice : goal.returns-then-round-as_slice
returns-then-round-as_slice c =
    let sooner : c.first_room-round.result < round_of c.args.plan c.args.m = omega (arith, c.if-round-as_slice.true, ap (λ xs. slice_index xs c.args.m) c.as_slice.ensures) in
    let better = better_first c.args.instance.now c.args.plan c.args.m c.first_room-round.result c.requires.instance c.requires.valid c.requires.inside c.first_room-round.ensures sooner in
    tried_moved c.args.instance.now c.args.plan (λ q. RestsInRound c.args.instance.now q c.args.m) c.send_in.result (subst (IsBetter c.args.instance.now c.args.plan) (sym c.send_in.ensures) better)

pub returns-else-round-as_slice : goal.returns-else-round-as_slice
returns-else-round-as_slice c =
    let late : round_of c.args.plan c.args.m ≤ c.first_room-round.result = omega (arith, c.if-round-as_slice.false, ap (λ xs. slice_index xs c.args.m) c.as_slice.ensures) in
    tried_none c.args.instance.now c.args.plan (λ q. RestsInRound c.args.instance.now q c.args.m) c.args.plan refl (rests_in_round c.args.instance.now c.args.plan c.args.m c.first_room-round.result c.requires.instance c.requires.valid c.requires.inside c.first_room-round.ensures late)

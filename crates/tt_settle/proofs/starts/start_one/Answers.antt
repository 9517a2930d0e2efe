use Rattle.std.proofs.Common.{arith, ap}
use Rattle.ttp_model.specs.Plans.{start_of}
use Rattle.tt_settle.specs.Settling.{RestsAtStart}
use Rattle.tt_settle.proofs.Trying.{tried_moved, tried_none}
use Rattle.tt_settle.proofs.EarlierStarts.{better_started, rests_at_start}
use Rattle.std.proofs.Common.{◌<◌, ◌≤◌, refl, slice_index, sym, subst}
use Rattle.tt_settle.specs.Settling.{IsBetter}
use Rattle.tt_settle.proofs.starts.start_one.Goals as goal

pub returns-then-first-from : goal.returns-then-first-from
returns-then-first-from c =
    let sooner : c.first_start-first.result < start_of c.args.plan c.args.p = omega (arith, c.if-first-from.true, c.from.ensures, ap (λ xs. slice_index xs c.args.p) c.as_slice.ensures) in
    let better = better_started c.args.instance.now c.args.plan c.args.p c.first_start-first.result c.requires.instance c.requires.valid c.requires.inside c.first_start-first.ensures sooner in
    tried_moved c.args.instance.now c.args.plan (λ q. RestsAtStart c.args.instance.now q c.args.p) c.start_at.result (subst (IsBetter c.args.instance.now c.args.plan) (sym c.start_at.ensures) better)

pub returns-else-first-from : goal.returns-else-first-from
returns-else-first-from c =
    let late : start_of c.args.plan c.args.p ≤ c.first_start-first.result = omega (arith, c.if-first-from.false, c.from.ensures, ap (λ xs. slice_index xs c.args.p) c.as_slice.ensures) in
    tried_none c.args.instance.now c.args.plan (λ q. RestsAtStart c.args.instance.now q c.args.p) c.args.plan refl (rests_at_start c.args.instance.now c.args.plan c.args.p c.first_start-first.result c.requires.instance c.requires.valid c.requires.inside c.first_start-first.ensures late)

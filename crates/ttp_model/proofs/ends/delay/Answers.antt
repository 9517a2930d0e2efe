use Rattle.std.proofs.Common.{max, map, arith}
use Rattle.std.specs.List.{range_with_len}
use Rattle.std.proofs.lemmas.List.FromFn.{map-range_with_len_more}
use Rattle.std.proofs.lemmas.List.Sums.{fold_push}
use Rattle.ttp_model.specs.Plans.{end_of}
use Rattle.ttp_model.proofs.ValidPlans.{delay-le}
use Rattle.ttp_model.proofs.ends.delay.Goals as goal

pub loop-p-preserved : goal.loop-p-preserved
loop-p-preserved c =
    let ends = end_of c.args.instance.now c.args.plan.now in
    let p = c.loop-p.p in
    record {
      last = rw (map-range_with_len_more ends 0 p p (omega arith), fold_push max 0 (map ends (range_with_len 0 p)) (ends p)) (grind arith);
      bound = omega arith;
    }

pub returns-clause-valid : goal.returns-clause-valid
returns-clause-valid c = λ valid.
    let within = delay-le _ _ c.processes-count.ensures.instance valid in
    grind (arith, within)

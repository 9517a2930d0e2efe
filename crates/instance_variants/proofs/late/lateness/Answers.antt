use Rattle.std.proofs.Common.{max, map, arith}
use Rattle.std.specs.List.{range_with_len}
use Rattle.std.proofs.lemmas.List.FromFn.{map-range_with_len_more}
use Rattle.std.proofs.lemmas.List.Sums.{fold_push}
use Rattle.plan_facts.specs.Ends.{late_by}
use Rattle.instance_variants.proofs.late.lateness.Goals as goal

pub loop-p-preserved : goal.loop-p-preserved
loop-p-preserved c =
    let late = late_by c.args.instance.now c.args.plan.now in
    let p = c.loop-p.p in
    record {
      late = rw (map-range_with_len_more late 0 p p (omega arith), fold_push max 0 (map late (range_with_len 0 p)) (late p)) (grind arith);
      bound = omega arith;
    }

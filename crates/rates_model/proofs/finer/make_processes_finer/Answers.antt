use Rattle.std.proofs.Common.{◌≡◌, slice_index_or, sym}
use Rattle.std.proofs.lemmas.List.Edits.{map_over_more}
use Rattle.rates_model.specs.Finer.{finer_process}
use Rattle.rates_model.proofs.finer.make_processes_finer.Goals as goal

pub loop-process-preserved : goal.loop-process-preserved
unfolding finer_process
loop-process-preserved c =
    let item = c.process-item.result in
    let same : slice_index_or c.loop-process.processes c.loop-process.process-index item ≡ item = sym c.process-item.is in
    rw (
      c.saturating_mul-process.ensures,
      c.saturating_mul-process-in-loop-process.ensures,
      c.saturating_mul-process-in-loop-process-2.ensures,
      c.saturating_mul-process-in-loop-process-3.ensures,
      same,
    )
    (map_over_more (finer_process c.args.finer) c.args.processes.now c.loop-process.processes c.loop-process.process-index item c.loop-process-test.true
    c.loop-process.invariant c.process-item.is)

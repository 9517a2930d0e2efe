use Rattle.std.proofs.Common.{◌≢◌, ◌∙◌, ap, slice_index, sym}
use Rattle.ttp_model.specs.declared.parts.Process.{Process}
use Rattle.ttp_model.specs.Instance.{process_at}
use Rattle.ttp_model.specs.Plans.{start_of}
use Rattle.plan_reasons.proofs.Waiting.{starts_late}
use Rattle.plan_reasons.proofs.plan_starts.start_cause.Goals as goal

pub returns : goal.returns
returns c =
    let i = c.args.instance.now in
    let plan = c.args.plan.now in
    let p = c.args.p in
    let late : (process_at i p).release ≢ start_of plan p = λ is. c.if-release-start.false (ap (λ (x : Process). x.release)
    c.process_at.ensures.value ∙ (is ∙ sym (ap (λ xs. slice_index xs p) c.as_slice.ensures))) in (
      starts_late i plan p c.requires.valid c.requires.inside c.first_start.result late c.in_default-process_that_holds.ensures
          c.in_default-message_that_holds.ensures c.first_start.ensures,
      c.first_start.ensures,
    )

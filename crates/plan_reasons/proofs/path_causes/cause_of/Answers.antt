use Rattle.std.proofs.Common.{◌∙◌, ap}
use Rattle.ttp_model.specs.declared.parts.Process.{Process}
use Rattle.plan_reasons.proofs.Holding.{is_held}
use Rattle.plan_reasons.proofs.path_causes.cause_of.Goals as goal

pub unreachable-requires : goal.unreachable-requires
unreachable-requires c =
    is_held c.args.instance.now c.processes-processes.ensures.instance c.args.ends.now c.requires.longest c.args.p c.requires.inside c.args.from
    c.requires.begins (λ is. c.if-from.false (c.from.ensures ∙ ap (λ (x : Process). x.release) c.process_at.ensures.value ∙ is))
    c.in_default.ensures c.in-None.ensures

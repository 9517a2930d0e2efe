use Rattle.std.proofs.Common.{◌∙◌, arith, below_more, sym}
use Rattle.std.proofs.lemmas.Bool.{false≢true}
use Rattle.ttp_model.specs.Parts.{instance_of}
use Rattle.instance_reasons.specs.Circles.{MessageLeads}
use Rattle.instance_reasons.proofs.Walking.{no_message}
use Rattle.instance_reasons.proofs.circles.first_message.Goals as goal

pub loop-m-preserved : goal.loop-m-preserved
loop-m-preserved c =
    below_more (λ k. ¬ MessageLeads (instance_of c.args.parts.now) c.args.p c.args.q k) c.loop-m.m c.loop-m.invariant
    (λ leads. false≢true (sym c.if-message_leads.false ∙ c.message_leads.ensures.1 leads))

pub unreachable-requires : goal.unreachable-requires
unreachable-requires c =
    no_message (instance_of c.args.parts.now) c.args.p c.args.q c.loop-m.m (omega (arith, c.loop-m-test.false)) c.loop-m.invariant c.requires

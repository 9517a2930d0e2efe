-- Which rule of inference a step takes. Own profile.
use Rattle.ttp_model.specs.declared.step.Step.{Step}
use Rattle.ttp_model.specs.declared.step.Step.TheVariants as step
use Rattle.certificate_reasons.specs.declared.rules.Rule.{Rule}
use Rattle.certificate_reasons.specs.declared.rules.Rule.TheVariants as rule

abbrev pub rule_of : Step → Rule
rule_of (step.EsRelease p) = rule.EsRelease
rule_of (step.EsLink p) = rule.EsLink
rule_of (step.EsBefore p q) = rule.EsBefore
rule_of (step.EsArrive p q) = rule.EsArrive
rule_of (step.EsMessage p q) = rule.EsMessage
rule_of (step.LoSend p) = rule.LoSend
rule_of (step.LeOwn p) = rule.LeOwn
rule_of (step.LeLink p) = rule.LeLink
rule_of (step.LeBefore p q) = rule.LeBefore
rule_of (step.LeMessage p q) = rule.LeMessage
rule_of (step.LeSend p) = rule.LeSend
rule_of (step.HiArrive p q) = rule.HiArrive
rule_of (step.OrdWindow p q) = rule.OrdWindow
rule_of (step.OrdTwin p q) = rule.OrdTwin
rule_of (step.UsSettled p) = rule.UsSettled
rule_of (step.XWindow p) = rule.XWindow
rule_of (step.XRound p) = rule.XRound
rule_of (step.XCycle p) = rule.XCycle
rule_of (step.XLoad n a b) = rule.XLoad
rule_of (step.XFrame p) = rule.XFrame
rule_of (step.XFrames n a b) = rule.XFrames
rule_of (step.XChannel k n a b) = rule.XChannel
rule_of (step.XLate p q) = rule.XLate
rule_of (step.XSilent p q) = rule.XSilent
rule_of (step.XMirror p) = rule.XMirror

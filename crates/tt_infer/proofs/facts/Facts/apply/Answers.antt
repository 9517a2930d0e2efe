use Rattle.tt_infer.proofs.Kept.{keeps_all}
use Rattle.tt_infer.proofs.facts.Facts.apply.Goals as goal

pub invariant_of-self : goal.invariant_of-self
invariant_of-self c =
    let s = c.self.inside in
    keeps_all (record { instance = s.setting.instance; choice = s.setting.choice; goal = s.setting.goal; known = s.known }) c.args.step.now c.take.new.known c.take.result c.self.invariant c.take.ensures

use Rattle.std.proofs.Common.{◌∙◌, sym}
use Rattle.std.proofs.lemmas.Bool.{false≢true}
use Rattle.plan_facts.proofs.Silent.{load_on-none}
use Rattle.plan_sheets.proofs.slots.used_in.Goals as goal

pub returns-then-not-sends : goal.returns-then-not-sends
returns-then-not-sends c =
    sym (load_on-none c.args.instance.now c.args.plan.now c.args.n c.args.r c.args.channel c.requires.lengths (λ has. false≢true (sym c.if-not-sends.true ∙ c.requires.sends.1 has)))

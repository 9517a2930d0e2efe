use Rattle.std.proofs.Common.{◌∙◌, refl, sym}
use Rattle.std.proofs.lemmas.Bool.{false≢true}
use Rattle.plan_facts.proofs.Silent.{messages_on-none}
use Rattle.plan_sheets.proofs.slots.carried_in.Goals as goal

pub returns-then-not-sends : goal.returns-then-not-sends
returns-then-not-sends c =
    let none = messages_on-none c.args.instance.now c.args.plan.now c.args.n c.args.r c.args.channel c.requires.lengths (λ has. false≢true (sym c.if-not-sends.true ∙ c.requires.sends.1 has)) in
    rw (c.new.ensures, c.new-none.ensures.items, none) refl

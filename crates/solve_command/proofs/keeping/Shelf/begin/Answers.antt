use Rattle.std.proofs.Common.{◌≡◌, ℕ, ◌≤◌, Option, Some, None, arith, sym, subst}
use Rattle.solve_command.specs.Kept.{IsPlanText}
use Rattle.solve_command.proofs.keeping.Shelf.begin.Goals as goal

at_most : (found : Option ℕ) (ticks held : ℕ) → found ≡ Some ticks → found ≡ Some held → ticks ≤ held
at_most found ticks held a b = grind arith

absurd : (found : Option ℕ) (ticks held : ℕ) → found ≡ None → found ≡ Some held → ticks ≤ held
absurd found ticks held a b = grind arith

pub returns-in-Ok-Some : goal.returns-in-Ok-Some
returns-in-Ok-Some g c held is =
    let text = subst (λ bytes. IsPlanText c.args.instance.now bytes held) (sym c.as_slice.ensures.value) is in
    at_most _ _ _ c.in-Ok-Some.field-0-is (c.in-Ok-Some.ensures.only held text)

pub returns-in-Ok-None : goal.returns-in-Ok-None
returns-in-Ok-None g c held is =
    let text = subst (λ bytes. IsPlanText c.args.instance.now bytes held) (sym c.as_slice.ensures.value) is in
    absurd _ _ _ c.in-Ok-None.field-0-is (c.in-Ok-None.ensures.only held text)

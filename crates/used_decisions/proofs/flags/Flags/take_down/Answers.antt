use Rattle.std.proofs.Common.{ℕ, ◌==◌, replicate, false, length, ap, sym, ◌∙◌}
use Rattle.std.proofs.lemmas.List.{length-map}
use Rattle.used_decisions.proofs.Counted.{none_up_first, none_up_later}
use Rattle.used_decisions.proofs.flags.Flags.take_down.Goals as goal

pub returns-then-self : goal.returns-then-self
returns-then-self c =
    let counts = c.self.inside.counts.items in
    rw (← c.self.view_is, c.forget.ensures)
    (none_up_first (length counts) ∙ ap (λ (n : ℕ). replicate n false) (sym (length-map counts (λ (x : ℕ). x == c.self.inside.count))))

pub returns-else-self : goal.returns-else-self
returns-else-self c = rw (← c.self.view_is) (none_up_later c.self.inside.count c.self.inside.counts.items c.self.invariant)

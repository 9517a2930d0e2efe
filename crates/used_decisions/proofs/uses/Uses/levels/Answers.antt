use Rattle.std.proofs.Common.{ℕ, ◌<◌, length, All, sym, subst, ◌∙◌}
use Rattle.tt_choice.specs.Kept.{fixes_above}
use Rattle.used_decisions.specs.declared.turn.Turn.{Turn}
use Rattle.used_decisions.specs.Turns.{last_of, placed_of}
use Rattle.used_decisions.proofs.Marked.{placed_hold, places_grown, places_marked, told_grown}
use Rattle.used_decisions.proofs.uses.Uses.levels.Goals as goal

pub returns-clause-places : goal.returns-clause-places
returns-clause-places c = λ room.
    let count = length c.args.self.levels in
    let placed = placed_of c.args.path.now.turns in
    places_grown c.mark_places.new.levels c.mark_below.new.levels c.args.self.places placed
    (λ level is. c.mark_below.ensures.grown.kept level (c.mark_above.ensures.grown.kept level is))
    (places_marked c.mark_places.new.levels count c.args.self.places placed (placed_hold (λ level. level < count) c.args.path.now.turns room)
    c.mark_places.ensures.marked)

pub returns-clause-above : goal.returns-clause-above
returns-clause-above c = λ room used n inside.
    let wide = subst (λ (k : ℕ). All (λ (turn : Turn). turn.level < k) c.args.path.now.turns) (sym c.mark_places.ensures.as_wide) room in
    told_grown c.mark_above.new.levels c.mark_below.new.levels (last_of (fixes_above n) c.args.path.now.turns) c.mark_below.ensures.grown.kept
    (c.mark_above.ensures.told wide used n inside)

pub returns-clause-below : goal.returns-clause-below
returns-clause-below c = λ room used n inside.
    let wide = subst (λ (k : ℕ). All (λ (turn : Turn). turn.level < k) c.args.path.now.turns)
    (sym (c.mark_above.ensures.grown.room ∙ c.mark_places.ensures.as_wide)) room in
    c.mark_below.ensures.told wide used n inside

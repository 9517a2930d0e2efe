-- Turns that ended before as many were worked as they might are such of a search with a greater budget.
use Rattle.std.proofs.Common.{ℕ, ◌≤◌, List, arith}
use Rattle.search_workers.specs.piece.Piece.{Piece}
use Rattle.search_workers.specs.declared.outcome.Why.{Why}
use Rattle.search_workers.specs.declared.outcome.Why.TheVariants.{Budget, Memory, CalledOff, Gap, Part}
use Rattle.search_workers.specs.Searching.{IsCutShort, IsWorkedOut}

pub cut_out : (part budget : ℕ) (worked : List Piece) (why : Why) → part ≤ budget → IsCutShort part worked why → IsWorkedOut budget worked why
cut_out part budget worked Budget le cut = absurd cut
cut_out part budget worked Memory le cut = omega (arith, le, cut)
cut_out part budget worked CalledOff le cut = omega (arith, le, cut)
cut_out part budget worked Gap le cut = absurd cut
cut_out part budget worked Part le cut = absurd cut

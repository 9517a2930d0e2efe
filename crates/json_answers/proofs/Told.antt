-- What is told by an object is of what the same command answers by its text, which is kept in memory.
use Rattle.std.proofs.Common.{◌≡◌, ℕ, List, [], Option, Some, IfSome, inr, subst}
use Rattle.std.proofs.KnownBytes.{Keeps-refl}
use Rattle.std.proofs.lemmas.Option.{IfSome_then}
use Rattle.command_streams.specs.declared.ending.End.{End}
use Rattle.json_answers.specs.declared.answers.ObjectFault.{ObjectFault}
use Rattle.json_answers.specs.declared.answers.ObjectFault.TheVariants.{Memory}
use Rattle.json_answers.specs.Telling.{IsEndOr, IsTelling, IsToldBy, end_in_memory}

-- where memory is refused before anything is told nothing is written
pub untold_telling : (at : End) (old : Option (List ℕ)) (end : End) → IsEndOr Memory (end_in_memory at) end → IsTelling IsEndOr (end_in_memory at) old old end
untold_telling at old end ends = inr (record { why = Memory; unwritten = Keeps-refl old; ends = ends })

-- a command that began with no text, ended so, and whose end and text are told so
module _ {E : Type 0} (in_memory : E → E) (IsOr : ObjectFault → E → E → Type 0) (begun text : List ℕ) (at : E) (old new : Option (List ℕ)) (end : E)
    (none : begun ≡ []) (telling : IsTelling IsOr (in_memory at) old new end) where
  told : (IsAnswer : Option (List ℕ) → Option (List ℕ) → E → Type 0) → IsAnswer (Some begun) (Some text) at → IsToldBy in_memory IsOr IsAnswer old new end
  told IsAnswer answers = record {
    text = text;
    at = at;
    answers = subst (λ (bytes : List ℕ). IsAnswer (Some bytes) (Some text) at) none answers;
    told = telling;
  }

  -- of the bytes of one reader
  pub told_of_one : (IsAnswer : List ℕ → Option (List ℕ) → Option (List ℕ) → E → Type 0) (a : Option (List ℕ))
      → IfSome a (λ i. IsAnswer i (Some begun) (Some text) at) → IfSome a (λ i. IsToldBy in_memory IsOr (IsAnswer i) old new end)
  told_of_one IsAnswer a answers = IfSome_then a answers (λ i. told (IsAnswer i))

  -- of two
  pub told_of_two : (IsAnswer : List ℕ → List ℕ → Option (List ℕ) → Option (List ℕ) → E → Type 0) (a b : Option (List ℕ))
      → IfSome a (λ i. IfSome b (λ p. IsAnswer i p (Some begun) (Some text) at))
      → IfSome a (λ i. IfSome b (λ p. IsToldBy in_memory IsOr (IsAnswer i p) old new end))
  told_of_two IsAnswer a b answers = IfSome_then a answers (λ i. told_of_one (IsAnswer i) b)

  -- of three
  pub told_of_three : (IsAnswer : List ℕ → List ℕ → List ℕ → Option (List ℕ) → Option (List ℕ) → E → Type 0) (a b c : Option (List ℕ))
      → IfSome a (λ i. IfSome b (λ p. IfSome c (λ q. IsAnswer i p q (Some begun) (Some text) at)))
      → IfSome a (λ i. IfSome b (λ p. IfSome c (λ q. IsToldBy in_memory IsOr (IsAnswer i p q) old new end)))
  told_of_three IsAnswer a b c answers = IfSome_then a answers (λ i. told_of_two (IsAnswer i) b c)

  -- of four
  pub told_of_four : (IsAnswer : List ℕ → List ℕ → List ℕ → List ℕ → Option (List ℕ) → Option (List ℕ) → E → Type 0) (a b c d : Option (List ℕ))
      → IfSome a (λ i. IfSome b (λ p. IfSome c (λ j. IfSome d (λ q. IsAnswer i p j q (Some begun) (Some text) at))))
      → IfSome a (λ i. IfSome b (λ p. IfSome c (λ j. IfSome d (λ q. IsToldBy in_memory IsOr (IsAnswer i p j q) old new end))))
  told_of_four IsAnswer a b c d answers = IfSome_then a answers (λ i. told_of_three (IsAnswer i) b c d)

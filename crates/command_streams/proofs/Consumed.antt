-- What was taken of a reader after one read more, and where none was.
use Rattle.std.proofs.Common.{List, [], ℕ, ◌++◌, Some, None, Option, ap, ◌∙◌, sym, append_assoc, arith, refl}
use Rattle.std.specs.Io.KnownBytes.{Consumes}
use Rattle.command_streams.specs.Streams.{TakesAtMost}

pub Consumes-more : (old middle new : Option (List ℕ)) (front bytes : List ℕ) → Consumes old middle front → Consumes middle new bytes
    → Consumes old new (front ++ bytes)
Consumes-more None middle new front bytes first second = tt
Consumes-more (Some xs) None new front bytes first second = absurd first
Consumes-more (Some xs) (Some ys) None front bytes first second = absurd second
Consumes-more (Some xs) (Some ys) (Some zs) front bytes first second = first ∙ ap (λ (rest : List ℕ). front ++ rest) second ∙ sym (append_assoc front bytes zs)

Consumes-none : (old : Option (List ℕ)) → Consumes old old []
Consumes-none None = tt
Consumes-none (Some xs) = refl

pub TakesAtMost-none : (most : ℕ) (old : Option (List ℕ)) → TakesAtMost most old old
TakesAtMost-none most old = record { bytes = []; few = omega arith; taken = Consumes-none old }

-- Tests that are kept as the bits of words of 64 bits, from the lowest bit of the first word on. Only private contracts ask for it.
use Rattle.std.specs.Prelude.{ℕ, zero, suc, ◌*◌, ◌/◌, ◌%◌, ◌==◌, List, [], ◌∷◌, slice_index_or, Bool}
use Rattle.std.specs.Int.{bit_at}
use Rattle.tt_choice.specs.Precedence.{Precedence}

-- the bit at a place, counted through all words; none is set behind the last word
abbrev pub bit : List ℕ → ℕ → Bool
bit words place = bit_at (slice_index_or words (place / 64) 0) (place % 64) == 1

-- so many bits from a place on
unfoldable pub bits_from : ℕ → ℕ → List ℕ → List Bool
bits_from zero place words = []
bits_from (suc count) place words = bit words place ∷ bits_from count (suc place) words

-- the table of so many processes whose tests are the first bits
abbrev pub packed : ℕ → List ℕ → Precedence
packed count words = record { processes = count; tests = bits_from (count * count) 0 words }

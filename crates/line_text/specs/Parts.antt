-- The parts of a text, as lists of bytes: own profile.
use Rattle.std.specs.Prelude.{◌≢◌, ℕ, ◌+◌, List, length, take, drop, All, Option, None, Some, ◌==◌, if◌then◌else◌, bytes_eq, position}
use Rattle.std.specs.Option.{option_map}
use Rattle.std.specs.Borrow.{Bor}

-- no byte of the text is this one
abbrev pub Lacks : ℕ → List ℕ → Type 0
Lacks byte bytes = All (λ b. b ≢ byte) bytes

-- before and behind the first such byte, where there is one
unfoldable pub cut : ℕ → List ℕ → Option (List ℕ × List ℕ)
cut byte bytes =
    option_map (λ k. (take k bytes, drop (k + 1) bytes)) (position (λ b. b == byte) bytes)

-- behind a keyword, where the text begins with it
unfoldable pub after_keyword : List ℕ → List ℕ → Option (List ℕ)
after_keyword keyword bytes =
    if bytes_eq (take (length keyword) bytes) keyword
    then Some (drop (length keyword) bytes)
    else None

-- a pair of slices, as lists
abbrev pub seen_pair : Option (Bor (List ℕ) × Bor (List ℕ)) → Option (List ℕ × List ℕ)
seen_pair parts = option_map (λ p. (p.0.now, p.1.now)) parts

-- a slice, as a list
abbrev pub seen_rest : Option (Bor (List ℕ)) → Option (List ℕ)
seen_rest rest = option_map (λ r. r.now) rest

-- How a piece of a refused text is told, so that no control byte reaches a terminal. Own profile.
use Rattle.std.specs.Prelude.{◌≡◌, ℕ, ◌+◌, ◌-◌, ◌/◌, ◌%◌, ◌<◌, Bool, ◌&&◌, nat_le, nat_lt, if◌then◌else◌, ◌⊎◌, List, [], ◌∷◌, ◌++◌, codes, length}
use Rattle.std.specs.List.{flat_map}
use Rattle.line_text.specs.Limits.{most_told}

-- a byte that stands in a line as it is: a letter, a digit, a sign or a space
abbrev pub is_printable : ℕ → Bool
is_printable b = nat_le 32 b && nat_le b 126

-- a hexadecimal digit, in lower case
abbrev pub hex_digit : ℕ → ℕ
hex_digit d = if nat_lt d 10 then 48 + d else 87 + d

-- a byte as it is told: itself, or \x and two hexadecimal digits
unfoldable pub told_byte : ℕ → List ℕ
told_byte b =
    if is_printable b
    then b ∷ []
    else codes "\\x" ++ (hex_digit (b / 16 % 16) ∷ hex_digit (b % 16) ∷ [])

-- the bytes in front of a piece that have so much room, as they are told
abbrev pub told_within : ℕ → List ℕ → List ℕ
told_within room [] = []
told_within room (b ∷ bs) =
    if nat_lt room (length (told_byte b))
    then []
    else told_byte b ++ told_within (room - length (told_byte b)) bs

-- a piece as it is told
unfoldable pub told : List ℕ → List ℕ
told bytes = told_within most_told bytes

-- a text tells all of a piece, or so much of it that its next byte would pass the limit
pub record IsBeginning (bytes text : List ℕ) : Type 0 where
  pub front : List ℕ
  pub rest : List ℕ
  pub parts : bytes ≡ front ++ rest
  pub spelled : text ≡ flat_map told_byte front
  pub ends : (rest ≡ []) ⊎ ((b : ℕ) × (more : List ℕ) × (rest ≡ b ∷ more) × (most_told < length text + length (told_byte b)))

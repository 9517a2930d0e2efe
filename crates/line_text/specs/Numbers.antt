-- Numbers in a text: decimal, without a sign or leading zeros, below 2 ^ 32. Own profile.
use Rattle.std.specs.Prelude.{ℕ, ◌+◌, ◌-◌, ◌*◌, ◌^◌, List, [], ◌∷◌, length, slice_index, Bool, ◌&&◌, ◌||◌, not, ◌==◌, if◌then◌else◌, nat_lt}
use Rattle.std.specs.Char.{is_ascii_digit}
use Rattle.std.specs.List.{list_all}
use Rattle.line_text.specs.declared.number.NumberWord.{NumberWord}
use Rattle.line_text.specs.declared.number.NumberWord.TheVariants.{Malformed, TooLarge, Number}

-- digits, of which the first is 0 only where it is the only one
abbrev pub is_numeral : List ℕ → Bool
is_numeral word =
    not (length word == 0) && list_all is_ascii_digit word
    && (not (slice_index word 0 == 48) || (length word == 1))

-- the number that the digits spell when they follow those of n
abbrev pub value_after : ℕ → List ℕ → ℕ
value_after n [] = n
value_after n (c ∷ cs) = value_after (n * 10 + (c - 48)) cs

-- what a word is as a number: its form comes before its size
unfoldable pub number_word : List ℕ → NumberWord
number_word word =
    if is_numeral word
    then (if nat_lt (value_after 0 word) (2 ^ 32) then Number (value_after 0 word) else TooLarge)
    else Malformed

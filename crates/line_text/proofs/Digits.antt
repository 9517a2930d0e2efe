-- Numerals: reading digits one after another, and the words that `decimal` writes.
use Rattle.std.proofs.Common.{◌≡◌, ◌≢◌, ℕ, zero, suc, ◌+◌, ◌-◌, ◌*◌, ◌^◌, ◌<◌, Bool, true, false, cond, List, [], ◌∷◌, ◌++◌, length, get_or, take, refl, sym, ap, ◌∙◌, arith, ◌&&◌, ◌||◌, not, ltb, ◌↔◌}
use Rattle.std.specs.Prelude.{decimal, ◌==◌}
use Rattle.std.specs.Char.{is_ascii_digit}
use Rattle.std.specs.List.{list_all}
use Rattle.std.proofs.lemmas.Str.Parse.{IsNumeralModel, IsDigitsTest, numerals_by_fold}
use Rattle.std.proofs.lemmas.Fmt.{decimal-digits_value, digits_decimal, digits_value-decimal, decimal_nonempty, first_decimal, decimal_digit}
use Rattle.std.proofs.lemmas.List.{take_more}
use Rattle.std.proofs.Common.{rules}
use Rattle.std.proofs.lemmas.Bool.{ltb-true, lt-ltb}
use Rattle.std.proofs.lemmas.List.Elements.{All-weaker}
use Rattle.std.proofs.lemmas.List.Sums.{AllPass-from_list_all}
use Rattle.line_text.specs.Numbers.{is_numeral, value_after, number_word}
use Rattle.line_text.specs.declared.number.NumberWord.{NumberWord}
use Rattle.line_text.specs.declared.number.NumberWord.TheVariants.{Malformed, TooLarge, Number}
use Rattle.line_text.specs.Parts.{Lacks}

value_after-snoc : (n : ℕ) (xs : List ℕ) (c : ℕ) → value_after n (xs ++ c ∷ []) ≡ value_after n xs * 10 + (c - 48)
value_after-snoc n [] c = refl
value_after-snoc n (x ∷ xs) c = value_after-snoc (n * 10 + (x - 48)) xs c

pub value_after-more : (word : List ℕ) (i : ℕ) → i < length word → value_after 0 (take (i + 1) word) ≡ value_after 0 (take i word) * 10 + (get_or word i 0 - 48)
value_after-more word i lt = rw (take_more word i 0 lt) (value_after-snoc 0 (take i word) (get_or word i 0))

digits_test : IsDigitsTest (λ ds. list_all is_ascii_digit ds ≡ true)
digits_test = search rules

own : IsNumeralModel (λ ds. list_all is_ascii_digit ds ≡ true) (value_after 0)
own = numerals_by_fold _ digits_test value_after (search rules)

and_true : (a b : Bool) → (a && b) ≡ true → (a ≡ true) × (b ≡ true)
and_true true b e = (refl, e)
and_true false b e = absurd cc

number_is : (n m : ℕ) → Number n ≡ Number m → n ≡ m
number_is n m e = cc

picked : (a b : Bool) (v n : ℕ) → cond a (cond b (Number v) TooLarge) Malformed ≡ Number n → (a ≡ true) × (b ≡ true) × (v ≡ n)
picked true true v n e = (refl, refl, number_is v n e)
picked true false v n e = absurd cc
picked false b v n e = absurd cc

no_zero_first : (word : List ℕ) → (not (get_or word 0 0 == 48) || (length word == 1)) ≡ true → get_or word 0 0 ≡ 48 → length word ≡ 1
no_zero_first word h e = grind (arith)

nonempty : (word : List ℕ) → not (length word == 0) ≡ true → 0 < length word
nonempty word h = grind (arith)

-- a word that is read is the number's spelling
pub number_takes : (word : List ℕ) (n : ℕ) → number_word word ≡ Number n → (word ≡ decimal n) × (n < 2 ^ 32)
unfolding number_word
number_takes word n e =
    let s = picked (is_numeral word) (ltb (value_after 0 word) (2 ^ 32)) (value_after 0 word) n e in
    let below : value_after 0 word < 2 ^ 32 = ltb-true _ _ s.1 in
    let a = and_true (not (length word == 0) && list_all is_ascii_digit word) (not (get_or word 0 0 == 48) || (length word == 1)) s.0 in
    let b = and_true (not (length word == 0)) (list_all is_ascii_digit word) a.0 in
    let is : value_after 0 word ≡ n = s.2 in
    let back = decimal-digits_value own word b.1 (nonempty word b.0) (no_zero_first word a.1) (omega arith) in
    (sym back ∙ ap decimal is, omega arith)

is_numeral_from : (word : List ℕ) → 0 < length word → list_all is_ascii_digit word ≡ true → (get_or word 0 0 ≡ 48 → length word ≡ 1) → is_numeral word ≡ true
is_numeral_from word some digits first = grind (arith)

first_zero : (n : ℕ) → n < 2 ^ 32 → get_or (decimal n) 0 0 ≡ 48 → length (decimal n) ≡ 1
first_zero zero lt e = rw (decimal_digit 0 (omega arith)) refl
first_zero (suc n) lt e = absurd (omega (arith, first_decimal (suc n) (omega arith) (omega arith)))

abbrev number : ℕ → NumberWord
number n = Number n

-- a number's spelling is read
pub number_again : (n : ℕ) → n < 2 ^ 32 → number_word (decimal n) ≡ Number n
unfolding number_word
number_again n lt =
    let is : is_numeral (decimal n) ≡ true = is_numeral_from (decimal n) (decimal_nonempty n (omega arith)) (digits_decimal own n (omega arith)) (first_zero n lt) in
    let value : value_after 0 (decimal n) ≡ n = digits_value-decimal own n (omega arith) in
    let below : ltb (value_after 0 (decimal n)) (2 ^ 32) ≡ true = lt-ltb _ _ (rw value lt) in
    let whole : cond (is_numeral (decimal n)) (cond (ltb (value_after 0 (decimal n)) (2 ^ 32)) (Number (value_after 0 (decimal n))) TooLarge) Malformed ≡ Number n = rw (is, below) (ap number value) in
    whole

digit_lacks : (byte : ℕ) → byte < 48 → (c : ℕ) → is_ascii_digit c ≡ true → c ≢ byte
digit_lacks byte lt c e = grind (arith)

-- no byte below the digits stands in a number
pub decimal_lacks : (byte n : ℕ) → byte < 48 → n < 2 ^ 64 → Lacks byte (decimal n)
decimal_lacks byte n lt small =
    All-weaker (λ c. is_ascii_digit c ≡ true) (λ c. c ≢ byte) (digit_lacks byte lt) (decimal n)
    (AllPass-from_list_all is_ascii_digit (decimal n) (digits_decimal own n small))

pub number_word_is : (word : List ℕ) (n : ℕ) → (number_word word ≡ Number n) ↔ ((word ≡ decimal n) × (n < 2 ^ 32))
number_word_is word n = (number_takes word n, λ s. rw s.0 (number_again n s.1))

-- The words of a text as numbers, one after another.
use Rattle.std.proofs.Common.{◌≡◌, ℕ, ◌<◌, true, List, [], ◌∷◌, length, map, Option, Some, None, refl, ap, ◌∙◌, arith}
use Rattle.std.specs.Prelude.{◌==◌, is_some}
use Rattle.std.specs.Borrow.{Bor}
use Rattle.std.specs.List.{slice_split}
use Rattle.std.proofs.lemmas.List.{length-map}
use Rattle.std.proofs.lemmas.List.Splits.{length-slice_split}
use Rattle.line_text.specs.declared.number.NumberWord.{NumberWord}
use Rattle.line_text.specs.Numbers.{number_word}
use Rattle.line_text.specs.Parts.{cut, seen_rest}
use Rattle.line_text.proofs.Cuts.{cut_words, cut_last}
use Rattle.certificate.specs.Reading.{numbers_of}
use Rattle.certificate.specs.Numbers.{words_with}

pub last_word : (text : List ℕ) → cut 32 text ≡ None → numbers_of text ≡ number_word text ∷ []
last_word text e = ap (map number_word) (cut_last 32 text e)

pub word_and_more : (text word more : List ℕ) → cut 32 text ≡ Some (word, more) → numbers_of text ≡ number_word word ∷ numbers_of more
word_and_more text word more e = ap (map number_word) (cut_words 32 text word more e)

pub some_word : (text : List ℕ) → 0 < length (numbers_of text)
some_word text = omega (arith, length-map (slice_split (λ b. b == 32) text) number_word, length-slice_split (λ b. b == 32) text)

two_or_more : (word : NumberWord) (more : Option (Bor (List ℕ))) → is_some more ≡ true → 1 < length (words_with word (seen_rest more))
two_or_more word None e = absurd cc
two_or_more word (Some more) e = omega (arith, some_word more.now)

-- four words, and another behind them
pub more_than_four : (text : List ℕ) (a b c d : NumberWord) (o1 o2 o3 o4 : Option (Bor (List ℕ))) (x1 x2 x3 : Bor (List ℕ))
    → numbers_of text ≡ words_with a (seen_rest o1) → o1 ≡ Some x1
    → numbers_of x1.now ≡ words_with b (seen_rest o2) → o2 ≡ Some x2
    → numbers_of x2.now ≡ words_with c (seen_rest o3) → o3 ≡ Some x3
    → numbers_of x3.now ≡ words_with d (seen_rest o4) → is_some o4 ≡ true → 4 < length (numbers_of text)
more_than_four text a b c d o1 o2 o3 o4 x1 x2 x3 e1 i1 e2 i2 e3 i3 e4 i4 =
    let f1 : numbers_of text ≡ a ∷ numbers_of x1.now = e1 ∙ rw i1 refl in
    let f2 : numbers_of x1.now ≡ b ∷ numbers_of x2.now = e2 ∙ rw i2 refl in
    let f3 : numbers_of x2.now ≡ c ∷ numbers_of x3.now = e3 ∙ rw i3 refl in
    omega (arith, ap length f1, ap length f2, ap length f3, ap length e4, two_or_more d o4 i4)

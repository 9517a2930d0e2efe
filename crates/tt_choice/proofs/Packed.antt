-- What changing one bit of a word does to the tests that words keep.
use Rattle.std.proofs.Common.{◌≡◌, ◌≢◌, ℕ, zero, suc, ◌+◌, ◌*◌, ◌/◌, ◌%◌, ◌^◌, ◌<◌, ◌≤◌, ◌==◌, Bool, true, false, List, length, set, get_or, replicate, bit_and, bit_or, arith, inl, inr, ap, refl, ◌∙◌, get_or-set_other, get_or-set_same}
use Rattle.std.specs.Int.{bit_at, bit_not, w64}
use Rattle.std.proofs.lemmas.Bool.{cases_eq, cases_lt}
use Rattle.std.proofs.lemmas.Nat.{div_below, mul-add-lt}
use Rattle.std.proofs.lemmas.List.{get_or-replicate, get_or_default, length-replicate}
use Rattle.std.proofs.Math.ListN.{get_or-eq_default}
use Rattle.std.proofs.Math.Seq.{set_out}
use Rattle.std.proofs.lemmas.Nat.Bits.{bit_at-zero, bit_at_set_same, bit_at_set_other, bit_at_clear_same, bit_at_clear_other}
use Rattle.tt_choice.specs.Packed.{bit, bits_from, packed}
use Rattle.tt_choice.specs.Precedence.{goes_before, nothing_before, put_before, take_back}
use Rattle.tt_choice.proofs.Before.{test_of}

pub size : (count place : ℕ) (words : List ℕ) → length (bits_from count place words) ≡ count
unfolding bits_from
size zero place words = refl
size (suc count) place words = ap suc (size count (suc place) words)

pub bit_there : (count place k : ℕ) (words : List ℕ) → k < count → get_or (bits_from count place words) k false ≡ bit words (place + k)
unfolding bits_from
bit_there zero place k words inside = absurd (omega arith)
bit_there (suc count) place zero words inside = let here : place ≡ place + 0 = omega arith in ap (bit words) here
bit_there (suc count) place (suc k) words inside =
    let there : suc place + k ≡ place + suc k = omega arith in
    bit_there count (suc place) k words (omega (arith, inside)) ∙ ap (bit words) there

-- words with the same bits keep the same tests
same_bits : (count place : ℕ) (old new : List ℕ) → ((k : ℕ) → place ≤ k → bit new k ≡ bit old k) → bits_from count place new ≡ bits_from count place old
unfolding bits_from
same_bits zero place old new same = refl
same_bits (suc count) place old new same =
    rw (same place (omega arith), same_bits count (suc place) old new (λ k from. same k (omega (arith, from)))) refl

-- words that differ in one bit keep tests that differ at its place
one_bit : (count place i : ℕ) (old new : List ℕ) (b : Bool) → i < count → bit new (place + i) ≡ b
    → ((k : ℕ) → k ≢ place + i → bit new k ≡ bit old k) → bits_from count place new ≡ set (bits_from count place old) i b
unfolding bits_from
one_bit zero place i old new b inside same other = absurd (omega arith)
one_bit (suc count) place zero old new b inside same other =
    let here : place ≡ place + 0 = omega arith in
    rw (ap (bit new) here ∙ same, same_bits count (suc place) old new (λ k from. other k (λ is. omega (arith, from, is)))) refl
one_bit (suc count) place (suc i) old new b inside same other =
    let there : suc place + i ≡ place + suc i = omega arith in
    rw (
      other place (λ is. omega (arith, is)),
      one_bit count (suc place) i old new b (omega (arith, inside)) (ap (bit new) there ∙ same) (λ k differ. other k (λ is. differ (omega (arith, is, there)))),
    ) refl

-- a test that is there has its bit in a word that is there
word_there : (count place : ℕ) (words : List ℕ) → place < count → count ≤ length words * 64 → place / 64 < length words
word_there count place words inside enough = div_below place 64 (length words) (omega arith) (omega (arith, inside, enough))

-- one word is another one
word_set : (count place n : ℕ) (words : List ℕ) (b : Bool) → place < count → count ≤ length words * 64
    → (bit_at n (place % 64) == 1) ≡ b
    → ((k : ℕ) → k < 64 → k ≢ place % 64 → bit_at n k ≡ bit_at (get_or words (place / 64) 0) k)
    → bits_from count 0 (set words (place / 64) n) ≡ set (bits_from count 0 words) place b
word_set count place n words b inside enough same other =
    let there = word_there count place words inside enough in
    let start : 0 + place ≡ place = omega arith in
    one_bit count 0 place words (set words (place / 64) n) b inside
    (rw (start, get_or-set_same words (place / 64) n 0 there) same)
    (λ k differ. elim (cases_eq (k / 64) (place / 64)) [
      | inl row ↦
          let apart : k % 64 ≢ place % 64 = λ column. differ (omega (arith, row, column)) in
          rw (row, get_or-set_same words (place / 64) n 0 there, other (k % 64) (omega arith) apart) refl
      | inr elsewhere ↦ rw (get_or-set_other words (place / 64) (k / 64) n 0 elsewhere) refl
    ])

-- p goes before q by words in one of which the bit is set
pub put_packed : (count p q n : ℕ) (words : List ℕ) → n ≡ get_or words ((p * count + q) / 64) n → p < count → q < count → count * count ≤ length words * 64
    → packed count (set words ((p * count + q) / 64) (bit_or n (1 * 2 ^ ((p * count + q) % 64) % 2 ^ 64))) ≡ put_before (packed count words) p q
put_packed count p q n words is first second enough =
    let place = p * count + q in
    let within : place % 64 < 64 = omega arith in
    let inside = mul-add-lt p count q count first second in
    let word = is ∙ get_or_default words (place / 64) n 0 (word_there (count * count) place words inside enough) in
    let set_in = word_set (count * count) place (bit_or n (1 * 2 ^ (place % 64) % 2 ^ 64)) words true inside enough
    (rw (bit_at_set_same w64 n (place % 64) within) refl)
    (λ k below differ. bit_at_set_other w64 n (place % 64) within k differ ∙ ap (λ m. bit_at m k) word) in
    rw set_in refl

-- p goes before q no more by words in one of which the bit is cleared
pub clear_packed : (count p q n : ℕ) (words : List ℕ) → n ≡ get_or words ((p * count + q) / 64) n → p * count + q < count * count → count * count ≤ length words * 64
    → packed count (set words ((p * count + q) / 64) (bit_and n (bit_not w64 (1 * 2 ^ ((p * count + q) % 64) % 2 ^ 64)))) ≡ take_back (packed count words) p q
clear_packed count p q n words is inside enough =
    let place = p * count + q in
    let within : place % 64 < 64 = omega arith in
    let word = is ∙ get_or_default words (place / 64) n 0 (word_there (count * count) place words inside enough) in
    let cleared = word_set (count * count) place (bit_and n (bit_not w64 (1 * 2 ^ (place % 64) % 2 ^ 64))) words false inside enough
    (rw (bit_at_clear_same w64 n (place % 64) within) refl)
    (λ k below differ. bit_at_clear_other w64 n (place % 64) within k below differ ∙ ap (λ m. bit_at m k) word) in
    rw cleared refl

-- a place behind all tests has none to take back
pub none_to_clear : (count p q : ℕ) (words : List ℕ) → count * count ≤ p * count + q → packed count words ≡ take_back (packed count words) p q
none_to_clear count p q words behind =
    rw (set_out (bits_from (count * count) 0 words) (p * count + q) false (omega (arith, behind, size (count * count) 0 words))) refl

-- the answer of the table is the bit
pub test_packed : (count p q n : ℕ) (words : List ℕ) → n ≡ get_or words ((p * count + q) / 64) n → p < count → q < count → count * count ≤ length words * 64
    → (bit_at n ((p * count + q) % 64) == 1) ≡ goes_before (packed count words) p q
test_packed count p q n words is first second enough =
    let place = p * count + q in
    let inside = mul-add-lt p count q count first second in
    let word = is ∙ get_or_default words (place / 64) n 0 (word_there (count * count) place words inside enough) in
    let start : 0 + place ≡ place = omega arith in
    rw (test_of (packed count words) p q first second, bit_there (count * count) 0 place words inside, start, ← word) refl

-- words of no bits keep tests that all fail
pub no_bits : (count place many : ℕ) → bits_from count place (replicate {A = ℕ} many 0) ≡ replicate count false
unfolding bits_from
no_bits zero place many = refl
no_bits (suc count) place many = rw (none, no_bits count (suc place) many) refl
  where
    zero_word : (k : ℕ) → ◌≡◌ {A = ℕ} (get_or (replicate many 0) k 0) 0
    zero_word k = elim (cases_lt k many) [
      | inl inside ↦ get_or-replicate many k 0 0 inside
      | inr behind ↦ get_or-eq_default (replicate {A = ℕ} many 0) 0 (omega (arith, behind, length-replicate {A = ℕ} many 0))
    ]

    none : bit (replicate {A = ℕ} many 0) place ≡ false
    none = rw (zero_word (place / 64), bit_at-zero (place % 64)) refl

pub none_packed : (count many : ℕ) → packed count (replicate {A = ℕ} many 0) ≡ nothing_before count
none_packed count many = rw (no_bits (count * count) 0 many) refl

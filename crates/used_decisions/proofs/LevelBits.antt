-- What changing words does to the levels that their bits keep.
use Rattle.std.proofs.Common.{◌≡◌, ◌≢◌, ℕ, zero, suc, ◌+◌, ◌-◌, ◌*◌, ◌/◌, ◌%◌, ◌^◌, ◌<◌, ◌≤◌, ◌==◌, ◌||◌, ◌&&◌, min, max, Bool, true, false, List, length, set, get_or, replicate, bit_or, arith, inl, inr, ap, refl, sym, ◌∙◌, get_or-set_other, get_or-set_same, length-set, lt-ltb, le-ltb}
use Rattle.std.specs.Prelude.{nat_lt}
use Rattle.std.specs.Int.{bit_at, w64}
use Rattle.std.specs.Int.Bits.{or_zero_r}
use Rattle.std.proofs.lemmas.Bool.{cases_eq, cases_lt}
use Rattle.std.proofs.lemmas.Nat.{div_below}
use Rattle.std.proofs.lemmas.List.{get_or-replicate, get_or_default, length-replicate, same_lists, get_or_past}
use Rattle.std.proofs.Math.Seq.{set_out}
use Rattle.std.proofs.lemmas.Nat.Bits.{bit_at-zero, bit_at_set_same, bit_at_set_other, bit_at_or, bit_at-lt, bit_at_ones}
use Rattle.tt_choice.specs.Packed.{bit, bits_from}
use Rattle.tt_choice.proofs.Packed.{size, bit_there}
use Rattle.used_decisions.specs.Levels.{has_level}

-- the set of levels whose bits are set in words
abbrev pub flags : List ℕ → List Bool
flags words = bits_from (length words * 64) 0 words

pub room : (words : List ℕ) → length (flags words) ≡ length words * 64
room words = size (length words * 64) 0 words

word_behind : (words : List ℕ) (level : ℕ) → length words ≤ level / 64 → get_or words (level / 64) 0 ≡ 0
word_behind words level behind = get_or_past words (level / 64) 0 behind

-- a level is in the set where its bit is set
pub has_bit : (words : List ℕ) (level : ℕ) → has_level (flags words) level ≡ bit words level
has_bit words level = elim (cases_lt level (length words * 64)) [
  | inl inside ↦ bit_there (length words * 64) 0 level words inside ∙ ap (bit words) (omega arith)
  | inr behind ↦
      let far : length words ≤ level / 64 = omega (arith, behind) in
      get_or_past (flags words) level false (omega (arith, behind, room words)) ∙ sym (rw (word_behind words level far, bit_at-zero (level % 64)) refl)
]

-- a word in which the bit of a level is set
abbrev pub with_bit : ℕ → ℕ → ℕ
with_bit n level = bit_or n (1 * 2 ^ (level % 64) % 2 ^ 64)

set_bit_same : (words : List ℕ) (level n : ℕ) → level / 64 < length words → bit (set words (level / 64) (with_bit n level)) level ≡ true
set_bit_same words level n there =
    let within : level % 64 < 64 = omega arith in
    rw (get_or-set_same words (level / 64) (with_bit n level) 0 there, bit_at_set_same w64 n (level % 64) within) refl

set_bit_other : (words : List ℕ) (level n k : ℕ) → level / 64 < length words → n ≡ get_or words (level / 64) 0 → k ≢ level → bit (set words (level / 64) (with_bit n level)) k ≡ bit words k
set_bit_other words level n k there is differ = elim (cases_eq (k / 64) (level / 64)) [
  | inl row ↦
      let within : level % 64 < 64 = omega arith in
      let apart : k % 64 ≢ level % 64 = λ column. differ (omega (arith, row, column)) in
      rw (row, get_or-set_same words (level / 64) (with_bit n level) 0 there, bit_at_set_other w64 n (level % 64) within (k % 64) apart, ← is) refl
  | inr elsewhere ↦ rw (get_or-set_other words (level / 64) (k / 64) (with_bit n level) 0 elsewhere) refl
]

-- a level is put in
pub insert_flag : (words : List ℕ) (level n : ℕ) → level / 64 < length words → n ≡ get_or words (level / 64) n → flags (set words (level / 64) (with_bit n level)) ≡ set (flags words) level true
insert_flag words level n there at =
    let new = set words (level / 64) (with_bit n level) in
    let is : n ≡ get_or words (level / 64) 0 = at ∙ get_or_default words (level / 64) n 0 there in
    let long : length (flags new) ≡ length words * 64 = room new ∙ ap (λ (k : ℕ). k * 64) (length-set words (level / 64) (with_bit n level)) in
    let wide : length (set (flags words) level true) ≡ length words * 64 = length-set (flags words) level true ∙ room words in
    same_lists (flags new) (set (flags words) level true) (long ∙ sym wide) (λ k d inside.
    get_or_default (flags new) k d false inside ∙ (has_bit new k ∙ (one words level n k there is (omega (arith, inside, long, room words)) ∙ get_or_default (set (flags words) level true) k false d (omega (arith, inside, long, wide)))))
  where
    one : (words : List ℕ) (level n k : ℕ) → level / 64 < length words → n ≡ get_or words (level / 64) 0 → k < length (flags words) → bit (set words (level / 64) (with_bit n level)) k ≡ get_or (set (flags words) level true) k false
    one words level n k there is inside = elim (cases_eq k level) [
      | inl same ↦ rw same (set_bit_same words level n there ∙ sym (get_or-set_same (flags words) level true false (omega (arith, inside, same))))
      | inr other ↦ set_bit_other words level n k there is other ∙ (sym (has_bit words k) ∙ sym (get_or-set_other (flags words) level k true false other))
    ]

-- where there is no room for a level nothing is
pub insert_nowhere : (words : List ℕ) (level : ℕ) → length words ≤ level / 64 → flags words ≡ set (flags words) level true
insert_nowhere words level behind =
    rw (set_out (flags words) level true (omega (arith, behind, room words))) refl

either_bit : (a b : ℕ) → a < 2 → b < 2 → (max a b == 1) ≡ ((a == 1) || (b == 1))
either_bit zero zero below also = refl
either_bit zero (suc zero) below also = refl
either_bit (suc zero) zero below also = refl
either_bit (suc zero) (suc zero) below also = refl
either_bit zero (suc (suc b)) below also = absurd (omega arith)
either_bit (suc zero) (suc (suc b)) below also = absurd (omega arith)
either_bit (suc (suc a)) b below also = absurd (omega arith)

-- words that are joined have the bits of both
pub joined : (old new others : List ℕ) → length new ≡ length old
    → ((k : ℕ) → k < length old → get_or new k 0 ≡ bit_or (get_or old k 0) (get_or others k 0))
    → (level : ℕ) → has_level (flags new) level ≡ (has_level (flags old) level || (nat_lt level (length (flags old)) && has_level (flags others) level))
joined old new others same are level = elim (cases_lt level (length old * 64)) [
  | inl inside ↦
      let there : level / 64 < length old = div_below level 64 (length old) (omega arith) inside in
      rw (has_bit new level, has_bit old level, has_bit others level, lt-ltb level (length (flags old)) (omega (arith, inside, room old)), are (level / 64) there, bit_at_or (get_or old (level / 64) 0) (get_or others (level / 64) 0) (level % 64))
      (either_bit (bit_at (get_or old (level / 64) 0) (level % 64)) (bit_at (get_or others (level / 64) 0) (level % 64)) (bit_at-lt (get_or old (level / 64) 0) (level % 64)) (bit_at-lt (get_or others (level / 64) 0) (level % 64)))
  | inr behind ↦ rw (
    get_or_past (flags new) level false (omega (arith, behind, room new, same)),
    get_or_past (flags old) level false (omega (arith, behind, room old)),
    le-ltb level (length (flags old)) (omega (arith, behind, room old)),
  ) refl
]

-- words of no bits keep no level
pub none_there : (many level : ℕ) → has_level (flags (replicate {A = ℕ} many 0)) level ≡ false
none_there many level = rw (has_bit (replicate {A = ℕ} many 0) level, zero_word (level / 64), bit_at-zero (level % 64)) refl
  where
    zero_word : (k : ℕ) → ◌≡◌ {A = ℕ} (get_or (replicate many 0) k 0) 0
    zero_word k = elim (cases_lt k many) [
      | inl inside ↦ get_or-replicate many k 0 0 inside
      | inr behind ↦ get_or_past (replicate {A = ℕ} many 0) k 0 (omega (arith, behind, length-replicate {A = ℕ} many 0))
    ]

-- words of all bits keep each level that there is room for
pub all_there : (many level : ℕ) → level < length (flags (replicate {A = ℕ} many (2 ^ 64 - 1))) → has_level (flags (replicate {A = ℕ} many (2 ^ 64 - 1))) level ≡ true
all_there many level inside =
    let size : length (replicate {A = ℕ} many (2 ^ 64 - 1)) ≡ many = length-replicate {A = ℕ} many (2 ^ 64 - 1) in
    let there : level / 64 < many = div_below level 64 many (omega arith) (omega (arith, inside, size, room (replicate {A = ℕ} many (2 ^ 64 - 1)))) in
    rw (has_bit (replicate {A = ℕ} many (2 ^ 64 - 1)) level, get_or-replicate {A = ℕ} many (level / 64) (2 ^ 64 - 1) 0 there, bit_at_ones 64 (level % 64) (omega arith)) refl

-- the answer whether a level is in the set is its bit
pub has_flag : (words : List ℕ) (level n : ℕ) → level / 64 < length words → n ≡ get_or words (level / 64) n → (bit_at n (level % 64) == 1) ≡ has_level (flags words) level
has_flag words level n there at =
    let is : n ≡ get_or words (level / 64) 0 = at ∙ get_or_default words (level / 64) n 0 there in
    ap (λ (k : ℕ). bit_at k (level % 64) == 1) is ∙ sym (has_bit words level)

pub has_none : (words : List ℕ) (level : ℕ) → length words ≤ level / 64 → has_level (flags words) level ≡ false
has_none words level behind = get_or_past (flags words) level false (omega (arith, behind, room words))

-- so many words are joined with others, and those behind them are as they were
pub record AreJoined (old others : List ℕ) (count : ℕ) (new : List ℕ) : Type 0 where
  pub room_is : length new ≡ length old
  pub joined_so : (k : ℕ) → k < count → get_or new k 0 ≡ bit_or (get_or old k 0) (get_or others k 0)
  pub left_so : (k : ℕ) → count ≤ k → get_or new k 0 ≡ get_or old k 0

pub joined_none : (old others : List ℕ) → AreJoined old others 0 old
joined_none old others = record { room_is = refl; joined_so = λ k below. absurd (omega (arith, below)); left_so = λ k from. refl }

pub joined_one : (old others new : List ℕ) (count a : ℕ) → AreJoined old others count new → count < length old
    → a ≡ get_or new count a → AreJoined old others (count + 1) (set new count (bit_or a (get_or others count 0)))
joined_one old others new count a are here a_is =
    let both = bit_or a (get_or others count 0) in record {
      room_is = length-set new count both ∙ are.room_is;
      joined_so = λ k below. elim (cases_eq k count) [
        | inl same ↦
            let first : a ≡ get_or old count 0 = a_is ∙ (get_or_default new count a 0 (omega (arith, here, are.room_is)) ∙ are.left_so count (omega arith)) in
            rw (same, get_or-set_same new count both 0 (omega (arith, here, are.room_is))) (ap (λ (n : ℕ). bit_or n (get_or others count 0)) first)
        | inr other ↦ get_or-set_other new count k both 0 other ∙ are.joined_so k (omega (arith, below, other))
      ];
      left_so = λ k from. get_or-set_other new count k both 0 (λ same. omega (arith, from, same)) ∙ are.left_so k (omega (arith, from));
    }

-- words behind the others are as they were, which is joined with nothing
pub joined_all : (old others new : List ℕ) (count k : ℕ) → AreJoined old others count new → min (length old) (length others) ≤ count → k < length old → get_or new k 0 ≡ bit_or (get_or old k 0) (get_or others k 0)
joined_all old others new count k are done inside = elim (cases_lt k count) [
  | inl below ↦ are.joined_so k below
  | inr from ↦
      let past : length others ≤ k = omega (arith, from, done, inside) in
      are.left_so k from ∙ sym (rw (get_or_past others k 0 past) (or_zero_r (get_or old k 0)))
]

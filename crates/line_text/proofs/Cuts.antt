-- What is cut is put together again, and what is put together is cut there.
use Rattle.std.proofs.Common.{◌≡◌, ◌≢◌, ℕ, suc, ◌+◌, ◌<◌, ◌≤◌, Bool, true, false, cond, List, [], ◌∷◌, ◌++◌, length, get_or, take, drop, All, refl, sym, ap, subst, ◌∙◌, arith, Option, Some, None, MatchOption, IfSome, ltb, add-one, drop-cons, inl, inr}
use Rattle.std.proofs.Math.Seq.{get_or-append_seam}
use Rattle.std.proofs.lemmas.Bool.{lt-ltb, le-ltb, cases_lt}
use Rattle.std.specs.Prelude.{◌==◌, not, position, bytes_eq}
use Rattle.std.specs.List.{list_all, position_or_len, before_first, after_first, slice_split}
use Rattle.std.proofs.lemmas.List.Splits.{slice_split_first, slice_split_none}
use Rattle.std.proofs.Common.{rules}
use Rattle.std.proofs.lemmas.List.{take_at, drop_at, take-append-drop, length-append, get_or_append_left, length-take-le, get_or-take}
use Rattle.std.proofs.lemmas.List.Quantifiers.{position-Some}
use Rattle.std.proofs.lemmas.List.Sums.{position_or_len_is, fails_before_first, AllPass-from_list_all}
use Rattle.std.proofs.lemmas.Slice.Eq.{bytes_eq-Decides}
use Rattle.std.proofs.lemmas.Bool.{eqb-true}
use Rattle.std.proofs.lemmas.Bool.{ne_eqb, eqb-false}
use Rattle.std.proofs.lemmas.List.Elements.{All-weaker, All-append}
use Rattle.std.specs.Option.{option_map}
use Rattle.std.specs.Borrow.{Bor}
use Rattle.line_text.specs.Parts.{cut, after_keyword, Lacks}

-- ---- bytes that a text lacks, as the tests of a search

pub fails_each : (byte : ℕ) (bytes : List ℕ) → Lacks byte bytes → All (λ b. (b == byte) ≡ false) bytes
fails_each byte bytes = All-weaker (λ b. b ≢ byte) (λ b. (b == byte) ≡ false) (λ b. ne_eqb b byte) bytes

pub Lacks-append : (byte : ℕ) (xs ys : List ℕ) → Lacks byte xs → Lacks byte ys → Lacks byte (xs ++ ys)
Lacks-append byte xs ys = All-append (λ b. b ≢ byte) xs ys

lacks_by_test : (byte c : ℕ) → not (c == byte) ≡ true → c ≢ byte
lacks_by_test byte c e = grind arith

-- of a literal, by computation
pub Lacks-from_test : (byte : ℕ) (bytes : List ℕ) → list_all (λ c. not (c == byte)) bytes ≡ true → Lacks byte bytes
Lacks-from_test byte bytes e =
    All-weaker (λ c. not (c == byte) ≡ true) (λ c. c ≢ byte) (lacks_by_test byte) bytes
    (AllPass-from_list_all (λ c. not (c == byte)) bytes e)

-- ---- cutting at a byte

abbrev some : {A : Type 0} → A → Option A
some x = Some x

no_place : (o : Option ℕ) (k : ℕ) → o ≡ None → o ≡ Some k → ⊥
no_place o k e h = cc

some_is : {A : Type 0} (x y : A) → some x ≡ some y → x ≡ y
some_is x y e = cc

at_place : (bytes : List ℕ) (at : Option ℕ) (p : List ℕ × List ℕ) → option_map (λ k. (take k bytes, drop (k + 1) bytes)) at ≡ Some p → (k : ℕ) × (at ≡ Some k) × ((take k bytes, drop (k + 1) bytes) ≡ p)
at_place bytes None p e = absurd cc
at_place bytes (Some k) p e = (k, refl, some_is _ _ e)

free_before : (byte : ℕ) (bytes : List ℕ) (k : ℕ) → position (λ b. b == byte) bytes ≡ Some k → (j d : ℕ) → j < length (take k bytes) → get_or (take k bytes) j d ≢ byte
free_before byte bytes k e j d lt =
    let p = position-Some (λ b. b == byte) bytes k d e in
    let le : k ≤ length bytes = omega (arith, p.0) in
    let below : j < k = omega (arith, lt, length-take-le k bytes le) in
    rw (get_or-take k bytes j d below) (eqb-false _ _ (p.2 j below))

-- a text at the first place of a byte: what is in front lacks the byte
pub parts_at : (byte : ℕ) (bytes : List ℕ) (k : ℕ) → position (λ b. b == byte) bytes ≡ Some k → (bytes ≡ take k bytes ++ byte ∷ drop (k + 1) bytes) × Lacks byte (take k bytes)
parts_at byte bytes k e =
    let p = position-Some (λ b. b == byte) bytes k 0 e in
    let here : get_or bytes k 0 ≡ byte = eqb-true _ _ p.1 in
    let lt : k < length bytes = p.0 in
    let rest : drop k bytes ≡ byte ∷ drop (k + 1) bytes = rw (drop-cons bytes k 0, here, add-one) refl in
    (sym (take-append-drop k bytes) ∙ ap (λ (r : List ℕ). take k bytes ++ r) rest, free_before byte bytes k e)

-- a text in which the byte has no place
pub Lacks-from_none : (byte : ℕ) (bytes : List ℕ) → position (λ b. b == byte) bytes ≡ None → Lacks byte bytes
Lacks-from_none byte bytes e = elim (cases_lt (position_or_len (λ b. b == byte) bytes) (length bytes)) [
  | inl lt ↦ absurd (let some : position (λ b. b == byte) bytes ≡ Some (position_or_len (λ b. b == byte) bytes) = rw (lt-ltb _ _ lt) refl in no_place (position (λ b. b == byte) bytes) _ e some)
  | inr le ↦ (λ j d lt. eqb-false _ _ (fails_before_first (λ b. b == byte) bytes j d (omega (arith, le, lt))))
]

pub cut_takes : (byte : ℕ) (bytes x y : List ℕ) → cut byte bytes ≡ Some (x, y) → (bytes ≡ x ++ byte ∷ y) × Lacks byte x
unfolding cut
cut_takes byte bytes x y e =
    let a = at_place bytes (position (λ b. b == byte) bytes) (x, y) e in
    let p = parts_at byte bytes a.0 a.1 in
    let front_is : take a.0 bytes ≡ x = ap (λ (q : List ℕ × List ℕ). q.0) a.2 in
    let rest_is : drop (a.0 + 1) bytes ≡ y = ap (λ (q : List ℕ × List ℕ). q.1) a.2 in
    (p.0 ∙ rw (front_is, rest_is) refl, subst (Lacks byte) front_is p.1)

behind : (x : List ℕ) (byte : ℕ) (y : List ℕ) → drop (suc (length x)) (x ++ byte ∷ y) ≡ y
behind [] byte y = refl
behind (c ∷ x) byte y = behind x byte y

same_byte : (n : ℕ) → (n == n) ≡ true
same_byte n = search rules

pub cut_again : (byte : ℕ) (x y : List ℕ) → Lacks byte x → cut byte (x ++ byte ∷ y) ≡ Some (x, y)
unfolding cut
cut_again byte x y lacks =
    let long : length (x ++ byte ∷ y) ≡ length x + suc (length y) = length-append x (byte ∷ y) in
    let at : position_or_len (λ b. b == byte) (x ++ byte ∷ y) ≡ length x =
    position_or_len_is (λ b. b == byte) (x ++ byte ∷ y) (length x) 0 (omega arith)
    (λ k lt. rw (get_or_append_left x (byte ∷ y) 0 k lt) (fails_each byte x lacks k 0 lt))
    (λ _. rw (get_or-append_seam x byte y 0) (same_byte byte)) in
    let lt : ltb (length x) (length (x ++ byte ∷ y)) ≡ true = lt-ltb _ _ (omega arith) in
    rw (at, lt) (ap (λ (q : List ℕ × List ℕ). Some q) (ap (λ (f : List ℕ). (f, drop (length x + 1) (x ++ byte ∷ y))) (take_at x (byte ∷ y) (length x) refl) ∙ ap (λ (r : List ℕ). (x, r)) (rw add-one (behind x byte y))))

kept : (b : Bool) (x y : List ℕ) → cond b (Some x) None ≡ Some y → (b ≡ true) × (x ≡ y)
kept true x y e = (refl, cc)
kept false x y e = absurd cc

pub prefix_is : (keyword bytes rest : List ℕ) → bytes_eq (take (length keyword) bytes) keyword ≡ true → rest ≡ drop (length keyword) bytes → bytes ≡ keyword ++ rest
prefix_is keyword bytes rest e d =
    let same : take (length keyword) bytes ≡ keyword = (bytes_eq-Decides (take (length keyword) bytes) keyword).0 e in
    sym (take-append-drop (length keyword) bytes) ∙ rw (same, d) refl

pub prefix_if : (keyword bytes : List ℕ) (o : Option (Bor (List ℕ)))
    → MatchOption o (bytes_eq (take (length keyword) bytes) keyword ≡ false) (λ x. (bytes_eq (take (length keyword) bytes) keyword ≡ true) × (x.now ≡ drop (length keyword) bytes) × (length x.now + length keyword ≡ length bytes))
    → IfSome o (λ rest. bytes ≡ keyword ++ rest.now)
prefix_if keyword bytes None h = tt
prefix_if keyword bytes (Some x) h = prefix_is keyword bytes x.now h.0 h.1

pub after_takes : (keyword bytes rest : List ℕ) → after_keyword keyword bytes ≡ Some rest → bytes ≡ keyword ++ rest
unfolding after_keyword
after_takes keyword bytes rest e =
    let a = kept (bytes_eq (take (length keyword) bytes) keyword) (drop (length keyword) bytes) rest e in
    prefix_is keyword bytes rest a.0 (sym a.1)

pub after_again : (keyword rest : List ℕ) → after_keyword keyword (keyword ++ rest) ≡ Some rest
unfolding after_keyword
after_again keyword rest =
    let same : bytes_eq keyword keyword ≡ true = (bytes_eq-Decides keyword keyword).1 refl in
    rw (take_at keyword rest (length keyword) refl, drop_at keyword rest (length keyword) refl, same) refl

-- ---- the words of a text

place_some : (bytes : List ℕ) (byte : ℕ) → ltb (position_or_len (λ b. b == byte) bytes) (length bytes) ≡ true → cut byte bytes ≡ Some (before_first (λ b. b == byte) bytes, after_first (λ b. b == byte) bytes)
unfolding cut
place_some bytes byte h = rw h refl

place_none : (bytes : List ℕ) (byte : ℕ) → ltb (position_or_len (λ b. b == byte) bytes) (length bytes) ≡ false → cut byte bytes ≡ None
unfolding cut
place_none bytes byte h = rw h refl

none_some : {A : Type 0} (o : Option A) (x : A) → o ≡ None → o ≡ Some x → ⊥
none_some o x e h = cc

pair_is : (o : Option (List ℕ × List ℕ)) (p q : List ℕ × List ℕ) → o ≡ Some p → o ≡ Some q → p ≡ q
pair_is o p q e h = cc

-- a word is cut off in front
pub cut_words : (byte : ℕ) (bytes word rest : List ℕ) → cut byte bytes ≡ Some (word, rest) → slice_split (λ b. b == byte) bytes ≡ word ∷ slice_split (λ b. b == byte) rest
cut_words byte bytes word rest e =
    elim (cases_lt (position_or_len (λ b. b == byte) bytes) (length bytes)) [
      | inl lt ↦
          let same = pair_is (cut byte bytes) _ _ (place_some bytes byte (lt-ltb _ _ lt)) e in
          let w : before_first (λ b. b == byte) bytes ≡ word = ap (λ (q : List ℕ × List ℕ). q.0) same in
          let r : after_first (λ b. b == byte) bytes ≡ rest = ap (λ (q : List ℕ × List ℕ). q.1) same in
          slice_split_first (λ b. b == byte) bytes 0 lt ∙ rw (w, r) refl
      | inr le ↦ absurd (none_some (cut byte bytes) (word, rest) (place_none bytes byte (le-ltb _ _ le)) e)
    ]

get_free : (bytes : List ℕ) (byte k d : ℕ) → k < length bytes → k < position_or_len (λ b. b == byte) bytes → (get_or bytes k d == byte) ≡ false
get_free bytes byte k d lt before = fails_before_first (λ b. b == byte) bytes k d before

-- the last word
pub cut_last : (byte : ℕ) (bytes : List ℕ) → cut byte bytes ≡ None → slice_split (λ b. b == byte) bytes ≡ bytes ∷ []
cut_last byte bytes e =
    elim (cases_lt (position_or_len (λ b. b == byte) bytes) (length bytes)) [
      | inl lt ↦ absurd (none_some (cut byte bytes) _ e (place_some bytes byte (lt-ltb _ _ lt)))
      | inr le ↦ slice_split_none (λ b. b == byte) bytes (λ k d lt. get_free bytes byte k d lt (omega arith))
    ]

pub cut_shorter : (byte : ℕ) (bytes x y : List ℕ) → cut byte bytes ≡ Some (x, y) → length y < length bytes
cut_shorter byte bytes x y e = omega (arith, ap length (cut_takes byte bytes x y e).0, length-append x (byte ∷ y))

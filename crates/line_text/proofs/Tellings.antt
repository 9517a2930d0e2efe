-- What holds of pieces as they are told.
use Rattle.std.proofs.Common.{rules, ◌≡◌, ◌∙◌, ℕ, suc, ◌+◌, ◌-◌, ◌%◌, ◌/◌, ◌<◌, ◌≤◌, true, false, ◌⊎◌, inl, inr, List, [], ◌∷◌, ◌++◌, length, IsTrue, refl, ap, sym, append_assoc, arith, drop, get_or, length-append, lt-ltb, le-ltb}
use Rattle.std.specs.List.{All, flat_map}
use Rattle.std.proofs.lemmas.Bool.{cases_Bool, cases_lt}
use Rattle.std.proofs.lemmas.List.{append-nil, drop_all, drop_more}
use Rattle.std.proofs.lemmas.List.Elements.{All-append, All-nil}
use Rattle.std.proofs.lemmas.Grind.{common_steps}
use Rattle.line_text.specs.Limits.{most_told}
use Rattle.line_text.specs.Told.{IsBeginning, hex_digit, is_printable, told, told_byte, told_within}

abbrev Printable : ℕ → Type 0
Printable b = IsTrue (is_printable b)

-- ---- of one byte

as_it_is : (b : ℕ) → is_printable b ≡ true → told_byte b ≡ b ∷ []
unfolding told_byte
as_it_is b e = rw e refl

by_number : (b : ℕ) → is_printable b ≡ false → told_byte b ≡ 92 ∷ 120 ∷ hex_digit (b / 16 % 16) ∷ hex_digit (b % 16) ∷ []
unfolding told_byte
by_number b e = rw e refl

digit-printable : (n : ℕ) → Printable (hex_digit (n % 16))
digit-printable n = grind (arith, common_steps)

All-cons : (x : ℕ) (xs : List ℕ) → Printable x → All Printable xs → All Printable (x ∷ xs)
All-cons x xs h hs = grind (arith, common_steps)

spelled : (high low : ℕ) → Printable high → Printable low → All Printable (92 ∷ 120 ∷ high ∷ low ∷ [])
spelled high low h l =
    All-cons 92 (120 ∷ high ∷ low ∷ []) (search rules) (All-cons 120 (high ∷ low ∷ []) (search rules) (All-cons high (low ∷ []) h (All-cons low [] l (All-nil Printable))))

byte-printable : (b : ℕ) → All Printable (told_byte b)
byte-printable b = elim (cases_Bool (is_printable b)) [
  | inl holds ↦ rw (as_it_is b holds) (All-cons b [] (search rules) (All-nil Printable))
  | inr fails ↦ rw (by_number b fails) (spelled (hex_digit (b / 16 % 16)) (hex_digit (b % 16)) (digit-printable (b / 16)) (digit-printable b))
]

-- ---- of a piece

too_long : (room b : ℕ) (bs : List ℕ) → room < length (told_byte b) → told_within room (b ∷ bs) ≡ []
too_long room b bs less = rw (lt-ltb room (length (told_byte b)) less) refl

fits : (room b : ℕ) (bs : List ℕ) → length (told_byte b) ≤ room → told_within room (b ∷ bs) ≡ told_byte b ++ told_within (room - length (told_byte b)) bs
fits room b bs le = rw (le-ltb room (length (told_byte b)) le) refl

within-printable : (room : ℕ) (bytes : List ℕ) → All Printable (told_within room bytes)
within-printable room [] = All-nil Printable
within-printable room (b ∷ bs) = elim (cases_lt room (length (told_byte b))) [
  | inl holds ↦ rw (too_long room b bs holds) (All-nil Printable)
  | inr fails ↦ rw (fits room b bs fails) (All-append Printable (told_byte b) _ (byte-printable b) (within-printable (room - length (told_byte b)) bs))
]

within-short : (room : ℕ) (bytes : List ℕ) → length (told_within room bytes) ≤ room
within-short room [] = omega arith
within-short room (b ∷ bs) = elim (cases_lt room (length (told_byte b))) [
  | inl holds ↦ rw (too_long room b bs holds) (omega arith)
  | inr fails ↦ rw (fits room b bs fails) (omega (arith, fails, length-append (told_byte b) (told_within (room - length (told_byte b)) bs), within-short (room - length (told_byte b)) bs))
]

first-printable : (b : ℕ) (bs : List ℕ) → All Printable (b ∷ bs) → Printable b
first-printable b bs h = h 0 0 (omega arith)

rest-printable : (b : ℕ) (bs : List ℕ) → All Printable (b ∷ bs) → All Printable bs
rest-printable b bs h k d lt = h (suc k) d (omega arith)

within-same : (room : ℕ) (bytes : List ℕ) → All Printable bytes → length bytes ≤ room → told_within room bytes ≡ bytes
within-same room [] h le = refl
within-same room (b ∷ bs) h le =
    let one : told_byte b ≡ b ∷ [] = as_it_is b (search (rules, first-printable b bs h)) in
    let long : length (told_byte b) ≡ 1 = ap length one in
    fits room b bs (omega (arith, long, le)) ∙ rw (long, one) (ap (λ xs. b ∷ xs) (within-same (room - 1) bs (rest-printable b bs h) (omega arith)))

-- a text within a room tells all of a piece, or so much of it that its next byte would pass the room
record IsWithin (room : ℕ) (bytes text : List ℕ) : Type 0 where
  front : List ℕ
  rest : List ℕ
  parts : bytes ≡ front ++ rest
  spelled : text ≡ flat_map told_byte front
  ends : (rest ≡ []) ⊎ ((b : ℕ) × (more : List ℕ) × (rest ≡ b ∷ more) × (room < length text + length (told_byte b)))

one_more : (room b : ℕ) (bs text : List ℕ) → length (told_byte b) ≤ room → IsWithin (room - length (told_byte b)) bs text → IsWithin room (b ∷ bs) (told_byte b ++ text)
one_more room b bs text le w = record {
  front = b ∷ w.front;
  rest = w.rest;
  parts = ap (λ xs. b ∷ xs) w.parts;
  spelled = ap (λ xs. told_byte b ++ xs) w.spelled;
  ends = elim w.ends [
    | inl none ↦ inl none
    | inr some ↦ inr (some.0, some.1, some.2, omega (arith, le, some.3, length-append (told_byte b) text))
  ];
}

within-whole : (room : ℕ) (bytes : List ℕ) → IsWithin room bytes (told_within room bytes)
within-whole room [] = record { front = []; rest = []; parts = refl; spelled = refl; ends = inl refl }
within-whole room (b ∷ bs) = elim (cases_lt room (length (told_byte b))) [
  | inl holds ↦ rw (too_long room b bs holds) record { front = []; rest = b ∷ bs; parts = refl; spelled = refl; ends = inr (b, bs, refl, omega (arith, holds)) }
  | inr fails ↦ rw (fits room b bs fails) (one_more room b bs _ (omega (arith, fails)) (within-whole (room - length (told_byte b)) bs))
]

pub told-printable : (bytes : List ℕ) → All Printable (told bytes)
unfolding told
told-printable bytes = within-printable most_told bytes

pub told-short : (bytes : List ℕ) → length (told bytes) ≤ most_told
unfolding told
told-short bytes = within-short most_told bytes

pub told-same : (bytes : List ℕ) → All Printable bytes → length bytes ≤ most_told → told bytes ≡ bytes
unfolding told
told-same bytes h le = within-same most_told bytes h le

pub told-whole : (bytes : List ℕ) → IsBeginning bytes (told bytes)
unfolding told
told-whole bytes =
    let w = within-whole most_told bytes in
    record { front = w.front; rest = w.rest; parts = w.parts; spelled = w.spelled; ends = w.ends }

-- ---- along a piece

pub stops : (written bytes : List ℕ) (room k : ℕ) → k < length bytes → room < length (told_byte (get_or bytes k 0)) → written ++ told_within room (drop k bytes) ≡ told_within most_told bytes → written ≡ told bytes
unfolding told
stops written bytes room k inside less is =
    let none : told_within room (drop k bytes) ≡ [] = rw (drop_more bytes k 0 inside) (too_long room (get_or bytes k 0) (drop (k + 1) bytes) less) in
    sym (append-nil written) ∙ (ap (λ xs. written ++ xs) (sym none) ∙ is)

pub ends : (written bytes : List ℕ) (room k : ℕ) → length bytes ≤ k → written ++ told_within room (drop k bytes) ≡ told_within most_told bytes → written ≡ told bytes
unfolding told
ends written bytes room k all is =
    let none : told_within room (drop k bytes) ≡ [] = rw (drop_all k bytes all) refl in
    sym (append-nil written) ∙ (ap (λ xs. written ++ xs) (sym none) ∙ is)

pub goes_on : (written bytes all : List ℕ) (room k long : ℕ) → long ≡ length (told_byte (get_or bytes k 0)) → k < length bytes → long ≤ room → written ++ told_within room (drop k bytes) ≡ all
    → (written ++ told_byte (get_or bytes k 0)) ++ told_within (room - long) (drop (k + 1) bytes) ≡ all
goes_on written bytes all room k long long_is inside le is =
    let b = get_or bytes k 0 in
    let more : told_within room (drop k bytes) ≡ told_byte b ++ told_within (room - long) (drop (k + 1) bytes) =
    rw (drop_more bytes k 0 inside, long_is) (fits room b (drop (k + 1) bytes) (omega (arith, long_is, le))) in
    append_assoc written (told_byte b) (told_within (room - long) (drop (k + 1) bytes)) ∙ (ap (λ xs. written ++ xs) (sym more) ∙ is)

-- The two laws of a line of a keyword and numbers: what is read is spelled so, and what is spelled so
-- is read.
use Rattle.std.proofs.Common.{◌≡◌, ◌≢◌, ℕ, ◌<◌, ◌^◌, Bool, true, false, List, [], ◌∷◌, ◌++◌, length, map, All, Some, Ok, ◌&&◌, lit<, refl, sym, ap, subst, ◌∙◌, arith}
use Rattle.std.specs.Prelude.{decimal, ◌==◌, nat_lt}
use Rattle.std.specs.List.{list_all, flat_map, slice_split, join_with_byte}
use Rattle.std.proofs.lemmas.List.{append-nil}
use Rattle.std.proofs.lemmas.List.Elements.{All-nil, All-cons, All-head, All-tail, All-weaker}
use Rattle.std.proofs.lemmas.List.Splits.{join_with_byte-slice_split, slice_split_none, slice_split_at, length-slice_split}
use Rattle.std.proofs.lemmas.List.Sums.{AllPass-from_list_all}
use Rattle.line_text.specs.Parts.{Lacks, cut}
use Rattle.line_text.specs.Numbers.{number_word}
use Rattle.line_text.specs.declared.number.NumberWord.{NumberWord}
use Rattle.line_text.specs.declared.number.NumberWord.TheVariants as word
use Rattle.line_text.specs.Results.{or_fault, check}
use Rattle.line_text.proofs.Cuts.{cut_takes, cut_again, fails_each, Lacks-append, Lacks-from_test}
use Rattle.line_text.proofs.Digits.{number_takes, number_again, decimal_lacks}
use Rattle.line_text.proofs.Results.{bind_ok, ok_is, or_fault_ok, check_ok}
use Rattle.certificate.specs.declared.fault.LineFault.TheVariants.{Form, Number}
use Rattle.certificate.specs.declared.fault.CertTextError.TheVariants.{At}
use Rattle.certificate.specs.Words.{Words}
use Rattle.certificate.specs.Spelling.{spaced, line_with, Fit}
use Rattle.certificate.specs.Reading.{numbers_of, is_number_word, fits, value_of, with_keyword, said_in}
use Rattle.certificate.proofs.Tables.{Each, found_by, is_keyword, IsSayable}

-- ---- what is read is spelled so

-- words, each after a space
words_text : List (List ℕ) → List ℕ
words_text words = flat_map (λ w. 32 ∷ w) words

joined : (word : List ℕ) (words : List (List ℕ)) → 32 ∷ join_with_byte 32 (word ∷ words) ≡ words_text (word ∷ words)
unfolding words_text
joined word [] = ap (λ (w : List ℕ). 32 ∷ w) (sym (append-nil word))
joined word (next ∷ words) = ap (λ (w : List ℕ). 32 ∷ (word ++ w)) (joined next words)

joined_some : (words : List (List ℕ)) → 0 < length words → 32 ∷ join_with_byte 32 words ≡ words_text words
joined_some [] some = absurd (omega arith)
joined_some (word ∷ words) some = joined word words

and_true : (a b : Bool) → (a && b) ≡ true → (a ≡ true) × (b ≡ true)
and_true true b e = (refl, e)
and_true false b e = absurd cc

fitting : (w : List ℕ) (n : NumberWord) → number_word w ≡ n → fits n ≡ true → (w ≡ decimal (value_of n)) × (value_of n < 2 ^ 32)
fitting w word.Malformed is fit = absurd cc
fitting w word.TooLarge is fit = absurd cc
fitting w (word.Number n) is fit = number_takes w n is

words_fit : (words : List (List ℕ)) → list_all fits (map number_word words) ≡ true
    → (words_text words ≡ flat_map spaced (map value_of (map number_word words))) × Fit (map value_of (map number_word words))
unfolding words_text spaced
words_fit [] fit = (refl, All-nil (λ n. n < 2 ^ 32))
words_fit (w ∷ words) fit =
    let both = and_true (fits (number_word w)) (list_all fits (map number_word words)) fit in
    let one = fitting w (number_word w) refl both.0 in
    let others = words_fit words both.1 in (
      ap (λ (v : List ℕ). 32 ∷ (v ++ words_text words)) one.0 ∙ ap (λ (v : List ℕ). 32 ∷ (decimal (value_of (number_word w)) ++ v)) others.0,
      All-cons (λ n. n < 2 ^ 32) (value_of (number_word w)) (map value_of (map number_word words)) one.1 others.1,
    )

-- the numbers of a text in which each word fits
pub numbers_take : (text : List ℕ) → list_all fits (numbers_of text) ≡ true
    → (32 ∷ text ≡ flat_map spaced (map value_of (numbers_of text))) × Fit (map value_of (numbers_of text))
numbers_take text fit =
    let words = slice_split (λ b. b == 32) text in
    let some : 0 < length (slice_split (λ b. b == 32) text) = omega (arith, length-slice_split (λ b. b == 32) text) in
    let w = words_fit (slice_split (λ b. b == 32) text) fit in
    (ap (λ (t : List ℕ). 32 ∷ t) (sym (join_with_byte-slice_split 32 text)) ∙ joined_some (slice_split (λ b. b == 32) text) some ∙ w.0, w.1)

line_joined : (text keyword rest : List ℕ) (ns : List ℕ) (words : Words) → text ≡ keyword ++ 32 ∷ rest → 32 ∷ rest ≡ flat_map spaced ns → keyword ≡ words.0 → words.1 ≡ ns → text ≡ line_with words
line_joined text keyword rest ns words a b c d = rw (a, b, c, d) refl

-- what a line said, whatever is a fact of all that can be said
pub said_takes : {A : Type 0} (words : A → Words) (all_with : List ℕ → List A) (allows : A → Bool) (P : A → Type 0) (each : (ns : List ℕ) → Each (λ x. ((words x).1 ≡ ns) × P x) (all_with ns))
    (line : ℕ) (text : List ℕ) (x : A) → said_in words all_with allows line text ≡ Ok x
    → (text ≡ line_with (words x)) × Fit (words x).1 × P x × (allows x ≡ true)
unfolding said_in
said_takes {A} words all_with allows P each line text x e =
    let parts = bind_ok (or_fault (At line Form) (cut 32 text)) _ x e in
    let form = bind_ok (check (At line Form) (list_all is_number_word (numbers_of parts.0.1))) _ x parts.2 in
    let ns = map value_of (numbers_of parts.0.1) in
    let said = bind_ok (or_fault (At line Form) (with_keyword words parts.0.0 (all_with (map value_of (numbers_of parts.0.1))))) _ x form.2 in
    let allowed = bind_ok (check (At line Form) (allows said.0)) _ x said.2 in
    let size = bind_ok (check (At line Number) (list_all fits (numbers_of parts.0.1))) _ x allowed.2 in
    let is : said.0 ≡ x = ok_is said.0 x size.2 in
    let text_is : text ≡ parts.0.0 ++ 32 ∷ parts.0.1 = (cut_takes 32 text parts.0.0 parts.0.1 (or_fault_ok (At line Form) (cut 32 text) parts.0 parts.1)).0 in
    let numbers = numbers_take parts.0.1 (check_ok (At line Number) (list_all fits (numbers_of parts.0.1)) size.0 size.1) in
    let found = found_by words (λ y. ((words y).1 ≡ map value_of (numbers_of parts.0.1)) × P y) parts.0.0 (all_with (map value_of (numbers_of parts.0.1))) said.0 (each (map value_of (numbers_of parts.0.1)))
    (or_fault_ok (At line Form) (with_keyword words parts.0.0 (all_with (map value_of (numbers_of parts.0.1)))) said.0 said.1) in
    subst (λ (y : A). (text ≡ line_with (words y)) × Fit (words y).1 × P y × (allows y ≡ true)) is (
      line_joined text parts.0.0 parts.0.1 (map value_of (numbers_of parts.0.1)) (words said.0) text_is numbers.0 found.0 found.1.0,
      subst Fit (sym found.1.0) numbers.1,
      found.1.1,
      check_ok (At line Form) (allows said.0) allowed.0 allowed.1,
    )

-- ---- what is spelled so is read

abbrev as_words : List ℕ → List NumberWord
as_words ns = map (λ n. word.Number n) ns

number_lacks : (byte n : ℕ) → byte < 48 → n < 2 ^ 32 → Lacks byte (decimal n)
number_lacks byte n low lt = decimal_lacks byte n low (omega arith)

fail_32 : (n : ℕ) → n < 2 ^ 32 → All (λ b. (b == 32) ≡ false) (decimal n)
fail_32 n lt = fails_each 32 (decimal n) (number_lacks 32 n (lit< tt) lt)

numbers_again : (n : ℕ) (ns : List ℕ) → Fit (n ∷ ns) → numbers_of (decimal n ++ flat_map spaced ns) ≡ as_words (n ∷ ns)
unfolding spaced
numbers_again n [] fit =
    let small : n < 2 ^ 32 = All-head (λ k. k < 2 ^ 32) n [] fit in
    ap numbers_of (append-nil (decimal n)) ∙ ap (map number_word) (slice_split_none (λ b. b == 32) (decimal n) (fail_32 n small)) ∙ ap (λ (w : NumberWord). w ∷ []) (number_again n small)
numbers_again n (m ∷ ns) fit =
    let small : n < 2 ^ 32 = All-head (λ k. k < 2 ^ 32) n (m ∷ ns) fit in
    let others = numbers_again m ns (All-tail (λ k. k < 2 ^ 32) n (m ∷ ns) fit) in
    ap (map number_word) (slice_split_at (λ b. b == 32) (decimal n) 32 (decimal m ++ flat_map spaced ns) (fail_32 n small) refl)
    ∙ ap (λ (w : NumberWord). w ∷ numbers_of (decimal m ++ flat_map spaced ns)) (number_again n small) ∙ ap (λ (ws : List NumberWord). word.Number n ∷ ws) others

all_numerals : (ns : List ℕ) → list_all is_number_word (as_words ns) ≡ true
all_numerals [] = refl
all_numerals (n ∷ ns) = all_numerals ns

all_fit : (ns : List ℕ) → list_all fits (as_words ns) ≡ true
all_fit [] = refl
all_fit (n ∷ ns) = all_fit ns

values : (ns : List ℕ) → map value_of (as_words ns) ≡ ns
values [] = refl
values (n ∷ ns) = ap (λ (ks : List ℕ). n ∷ ks) (values ns)

said_steps : {A : Type 0} (words : A → Words) (all_with : List ℕ → List A) (allows : A → Bool) (line : ℕ) (text keyword rest : List ℕ) (ns : List ℕ) (x : A) → cut 32 text ≡ Some (keyword, rest) → numbers_of rest ≡ as_words ns
    → with_keyword words keyword (all_with ns) ≡ Some x → allows x ≡ true → said_in words all_with allows line text ≡ Ok x
unfolding said_in
said_steps words all_with allows line text keyword rest ns x a b c d = rw (a, b, all_numerals ns, values ns, c, d, all_fit ns) refl

lacks_of : (byte : ℕ) → byte < 33 → (c : ℕ) → nat_lt 32 c ≡ true → c ≢ byte
lacks_of byte lt c e = grind arith

pub keyword_lacks : (byte : ℕ) (keyword : List ℕ) → byte < 33 → is_keyword keyword ≡ true → Lacks byte keyword
keyword_lacks byte keyword lt e =
    All-weaker (λ c. nat_lt 32 c ≡ true) (λ c. c ≢ byte) (lacks_of byte lt) keyword (AllPass-from_list_all (λ c. nat_lt 32 c) keyword e)

again : {A : Type 0} (words : A → Words) (all_with : List ℕ → List A) (allows : A → Bool) (line : ℕ) (keyword ns : List ℕ) (x : A) → 0 < length ns → Lacks 32 keyword → Fit ns → with_keyword words keyword (all_with ns) ≡ Some x → allows x ≡ true
    → said_in words all_with allows line (keyword ++ flat_map spaced ns) ≡ Ok x
unfolding spaced
again words all_with allows line keyword [] x some lacks fit there may = absurd (omega arith)
again words all_with allows line keyword (n ∷ ns) x some lacks fit there may =
    said_steps words all_with allows line (keyword ++ flat_map spaced (n ∷ ns)) keyword (decimal n ++ flat_map spaced ns) (n ∷ ns) x
    (cut_again 32 keyword (decimal n ++ flat_map spaced ns) lacks) (numbers_again n ns fit) there may

pub said_again : {A : Type 0} (words : A → Words) (all_with : List ℕ → List A) (allows : A → Bool) (line : ℕ) (x : A) → IsSayable words all_with x → Fit (words x).1 → allows x ≡ true
    → said_in words all_with allows line (line_with (words x)) ≡ Ok x
said_again words all_with allows line x s fit may = again words all_with allows line (words x).0 (words x).1 x s.some (keyword_lacks 32 (words x).0 (lit< tt) s.keyword) fit s.again may

-- ---- no line's end stands in a line

numbers_lack : (ns : List ℕ) → Fit ns → Lacks 10 (flat_map spaced ns)
unfolding spaced
numbers_lack [] fit = All-nil (λ b. b ≢ 10)
numbers_lack (n ∷ ns) fit =
    Lacks-append 10 (32 ∷ decimal n) (flat_map spaced ns)
    (Lacks-append 10 (32 ∷ []) (decimal n) (Lacks-from_test 10 (32 ∷ []) refl) (number_lacks 10 n (lit< tt) (All-head (λ k. k < 2 ^ 32) n ns fit)))
    (numbers_lack ns (All-tail (λ k. k < 2 ^ 32) n ns fit))

pub line_lacks : {A : Type 0} (words : A → Words) (all_with : List ℕ → List A) (x : A) → IsSayable words all_with x → Fit (words x).1 → Lacks 10 (line_with (words x))
line_lacks words all_with x s fit =
    Lacks-append 10 (words x).0 (flat_map spaced (words x).1) (keyword_lacks 10 (words x).0 (lit< tt) s.keyword) (numbers_lack (words x).1 fit)

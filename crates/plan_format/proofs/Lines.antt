-- The two laws of a numbered line, and of lines one after another.
use Rattle.std.proofs.Common.{◌≡◌, ℕ, suc, ◌+◌, true, List, [], ◌∷◌, ◌++◌, length, All, Some, Ok, refl, sym, ap, subst, ◌∙◌, append_assoc, arith}
use Rattle.std.specs.Prelude.{bytes_eq}
use Rattle.std.proofs.lemmas.Slice.Eq.{bytes_eq-Decides}
use Rattle.line_text.specs.Parts.{cut, after_keyword}
use Rattle.line_text.specs.Results.{or_fault, check}
use Rattle.line_text.specs.Parts.{Lacks}
use Rattle.line_text.proofs.Cuts.{cut_takes, cut_again, after_takes, after_again, Lacks-append, Lacks-from_test}
use Rattle.line_text.proofs.Results.{bind_ok, ok_is, or_fault_ok, check_ok}
use Rattle.std.proofs.lemmas.List.Elements.{All-nil, All-cons, All-head, All-tail}
use Rattle.plan_format.specs.declared.fault.LineFault.TheVariants.{Form, Name, EarlyEnd}
use Rattle.plan_format.specs.declared.fault.PlanTextError.TheVariants.{At}
use Rattle.plan_format.specs.declared.column.Column.{Column}
use Rattle.plan_format.specs.Spelling.{HasWord, value_word, number_line, numbered}
use Rattle.plan_format.specs.Names.{is_name, keyword_of}
use Rattle.plan_format.specs.Reading.{line_at, value_of, named_number, number_at, numbers_at}
use Rattle.plan_format.proofs.NameForm.{name_lacks}
use Rattle.plan_format.proofs.Columns.{value_takes, value_again, value_lacks, keyword_lacks}

joined : (column : Column) (name text rest found w : List ℕ) (m n : ℕ) → text ≡ keyword_of column ++ rest → rest ≡ found ++ 32 ∷ w → found ≡ name
    → w ≡ value_word column m → m ≡ n → text ≡ number_line column name n
joined column name text rest found w m n a b c d e = rw (a, b, c, d, e) refl

-- a line that is read is spelled so
pub named_takes : (line : ℕ) (column : Column) (name text : List ℕ) (n : ℕ) → named_number line column name text ≡ Ok n
    → (text ≡ number_line column name n) × HasWord column n
unfolding named_number
named_takes line column name text n e =
    let rest = bind_ok (or_fault (At line Form) (after_keyword (keyword_of column) text)) _ n e in
    let parts = bind_ok (or_fault (At line Form) (cut 32 rest.0)) _ n rest.2 in
    let form = bind_ok (check (At line Form) (is_name parts.0.0)) _ n parts.2 in
    let number = bind_ok (value_of column line parts.0.1) _ n form.2 in
    let same = bind_ok (check (At line Name) (bytes_eq parts.0.0 name)) _ n number.2 in
    let n_is : number.0 ≡ n = ok_is number.0 n same.2 in
    let keyword_is : text ≡ keyword_of column ++ rest.0 =
    after_takes (keyword_of column) text rest.0 (or_fault_ok (At line Form) (after_keyword (keyword_of column) text) rest.0 rest.1) in
    let parts_are : rest.0 ≡ parts.0.0 ++ 32 ∷ parts.0.1 = (cut_takes 32 rest.0 parts.0.0 parts.0.1 (or_fault_ok (At line Form) (cut 32 rest.0) parts.0 parts.1)).0 in
    let word_is = value_takes column line parts.0.1 number.0 number.1 in
    let here : parts.0.0 ≡ name = (bytes_eq-Decides parts.0.0 name).0 (check_ok (At line Name) (bytes_eq parts.0.0 name) same.0 same.1) in
    (joined column name text rest.0 parts.0.0 parts.0.1 number.0 n keyword_is parts_are here word_is.0 n_is, subst (HasWord column) n_is word_is.1)

named_steps : (line : ℕ) (column : Column) (name text rest w : List ℕ) (n : ℕ) → after_keyword (keyword_of column) text ≡ Some rest
    → cut 32 rest ≡ Some (name, w) → is_name name ≡ true → value_of column line w ≡ Ok n → bytes_eq name name ≡ true
    → named_number line column name text ≡ Ok n
unfolding named_number
named_steps line column name text rest w n a b c d e = rw (a, b, c, d, e) refl

-- what is spelled so is read
pub named_again : (line : ℕ) (column : Column) (name : List ℕ) (n : ℕ) → HasWord column n → is_name name ≡ true
    → named_number line column name (number_line column name n) ≡ Ok n
named_again line column name n has form =
    named_steps line column name (number_line column name n) (name ++ 32 ∷ value_word column n) (value_word column n) n
    (after_again (keyword_of column) (name ++ 32 ∷ value_word column n)) (cut_again 32 name (value_word column n) (name_lacks 32 refl name form)) form
    (value_again column line n has) ((bytes_eq-Decides name name).1 refl)

pub line_takes : (line : ℕ) (bytes text rest : List ℕ) → line_at line bytes ≡ Ok (text, rest) → bytes ≡ text ++ 10 ∷ rest
line_takes line bytes text rest e = (cut_takes 10 bytes text rest (or_fault_ok (At line EarlyEnd) (cut 10 bytes) (text, rest) e)).0

pub line_again : (line : ℕ) (text rest : List ℕ) → Lacks 10 text → line_at line (text ++ 10 ∷ rest) ≡ Ok (text, rest)
line_again line text rest lacks = rw (cut_again 10 text rest lacks) refl

stacked : (column : Column) (bytes text rest after name : List ℕ) (m n : ℕ) (names : List (List ℕ)) (ns last : List ℕ) → bytes ≡ text ++ 10 ∷ rest
    → text ≡ number_line column name m → m ≡ n → rest ≡ after → after ≡ numbered column names ns ++ last
    → bytes ≡ numbered column (name ∷ names) (n ∷ ns) ++ last
stacked column bytes text rest after name m n names ns last a b c d e =
    let one : bytes ≡ number_line column name n ++ 10 ∷ (numbered column names ns ++ last) = rw (a, b, c, d, e) refl in
    one ∙ sym (append_assoc (number_line column name n) (10 ∷ numbered column names ns) last)

-- the lines that are read are spelled so
pub numbers_take : (line : ℕ) (column : Column) (names : List (List ℕ)) (bytes : List ℕ) (x : List ℕ × List ℕ) → numbers_at line column names bytes ≡ Ok x
    → (bytes ≡ numbered column names x.0 ++ x.1) × (length x.0 ≡ length names) × All (HasWord column) x.0
unfolding numbers_at number_at
numbers_take line column [] bytes x e =
    subst (λ (y : List ℕ × List ℕ). (bytes ≡ numbered column [] y.0 ++ y.1) × (length y.0 ≡ 0) × All (HasWord column) y.0) (ok_is ([], bytes) x e)
    (refl, refl, All-nil (HasWord column))
numbers_take line column (name ∷ names) bytes x e =
    let first = bind_ok (number_at line column name bytes) _ x e in
    let others = bind_ok (numbers_at (line + 1) column names first.0.1) _ x first.2 in
    let text = bind_ok (line_at line bytes) _ first.0 first.1 in
    let number = bind_ok (named_number line column name text.0.0) _ first.0 text.2 in
    let is : (number.0, text.0.1) ≡ first.0 = ok_is (number.0, text.0.1) first.0 number.2 in
    let n_is : number.0 ≡ first.0.0 = ap (λ (y : ℕ × List ℕ). y.0) is in
    let rest_is : text.0.1 ≡ first.0.1 = ap (λ (y : ℕ × List ℕ). y.1) is in
    let text_is = line_takes line bytes text.0.0 text.0.1 text.1 in
    let number_is = named_takes line column name text.0.0 number.0 number.1 in
    let others_are = numbers_take (line + 1) column names first.0.1 others.0 others.1 in
    let whole : bytes ≡ numbered column (name ∷ names) (first.0.0 ∷ others.0.0) ++ others.0.1 =
    stacked column bytes text.0.0 text.0.1 first.0.1 name number.0 first.0.0 names others.0.0 others.0.1 text_is number_is.0 n_is rest_is others_are.0 in
    subst (λ (y : List ℕ × List ℕ). (bytes ≡ numbered column (name ∷ names) y.0 ++ y.1) × (length y.0 ≡ suc (length names)) × All (HasWord column) y.0)
    (ok_is (first.0.0 ∷ others.0.0, others.0.1) x others.2)
    (whole, ap suc others_are.1, All-cons (HasWord column) first.0.0 others.0.0 (subst (HasWord column) n_is number_is.1) others_are.2)

lacks_space : Lacks 10 (32 ∷ [])
lacks_space = Lacks-from_test 10 (32 ∷ []) refl

line_lacks : (column : Column) (name : List ℕ) (n : ℕ) → Lacks 10 name → HasWord column n → Lacks 10 (number_line column name n)
line_lacks column name n lacks has =
    Lacks-append 10 (keyword_of column) (name ++ 32 ∷ value_word column n) (keyword_lacks column)
    (Lacks-append 10 name (32 ∷ value_word column n) lacks (Lacks-append 10 (32 ∷ []) (value_word column n) lacks_space (value_lacks column n has)))

-- what is spelled so is read
pub numbers_again : (line : ℕ) (column : Column) (names : List (List ℕ)) (ns rest : List ℕ) → All (λ name. is_name name ≡ true) names
    → length ns ≡ length names → All (HasWord column) ns
    → numbers_at line column names (numbered column names ns ++ rest) ≡ Ok (ns, rest)
unfolding numbers_at number_at
numbers_again line column [] [] rest a l b = refl
numbers_again line column [] (n ∷ ns) rest a l b = absurd cc
numbers_again line column (name ∷ names) [] rest a l b = absurd cc
numbers_again line column (name ∷ names) (n ∷ ns) rest a l b =
    let l1 : length ns ≡ length names = omega (arith, l) in
    let form : is_name name ≡ true = All-head (λ x. is_name x ≡ true) name names a in
    let has : HasWord column n = All-head (HasWord column) n ns b in
    let again = numbers_again (line + 1) column names ns rest (All-tail (λ x. is_name x ≡ true) name names a) l1 (All-tail (HasWord column) n ns b) in
    let regrouped : numbered column (name ∷ names) (n ∷ ns) ++ rest ≡ number_line column name n ++ 10 ∷ (numbered column names ns ++ rest) =
    append_assoc (number_line column name n) (10 ∷ numbered column names ns) rest in
    ap (numbers_at line column (name ∷ names)) regrouped
    ∙ rw (
      line_again line (number_line column name n) (numbered column names ns ++ rest) (line_lacks column name n (name_lacks 10 refl name form) has),
      named_again line column name n has form,
      again,
    ) refl

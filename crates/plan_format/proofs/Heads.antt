-- The two laws of the first line and of the line of the delay.
use Rattle.std.proofs.Common.{◌≡◌, ℕ, ◌<◌, ◌^◌, List, ◌∷◌, ◌++◌, Ok, lit<, true, refl, ap, ◌∙◌, arith, Some}
use Rattle.std.specs.Prelude.{bytes_eq, decimal, codes}
use Rattle.std.proofs.lemmas.Bool.{cond_both}
use Rattle.std.proofs.lemmas.Slice.Eq.{bytes_eq-Decides}
use Rattle.line_text.specs.Parts.{Lacks, after_keyword}
use Rattle.line_text.specs.Numbers.{number_word}
use Rattle.line_text.specs.declared.number.NumberWord.TheVariants as word
use Rattle.line_text.specs.Results.{or_fault, check}
use Rattle.line_text.proofs.Cuts.{after_takes, after_again, Lacks-append, Lacks-from_test}
use Rattle.line_text.proofs.Digits.{number_takes, number_again, decimal_lacks}
use Rattle.line_text.proofs.Results.{bind_ok, ok_is, or_fault_ok, check_ok}
use Rattle.plan_format.specs.declared.fault.LineFault.TheVariants.{Form}
use Rattle.plan_format.specs.declared.fault.PlanTextError.TheVariants.{At}
use Rattle.ttp_model.specs.Instance.{Instance}
use Rattle.plan_format.specs.Channels.{has_two_channels, first_line}
use Rattle.plan_format.specs.Reading.{line_at, number_of, head_at, delay_at}
use Rattle.plan_format.specs.Spelling.{delay_line}
use Rattle.plan_format.proofs.Columns.{number_of_ok}
use Rattle.plan_format.proofs.Lines.{line_takes, line_again}

pub head_takes : (i : Instance) (text rest : List ℕ) → head_at i text ≡ Ok rest → text ≡ first_line i ++ 10 ∷ rest
unfolding head_at
head_takes i text rest e =
    let line = bind_ok (line_at 1 text) _ rest e in
    let form = bind_ok (check (At 1 Form) (bytes_eq line.0.0 (first_line i))) _ rest line.2 in
    let here : line.0.0 ≡ first_line i = (bytes_eq-Decides line.0.0 (first_line i)).0 (check_ok (At 1 Form) _ form.0 form.1) in
    let is : line.0.1 ≡ rest = ok_is line.0.1 rest form.2 in
    line_takes 1 text line.0.0 line.0.1 line.1 ∙ rw (here, is) refl

first_lacks : (i : Instance) → Lacks 10 (first_line i)
unfolding first_line
first_lacks i =
    cond_both (has_two_channels i) (codes "ttplan 2") (codes "ttplan 1") (Lacks 10)
    (λ _. Lacks-from_test 10 (codes "ttplan 2") refl) (λ _. Lacks-from_test 10 (codes "ttplan 1") refl)

head_steps : (i : Instance) (text first rest : List ℕ) → line_at 1 text ≡ Ok (first, rest) → bytes_eq first (first_line i) ≡ true → head_at i text ≡ Ok rest
unfolding head_at
head_steps i text first rest a b = rw (a, b) refl

pub head_again : (i : Instance) (rest : List ℕ) → head_at i (first_line i ++ 10 ∷ rest) ≡ Ok rest
head_again i rest =
    head_steps i (first_line i ++ 10 ∷ rest) (first_line i) rest (line_again 1 (first_line i) rest (first_lacks i))
    ((bytes_eq-Decides (first_line i) (first_line i)).1 refl)

below : (m n : ℕ) → m ≡ n → m < 2 ^ 32 → n < 2 ^ 32
below m n e h = omega arith

delay_joined : (text first after word rest : List ℕ) (m n : ℕ) → text ≡ first ++ 10 ∷ after → first ≡ codes "delay " ++ word → word ≡ decimal m → m ≡ n → after ≡ rest
    → text ≡ delay_line n ++ 10 ∷ rest
delay_joined text first after word rest m n a b c d e = rw (a, b, c, d, e) refl

pub delay_takes : (text : List ℕ) (x : ℕ × List ℕ) → delay_at text ≡ Ok x → (text ≡ delay_line x.0 ++ 10 ∷ x.1) × (x.0 < 2 ^ 32)
unfolding delay_at
delay_takes text x e =
    let line = bind_ok (line_at 2 text) _ x e in
    let rest = bind_ok (or_fault (At 2 Form) (after_keyword (codes "delay ") line.0.0)) _ x line.2 in
    let n = bind_ok (number_of 2 (number_word rest.0)) _ x rest.2 in
    let is : (n.0, line.0.1) ≡ x = ok_is (n.0, line.0.1) x n.2 in
    let n_is : n.0 ≡ x.0 = ap (λ (y : ℕ × List ℕ). y.0) is in
    let rest_is : line.0.1 ≡ x.1 = ap (λ (y : ℕ × List ℕ). y.1) is in
    let number = number_takes rest.0 n.0 (number_of_ok 2 (number_word rest.0) n.0 n.1) in
    let keyword = after_takes (codes "delay ") line.0.0 rest.0 (or_fault_ok (At 2 Form) (after_keyword (codes "delay ") line.0.0) rest.0 rest.1) in
    (delay_joined text line.0.0 line.0.1 rest.0 x.1 n.0 x.0 (line_takes 2 text line.0.0 line.0.1 line.1) keyword number.0 n_is rest_is, below n.0 x.0 n_is number.1)

delay_steps : (text first rest w : List ℕ) (n : ℕ) → line_at 2 text ≡ Ok (first, rest) → after_keyword (codes "delay ") first ≡ Some w → number_word w ≡ word.Number n → delay_at text ≡ Ok (n, rest)
unfolding delay_at
delay_steps text first rest w n a b c = rw (a, b, c) refl

delay_lacks : (n : ℕ) → n < 2 ^ 32 → Lacks 10 (delay_line n)
delay_lacks n lt = Lacks-append 10 (codes "delay ") (decimal n) (Lacks-from_test 10 (codes "delay ") refl) (decimal_lacks 10 n (lit< tt) (omega arith))

pub delay_again : (n : ℕ) (rest : List ℕ) → n < 2 ^ 32 → delay_at (delay_line n ++ 10 ∷ rest) ≡ Ok (n, rest)
delay_again n rest lt =
    delay_steps (delay_line n ++ 10 ∷ rest) (delay_line n) rest (decimal n) n
    (line_again 2 (delay_line n) rest (delay_lacks n lt)) (after_again (codes "delay ") (decimal n)) (number_again n lt)

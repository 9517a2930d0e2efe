-- The two laws of the last word of a line behind the order; and that a line's end stands in none of its parts.
use Rattle.std.proofs.Common.{◌≡◌, ℕ, zero, suc, ◌≤◌, ◌==◌, Bool, true, false, cond, List, Some, None, Ok, lit<, refl, ap, subst, arith}
use Rattle.std.specs.Prelude.{bytes_eq, codes, if◌then◌else◌}
use Rattle.std.proofs.lemmas.Bool.{cond_both}
use Rattle.std.proofs.lemmas.Slice.Eq.{bytes_eq-Decides}
use Rattle.line_text.specs.Parts.{Lacks}
use Rattle.line_text.specs.Numbers.{number_word}
use Rattle.line_text.specs.declared.number.NumberWord.{NumberWord}
use Rattle.line_text.specs.declared.number.NumberWord.TheVariants as word
use Rattle.line_text.specs.Results.{or_fault}
use Rattle.line_text.proofs.Cuts.{Lacks-from_test}
use Rattle.line_text.proofs.Digits.{number_takes, number_again, decimal_lacks}
use Rattle.line_text.proofs.Results.{or_fault_ok}
use Rattle.ttp_model.specs.Limits.{both_channels}
use Rattle.plan_format.specs.declared.fault.LineFault.TheVariants.{Form}
use Rattle.plan_format.specs.declared.fault.PlanTextError.TheVariants.{At}
use Rattle.plan_format.specs.declared.column.Column.{Column}
use Rattle.plan_format.specs.declared.column.Column.TheVariants.{Capacity, Start, Round, Channel}
use Rattle.plan_format.specs.Names.{keyword_of}
use Rattle.plan_format.specs.Channels.{channel_word, channel_said}
use Rattle.plan_format.specs.Spelling.{HasWord, value_word}
use Rattle.plan_format.specs.Reading.{number_of, value_of}

-- ---- words of channels

found_word : (text : List ℕ) (a b c : Bool) → bytes_eq text (channel_word 0) ≡ a → bytes_eq text (channel_word 1) ≡ b
    → bytes_eq text (channel_word both_channels) ≡ c
    → (n : ℕ) → cond a (Some 0) (cond b (Some 1) (cond c (Some both_channels) None)) ≡ Some n → (text ≡ channel_word n) × (n ≤ both_channels)
found_word text true b c first second both n e =
    let is : 0 ≡ n = cc in
    subst (λ (k : ℕ). (text ≡ channel_word k) × (k ≤ both_channels)) is ((bytes_eq-Decides text (channel_word 0)).0 first, omega arith)
found_word text false true c first second both n e =
    let is : 1 ≡ n = cc in
    subst (λ (k : ℕ). (text ≡ channel_word k) × (k ≤ both_channels)) is ((bytes_eq-Decides text (channel_word 1)).0 second, omega arith)
found_word text false false true first second both n e =
    let is : both_channels ≡ n = cc in
    subst (λ (k : ℕ). (text ≡ channel_word k) × (k ≤ both_channels)) is ((bytes_eq-Decides text (channel_word both_channels)).0 both, omega arith)
found_word text false false false first second both n e = absurd cc

channel_takes : (text : List ℕ) (n : ℕ) → channel_said text ≡ Some n → (text ≡ channel_word n) × (n ≤ both_channels)
channel_takes text n e =
    found_word text (bytes_eq text (channel_word 0)) (bytes_eq text (channel_word 1)) (bytes_eq text (channel_word both_channels)) refl refl refl n e

channel_again : (n : ℕ) → n ≤ both_channels → channel_said (channel_word n) ≡ Some n
channel_again zero le = refl
channel_again (suc zero) le = refl
channel_again (suc (suc zero)) le = refl
channel_again (suc (suc (suc n))) le = absurd (omega arith)

channel_lacks : (n : ℕ) → Lacks 10 (channel_word n)
channel_lacks n =
    cond_both (n == 0) (codes "0") (if n == 1 then codes "1" else codes "both") (Lacks 10)
    (λ _. Lacks-from_test 10 (codes "0") refl)
    (λ _. cond_both (n == 1) (codes "1") (codes "both") (Lacks 10) (λ _. Lacks-from_test 10 (codes "1") refl) (λ _. Lacks-from_test 10 (codes "both") refl))

-- ---- the last word of a line

pub number_of_ok : (line : ℕ) (w : NumberWord) (n : ℕ) → number_of line w ≡ Ok n → w ≡ word.Number n
number_of_ok line word.Malformed n e = absurd cc
number_of_ok line word.TooLarge n e = absurd cc
number_of_ok line (word.Number m) n e = cc

-- what is read is spelled so
pub value_takes : (column : Column) (line : ℕ) (text : List ℕ) (n : ℕ) → value_of column line text ≡ Ok n → (text ≡ value_word column n) × HasWord column n
value_takes Capacity line text n e = number_takes text n (number_of_ok line (number_word text) n e)
value_takes Start line text n e = number_takes text n (number_of_ok line (number_word text) n e)
value_takes Round line text n e = number_takes text n (number_of_ok line (number_word text) n e)
value_takes Channel line text n e = channel_takes text n (or_fault_ok (At line Form) (channel_said text) n e)

-- what is spelled so is read
pub value_again : (column : Column) (line n : ℕ) → HasWord column n → value_of column line (value_word column n) ≡ Ok n
value_again Capacity line n has = ap (number_of line) (number_again n has)
value_again Start line n has = ap (number_of line) (number_again n has)
value_again Round line n has = ap (number_of line) (number_again n has)
value_again Channel line n has = ap (or_fault (At line Form)) (channel_again n has)

-- ---- no line's end

pub value_lacks : (column : Column) (n : ℕ) → HasWord column n → Lacks 10 (value_word column n)
value_lacks Capacity n has = decimal_lacks 10 n (lit< tt) (omega (arith, has))
value_lacks Start n has = decimal_lacks 10 n (lit< tt) (omega (arith, has))
value_lacks Round n has = decimal_lacks 10 n (lit< tt) (omega (arith, has))
value_lacks Channel n has = channel_lacks n

pub keyword_lacks : (column : Column) → Lacks 10 (keyword_of column)
keyword_lacks Capacity = Lacks-from_test 10 (keyword_of Capacity) refl
keyword_lacks Start = Lacks-from_test 10 (keyword_of Start) refl
keyword_lacks Round = Lacks-from_test 10 (keyword_of Round) refl
keyword_lacks Channel = Lacks-from_test 10 (keyword_of Channel) refl

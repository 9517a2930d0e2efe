-- Reading numbered lines one after the other, as a loop does.
use Rattle.std.proofs.Common.{◌≡◌, ℕ, suc, ◌+◌, ◌≤◌, ◌<◌, List, [], ◌∷◌, ◌++◌, length, get_or, drop, Ok, Err, refl, sym, ap, ◌∙◌, append_assoc, arith, drop-cons, add-one}
use Rattle.std.proofs.lemmas.List.{append-nil}
use Rattle.std.proofs.Math.ListN.{drop_of_length-le}
use Rattle.line_text.specs.Results.{◌>>=◌}
use Rattle.plan_format.specs.declared.fault.PlanTextError.{PlanTextError}
use Rattle.plan_format.specs.declared.fault.PlanTextError.TheVariants.{At, OutOfMemory}
use Rattle.plan_format.specs.declared.column.Column.{Column}
use Rattle.plan_format.specs.Reading.{Reading, IsFaultOf, number_at, numbers_at}

-- what was read before, and what is still read
abbrev pub with_front : List ℕ → Reading (List ℕ × List ℕ) → Reading (List ℕ × List ℕ)
with_front front read = read >>= λ x. Ok (front ++ x.0, x.1)

regroup : (front : List ℕ) (n : ℕ) (read : Reading (List ℕ × List ℕ)) → with_front front (read >>= λ x. Ok (n ∷ x.0, x.1)) ≡ with_front (front ++ n ∷ []) read
regroup front n (Ok x) = ap (λ (ns : List ℕ). Ok (ns, x.1)) (simp append_assoc)
regroup front n (Err f) = refl

-- how far the loop is
abbrev pub IsReadSoFar : ℕ → Column → List (List ℕ) → List ℕ → ℕ → List ℕ → List ℕ → Type 0
IsReadSoFar line column names bytes k front rest = with_front front (numbers_at (line + k) column (drop k names) rest) ≡ numbers_at line column names bytes

pub goes_on : (line : ℕ) (column : Column) (names : List (List ℕ)) (bytes : List ℕ) (k : ℕ) (front rest : List ℕ) (n : ℕ) (after : List ℕ) → k < length names
    → number_at (line + k) column (get_or names k []) rest ≡ Ok (n, after)
    → IsReadSoFar line column names bytes k front rest → IsReadSoFar line column names bytes (k + 1) (front ++ n ∷ []) after
unfolding numbers_at
goes_on line column names bytes k front rest n after lt h so_far =
    let next : line + k + 1 ≡ line + suc k = omega arith in
    let others = numbers_at (line + k + 1) column (drop (suc k) names) after in
    let one : with_front front (numbers_at (line + k) column (drop k names) rest) ≡ with_front (front ++ n ∷ []) others =
    rw (drop-cons names k [], h) (regroup front n others) in
    rw (add-one, ← next) (sym one ∙ so_far)

pub ends : (e : PlanTextError) (line : ℕ) (column : Column) (names : List (List ℕ)) (bytes : List ℕ) (k : ℕ) (front rest : List ℕ) → k < length names
    → IsFaultOf ⊥ e (number_at (line + k) column (get_or names k []) rest)
    → IsReadSoFar line column names bytes k front rest → IsFaultOf (Unit {0}) e (numbers_at line column names bytes)
unfolding numbers_at
ends OutOfMemory line column names bytes k front rest lt h so_far = tt
ends (At at fault) line column names bytes k front rest lt h so_far =
    let one : with_front front (numbers_at (line + k) column (drop k names) rest) ≡ Err (At at fault) = rw (drop-cons names k [], h) refl in
    sym so_far ∙ one

pub is_done : (line : ℕ) (column : Column) (names : List (List ℕ)) (bytes : List ℕ) (k : ℕ) (front rest : List ℕ) → length names ≤ k
    → IsReadSoFar line column names bytes k front rest → numbers_at line column names bytes ≡ Ok (front, rest)
unfolding numbers_at
is_done line column names bytes k front rest le so_far =
    let none : drop k names ≡ [] = drop_of_length-le names le in
    let one : with_front front (numbers_at (line + k) column (drop k names) rest) ≡ Ok (front, rest) =
    rw none (ap (λ (ns : List ℕ). Ok (ns, rest)) (append-nil front)) in
    sym so_far ∙ one

-- What holds between the elements of two lists and between both holds in the joined list.
use Rattle.std.proofs.Common.{suc, List, [], ◌∷◌, ◌++◌, All, AllPairs, arith}
use Rattle.std.proofs.lemmas.List.Elements.{All-append}
use Rattle.std.proofs.lemmas.List.Kept.{AllPairs-cons}

pub AllPairs-append : {X : Type 0} (R : X → X → Type 0) (xs ys : List X) → AllPairs R xs → AllPairs R ys → All (λ x. All (R x) ys) xs → AllPairs R (xs ++ ys)
AllPairs-append R [] ys first second between = second
AllPairs-append R (x ∷ xs) ys first second between =
    let rest = AllPairs-append R xs ys (λ j k d lt inside. first (suc j) (suc k) d (omega (arith, lt)) (omega (arith, inside))) second (λ k d inside. between (suc k) d (omega (arith, inside))) in
    let head : All (R x) xs = λ k d inside. first 0 (suc k) d (omega arith) (omega (arith, inside)) in
    AllPairs-cons R x (xs ++ ys) (All-append (R x) xs ys head (between 0 x (omega arith))) rest

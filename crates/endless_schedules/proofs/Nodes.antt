-- Numbers, each once, with one more.
use Rattle.std.proofs.Common.{◌≡◌, ◌∙◌, ℕ, ◌+◌, ◌<◌, ◌==◌, Bool, true, false, List, [], ◌∷◌, ◌++◌, length, map, fold, take, get_or, sym, ap, ap₂, cond}
use Rattle.std.specs.List.{list_any}
use Rattle.std.proofs.lemmas.List.{take_more, map-append}
use Rattle.std.proofs.lemmas.List.Sums.{fold-append}
use Rattle.endless_schedules.specs.Stores.{each_once, with_new}

pub with_new_there : (xs : List ℕ) (x : ℕ) → list_any (λ y. y == x) xs ≡ true → with_new xs x ≡ xs
unfolding with_new
with_new_there xs x is = ap (λ (b : Bool). cond b xs (xs ++ x ∷ [])) is

pub with_new_added : (xs : List ℕ) (x : ℕ) → list_any (λ y. y == x) xs ≡ false → with_new xs x ≡ xs ++ x ∷ []
unfolding with_new
with_new_added xs x is = ap (λ (b : Bool). cond b xs (xs ++ x ∷ [])) is

pub each_once_more : (f : ℕ → ℕ) (xs : List ℕ) (i d : ℕ) → i < length xs → each_once (map f (take (i + 1) xs)) ≡ with_new (each_once (map f (take i xs))) (f (get_or xs i d))
each_once_more f xs i d within =
    ap (fold with_new []) (ap (map f) (take_more xs i d within) ∙ map-append f (take i xs) (get_or xs i d ∷ []))
    ∙ fold-append with_new [] (map f (take i xs)) (f (get_or xs i d) ∷ [])

-- one more process, whose node is there, or isn't
module _ (f : ℕ → ℕ) (xs : List ℕ) (i node : ℕ) (nodes : List ℕ) (within : i < length xs) (is : node ≡ f (get_or xs i 0))
    (so_far : nodes ≡ each_once (map f (take i xs))) where
  node_more : each_once (map f (take (i + 1) xs)) ≡ with_new nodes node
  node_more = each_once_more f xs i 0 within ∙ ap₂ with_new (sym so_far) (sym is)

  pub node_there : list_any (λ n. n == node) nodes ≡ true → nodes ≡ each_once (map f (take (i + 1) xs))
  node_there there = sym (node_more ∙ with_new_there nodes node there)

  pub node_added : list_any (λ n. n == node) nodes ≡ false → nodes ++ node ∷ [] ≡ each_once (map f (take (i + 1) xs))
  node_added other = sym (node_more ∙ with_new_added nodes node other)

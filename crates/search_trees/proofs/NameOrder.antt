-- The order of names: children rise, and what stands below a name comes before its next sibling.
use Rattle.std.proofs.Common.{◌≡◌, ℕ, ◌<◌, [], ◌∷◌, ◌++◌, refl, sym, ap, ◌∙◌}
use Rattle.std.specs.Ordering.{nat_cmp, ordering_then}
use Rattle.std.specs.declared.cmp.Ordering.{Ordering}
use Rattle.std.specs.declared.cmp.Ordering.TheVariants.{Less, Equal}
use Rattle.std.specs.Cmp.{nat_cmp_is, tied_itself}
use Rattle.std.proofs.lemmas.Cmp.{nat_list_cmp_total}
use Rattle.search_trees.specs.Name.{Name}
use Rattle.search_trees.specs.Order.{compare, SortsBefore}

same_number : (x : ℕ) → nat_cmp x x ≡ Equal
same_number x = sym (nat_cmp_is x x Equal refl)

less_number : (x y : ℕ) → x < y → nat_cmp x y ≡ Less
less_number x y lt = sym (nat_cmp_is x y Less lt)

-- behind equal indices the others decide
behind : (x : ℕ) (a b : Name) → compare (x ∷ a) (x ∷ b) ≡ compare a b
behind x a b = ap (λ (o : Ordering). ordering_then o (compare a b)) (same_number x)

-- a name goes before those that begin with it
pub own_before : (name : Name) (k : ℕ) (rest : Name) → SortsBefore name (name ++ k ∷ rest)
own_before [] k rest = refl
own_before (x ∷ name) k rest = behind x name (name ++ k ∷ rest) ∙ own_before name k rest

-- what stands at or below a child goes before what stands at or below a later child
pub sibling_before : (name : Name) (j k : ℕ) (a b : Name) → j < k → SortsBefore (name ++ j ∷ a) (name ++ k ∷ b)
sibling_before [] j k a b lt = ap (λ (o : Ordering). ordering_then o (compare a b)) (less_number j k lt)
sibling_before (x ∷ name) j k a b lt = behind x (name ++ j ∷ a) (name ++ k ∷ b) ∙ sibling_before name j k a b lt

pub before_both : (a b c : Name) → SortsBefore a b → SortsBefore b c → SortsBefore a c
before_both a b c = nat_list_cmp_total.trans a b c

pub not_itself : (a : Name) → SortsBefore a a → ⊥
not_itself a less = cc (tied_itself {R = compare} nat_list_cmp_total a)

-- How the items of a list are looked at one after another.
use Rattle.std.proofs.Common.{◌≡◌, ◌∙◌, ℕ, ◌+◌, ◌<◌, ◌≤◌, List, ◌∷◌, length, get_or, drop, map, Bool, true, false, Option, None, Some, refl, sym, ap}
use Rattle.std.specs.List.{find, fold}
use Rattle.std.proofs.lemmas.List.{drop_all, drop_more}
use Rattle.toml.specs.Data.{Data, Items}
use Rattle.toml.specs.View.{items_view, view}
use Rattle.toml.specs.declared.value.Value.{Value}
use Rattle.instance_reasons.specs.declared.values.Kind.{Kind}
use Rattle.instance_text.proofs.ArrayLaws.{list_of-items_view}
use Rattle.instance_reasons.specs.Tables.{of_items}
use Rattle.instance_reasons.specs.Unknown.{earlier, unknown_item}
use Rattle.instance_reasons.specs.Values.{first_unfit, first_wrong, kind_of, may_stand, or_else, unfit_in}

-- what is left of a list: an item, and what is left behind it
pub left : {X : Type 0} (xs : List X) (i : ℕ) (x : X) → i < length xs → x ≡ get_or xs i x → drop i xs ≡ x ∷ drop (i + 1) xs
left xs i x within here = drop_more xs i x within ∙ ap (λ y. y ∷ drop (i + 1) xs) (sym here)

-- ---- of a wrong kind

module _ (k : Kind) (vs : List Value) (i : ℕ) where
  pub wrong_behind : (v : Value) → i < length vs → v ≡ get_or vs i v → may_stand k (view v) ≡ true
      → first_wrong k (map view (drop i vs)) ≡ first_wrong k (map view (drop (i + 1) vs))
  wrong_behind v within here stands = rw (left vs i v within here, stands) refl

  pub wrong_here : (v : Value) → i < length vs → v ≡ get_or vs i v → may_stand k (view v) ≡ false
      → first_wrong k (map view (drop i vs)) ≡ Some (kind_of (view v))
  wrong_here v within here not = rw (left vs i v within here, not) refl

  pub none_wrong : length vs ≤ i → first_wrong k (map view (drop i vs)) ≡ None
  none_wrong past = rw (drop_all i vs past) refl

-- ---- a number that doesn't fit

module _ (vs : List Value) (i : ℕ) where
  pub unfit_next : (v : Value) → i < length vs → v ≡ get_or vs i v
      → first_unfit (map view (drop i vs)) ≡ or_else (unfit_in (view v)) (first_unfit (map view (drop (i + 1) vs)))
  unfit_next v within here = rw (left vs i v within here) refl

  pub none_unfit : length vs ≤ i → first_unfit (map view (drop i vs)) ≡ None
  none_unfit past = rw (drop_all i vs past) refl

-- ---- an unknown name

abbrev pub step : (List ℕ → Bool) → Option (List ℕ) → Data → Option (List ℕ)
step known first d = earlier first (unknown_item known d)

module _ (known : List ℕ → Bool) (vs : List Value) (i : ℕ) where
  pub one_more : (found : Option (List ℕ)) (v : Value) → i < length vs → v ≡ get_or vs i v
      → fold (step known) found (map view (drop i vs)) ≡ fold (step known) (step known found (view v)) (map view (drop (i + 1) vs))
  one_more found v within here = rw (left vs i v within here) refl

  pub all_seen : (found : Option (List ℕ)) → length vs ≤ i → fold (step known) found (map view (drop i vs)) ≡ found
  all_seen found past = rw (drop_all i vs past) refl

-- ---- the first that passes

module _ {X : Type 0} (p : List ℕ → Bool) (text : X → List ℕ) (xs : List X) (i : ℕ) where
  pub find_behind : (x : X) → i < length xs → x ≡ get_or xs i x → p (text x) ≡ false
      → find p (map text (drop i xs)) ≡ find p (map text (drop (i + 1) xs))
  find_behind x within here fails = rw (left xs i x within here, fails) refl

  pub find_here : (x : X) → i < length xs → x ≡ get_or xs i x → p (text x) ≡ true → find p (map text (drop i xs)) ≡ Some (text x)
  find_here x within here passes = rw (left xs i x within here, passes) refl

  pub find_none : length xs ≤ i → find p (map text (drop i xs)) ≡ None
  find_none past = rw (drop_all i xs past) refl

-- ---- the code's arrays

module _ {A : Type 0} (found : Option Items) (other : A) (f : List Data → A) where
  pub of_array : (vs : List Value) → Some (items_view vs) ≡ found → of_items found other f ≡ f (map view vs)
  of_array vs is = rw (← is, list_of-items_view vs) refl

  pub of_other : None ≡ found → of_items found other f ≡ other
  of_other is = rw (← is) refl

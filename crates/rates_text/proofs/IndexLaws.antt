-- What an index of names finds, filled from the last name to the first.
use Rattle.std.proofs.Common.{◌≡◌, ℕ, ◌+◌, ◌<◌, cond, List, map, length, get_or, drop, Some, option_map, Bor, refl, sym, ap, ◌∙◌}
use Rattle.std.proofs.lemmas.List.{drop_more, drop-map}
use Rattle.std.proofs.lemmas.Iterator.Adapters.{position_from-zero}
use Rattle.std.proofs.lemmas.Map.Text.{hash_map_updates_str}
use Rattle.std.specs.Cmp.Lexicographic.{nat_list_eq_equiv}
use Rattle.std.specs.HashMap.{HashMap, get_by, UpdatesBy}
use Rattle.std.specs.List.{position_from}
use Rattle.std.specs.Str.{bytes_eq}
use Rattle.rates_text.specs.Kinds.{cut_index, index_in}

-- the map has each name from this index on at its first index
abbrev pub HasFrom : {S : Type 0} → HashMap (Bor (List ℕ)) ℕ S → ℕ → List (List ℕ) → Type 0
HasFrom m i names = (name : List ℕ) → get_by (λ k. bytes_eq name k.now) m ≡ position_from (bytes_eq name) i (drop i names)

module _ {A : Type 0} (name_of : A → List ℕ) (xs : List A) (i : ℕ) (x : A) (within : i < length xs) (here : x ≡ get_or xs i x) where
  position_from-drop : (name : List ℕ) → position_from (bytes_eq name) i (drop i (map name_of xs))
      ≡ cond (bytes_eq (name_of x) name) (Some i) (position_from (bytes_eq name) (i + 1) (drop (i + 1) (map name_of xs)))
  position_from-drop name =
      rw (drop-map name_of i xs, drop_more xs i x within, ← here, ← drop-map name_of (i + 1) xs, nat_list_eq_equiv.symm name (name_of x)) refl

  -- one name more in front
  pub HasFrom-insert : {S : Type 0} (m n : HashMap (Bor (List ℕ)) ℕ S)
      → UpdatesBy (λ a b. bytes_eq a.now b.now) (λ k. bytes_eq (name_of x) k.now) m n (Some i)
      → HasFrom m (i + 1) (map name_of xs) → HasFrom n i (map name_of xs)
  HasFrom-insert m n updates later name =
      hash_map_updates_str (name_of x) m n (Some i) updates name
      ∙ ap (cond (bytes_eq (name_of x) name) (Some i)) (later name) ∙ sym (position_from-drop name)

-- all names are there
pub index_by-all : {S : Type 0} (m : HashMap (Bor (List ℕ)) ℕ S) (names : List (List ℕ)) → HasFrom m 0 names
    → (λ (name : List ℕ). option_map cut_index (get_by (λ k. bytes_eq name k.now) m)) ≡ index_in names
index_by-all m names found = λ j. λ name. option_map cut_index ((found name ∙ sym (position_from-zero (bytes_eq name) names)) j)

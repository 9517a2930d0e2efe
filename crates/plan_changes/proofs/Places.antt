-- A name is found among others just where it is one of them.
use Rattle.std.proofs.Common.{◌≡◌, ℕ, Bool, true, false, List, Option, None, Some, Contains, get_or, refl}
use Rattle.std.specs.Prelude.{bytes_eq, filter, is_none}
use Rattle.std.proofs.lemmas.List.Elements.{All-contains, All-contains_itself, All-filter}
use Rattle.std.proofs.lemmas.List.Quantifiers.{position-Some}
use Rattle.std.proofs.lemmas.Slice.Eq.{bytes_eq-Decides}
use Rattle.ttp_model.proofs.Named.{is_found}
use Rattle.plan_changes.specs.Names.{place_in}

pub bytes_eq-same : (name : List ℕ) → bytes_eq name name ≡ true
bytes_eq-same name = (bytes_eq-Decides name name).1 refl

module _ (names : List (List ℕ)) (name : List ℕ) where
  -- one of them has a place
  pub place_in-there : Contains names name → is_none (place_in names name) ≡ false
  place_in-there there = is_found names name there

  place_of_one : (place : Option ℕ) → place_in names name ≡ place → is_none place ≡ false → Contains names name
  place_of_one None is some = absurd cc
  place_of_one (Some k) is some =
      let told = position-Some (λ n. bytes_eq n name) names k name is in
      (k, told.0, (bytes_eq-Decides (get_or names k name) name).0 told.1)

  -- and what has a place is one of them
  pub place_in-tells : is_none (place_in names name) ≡ false → Contains names name
  place_in-tells some = place_of_one (place_in names name) refl some

-- what passes a test is still there
pub Contains-filter : {X : Type 0} (p : X → Bool) (xs : List X) (x : X) → Contains (filter p xs) x → Contains xs x
Contains-filter p xs x there = All-contains (Contains xs) (filter p xs) x (All-filter p (Contains xs) xs (All-contains_itself xs)) there

-- Names of either list, gathered one after another, and what is told of each.
use Rattle.std.proofs.Common.{◌≡◌, ◌∙◌, ◌↔◌, ℕ, ◌+◌, ◌<◌, Bool, true, false, IsTrue, List, [], ◌∷◌, ◌++◌, All, Option, Bor, length, map, take, get_or}
use Rattle.std.proofs.Common.{ap, append_assoc, arith, refl, subst, sym}
use Rattle.std.specs.Prelude.{is_none, is_some, not}
use Rattle.std.specs.List.{flat_map}
use Rattle.std.proofs.lemmas.List.{append-nil, get_or-map, length-map}
use Rattle.std.proofs.lemmas.List.Elements.{All-map, filter_more}
use Rattle.std.proofs.lemmas.List.Folds.{flat_map-map}
use Rattle.plan_changes.specs.Names.{gone_from, place_in}

-- what the test for none has told of a value
pub is_none-told : {A : Type 0} (o p : Option A) (test told : Bool) → o ≡ p → is_some o ≡ not test → test ≡ told → is_none p ≡ told
is_none-told o p test true is tests tells = rw (← is, tests, tells) refl
is_none-told o p test false is tests tells = rw (← is, tests, tells) refl

module _ (new names : List (List ℕ)) (k : ℕ) (before now : List (List ℕ)) (name : List ℕ)
    (inside : k < length names) (is : name ≡ get_or names k []) (so_far : now ≡ before ++ gone_from new (take k names)) where
  -- one that is gone
  pub gone-more : is_none (place_in new name) ≡ true → now ++ name ∷ [] ≡ before ++ gone_from new (take (k + 1) names)
  gone-more gone =
      let here = rw is at gone in
      rw (filter_more (λ n. is_none (place_in new n)) names k [] inside, here, so_far, is)
      (append_assoc before (gone_from new (take k names)) (get_or names k [] ∷ []))

  -- one that isn't
  pub gone-same : is_none (place_in new name) ≡ false → now ≡ before ++ gone_from new (take (k + 1) names)
  gone-same there =
      let here = rw is at there in
      rw (filter_more (λ n. is_none (place_in new n)) names k [] inside, here, so_far)
      (ap (λ rest. before ++ rest) (sym (append-nil (gone_from new (take k names)))))

-- what is told of each name that is read is told of each name
pub flat_map-read : {A : Type 0} (f : List ℕ → List A) (read : List (Bor (List ℕ))) (names : List (List ℕ)) → map (λ n. n.now) read ≡ names
    → flat_map (λ n. f n.now) read ≡ flat_map f names
flat_map-read f read names are = sym (flat_map-map f (λ n. n.now) read) ∙ ap (flat_map f) are

All-unmap : {X Y : Type 0} (P : X → Type 0) (f : Y → X) (ys : List Y) → All P (map f ys) → All (λ y. P (f y)) ys
All-unmap P f ys all = λ k d inside.
    let there : k < length (map f ys) = omega (arith, inside, length-map ys f) in
    rw (get_or-map f ys k d (f d) inside) at (all k (f d) there)

-- what holds of each name that is read holds of each name
pub all_so-read : (P : List ℕ → Type 0) (read : List (Bor (List ℕ))) (names : List (List ℕ)) (so : Bool) → map (λ n. n.now) read ≡ names
    → IsTrue so ↔ All (λ n. P n.now) read → IsTrue so ↔ All P names
all_so-read P read names so are told =
    let Told : List (List ℕ) → Type 0 = λ xs. IsTrue so ↔ All P xs in
    subst Told are (λ yes. All-map P (λ n. n.now) read (told.0 yes), λ all. told.1 (All-unmap P (λ n. n.now) read all))

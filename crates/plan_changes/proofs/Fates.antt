-- What is told of a node that is found, and whether all nodes so far are the same.
use Rattle.std.proofs.Common.{◌≡◌, ℕ, ◌+◌, ◌<◌, ◌↔◌, Bool, true, false, List, Option, Some, All, IsTrue, length, take, get_or, refl, arith}
use Rattle.std.specs.Prelude.{if◌then◌else◌}
use Rattle.std.proofs.lemmas.List.{get_or-take, length-take}
use Rattle.std.proofs.lemmas.List.Elements.{All-more}
use Rattle.plan_changes.specs.declared.fate.Fate.TheVariants.{Changed, Same}
use Rattle.plan_changes.specs.Planned.{Planned}
use Rattle.plan_changes.specs.Units.{are_loaded_alike, fate_at}

-- a node of both
pub fate_at-both : (old new : Planned) (before after : Option ℕ) (k n : ℕ) (alike : Bool) → Some k ≡ before → Some n ≡ after
    → alike ≡ are_loaded_alike old k new n → fate_at old new before after ≡ (if alike then Same else Changed)
fate_at-both old new before after k n alike first second is = rw (← first, ← second, is) refl

module _ {X : Type 0} (P : X → Type 0) (xs : List X) (k : ℕ) (d : X) (inside : k < length xs) where
  All-fewer : All P (take (k + 1) xs) → All P (take k xs)
  All-fewer all = λ j e lt.
      let below : j < k = omega (arith, lt, length-take k xs) in
      let there : j < length (take (k + 1) xs) = omega (arith, below, inside, length-take (k + 1) xs) in
      let holds = rw (get_or-take (k + 1) xs j e (omega (arith, below))) at (all j e there) in
      rw (get_or-take k xs j e below) holds

  All-last : All P (take (k + 1) xs) → P (get_or xs k d)
  All-last all =
      let there : k < length (take (k + 1) xs) = omega (arith, inside, length-take (k + 1) xs) in
      rw (get_or-take (k + 1) xs k d (omega arith)) at (all k d there)

  -- one more that is so
  pub all_so-kept : (so test : Bool) → IsTrue so ↔ All P (take k xs) → IsTrue test ↔ P (get_or xs k d) → test ≡ true → IsTrue so ↔ All P (take (k + 1) xs)
  all_so-kept so test told here passes = (λ yes. All-more P xs k d inside (told.0 yes) (here.0 passes), λ all. told.1 (All-fewer all))

  -- one that isn't
  pub all_so-lost : (test : Bool) → IsTrue test ↔ P (get_or xs k d) → test ≡ false → IsTrue false ↔ All P (take (k + 1) xs)
  all_so-lost test here fails = (λ yes. absurd cc, λ all. let passes : test ≡ true = here.1 (All-last all) in absurd cc)

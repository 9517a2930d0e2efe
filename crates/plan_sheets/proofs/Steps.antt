-- Which of some steps is the first that is wide, as far as they were gone through; and that each of a table is some tick, and not many.
use Rattle.std.proofs.Common.{◌≡◌, ◌∙◌, ℕ, ◌+◌, ◌*◌, ◌<◌, ◌≤◌, Bool, true, ◌&&◌, List, All, get_or, length, drop, arith, inl, inr, refl, add-one, drop-cons}
use Rattle.std.specs.Prelude.{nat_le}
use Rattle.std.specs.List.{list_all}
use Rattle.std.proofs.lemmas.Bool.{and_parts, leb-true}
use Rattle.std.proofs.lemmas.Bool.Decides.{leb_tells}
use Rattle.std.proofs.lemmas.List.Sums.{AllPass-from_list_all}
use Rattle.plan_sheets.specs.declared.pictures.canvas.Canvas.{Canvas}
use Rattle.plan_sheets.specs.Scale.{first_wide}

module _ (c : Canvas) (steps : List ℕ) (i : ℕ) (inside : i < length steps) (so_far : first_wide c steps ≡ first_wide c (drop i steps)) where
  pub is_here : 80 * c.cycle ≤ get_or steps i 0 * c.across → first_wide c steps ≡ get_or steps i 0
  is_here wide = so_far ∙ rw (drop-cons steps i 0 inside) (elim (leb_tells (80 * c.cycle) (get_or steps i 0 * c.across)) [
    | inl le ↦ rw le.0 refl
    | inr gt ↦ absurd (omega (arith, gt.1, wide))
  ])

  pub is_later : get_or steps i 0 * c.across < 80 * c.cycle → first_wide c steps ≡ first_wide c (drop (i + 1) steps)
  is_later narrow = so_far ∙ rw (drop-cons steps i 0 inside, add-one) (elim (leb_tells (80 * c.cycle) (get_or steps i 0 * c.across)) [
    | inl le ↦ absurd (omega (arith, le.1, narrow))
    | inr gt ↦ rw gt.0 refl
  ])

abbrev pub is_step : ℕ → Bool
is_step step = nat_le 1 step && nat_le step 50000000

step_by_test : (step : ℕ) → is_step step ≡ true → (0 < step) × (step ≤ 50000000)
step_by_test step is =
    let both : (nat_le 1 step ≡ true) × (nat_le step 50000000 ≡ true) = and_parts (nat_le 1 step) (nat_le step 50000000) is in
    let some : 1 ≤ step = leb-true 1 step both.0 in
    (omega (arith, some), leb-true step 50000000 both.1)

pub steps_by_test : (steps : List ℕ) → list_all is_step steps ≡ true → All (λ step. (0 < step) × (step ≤ 50000000)) steps
steps_by_test steps are = λ k d inside. step_by_test (get_or steps k d) (AllPass-from_list_all is_step steps are k d inside)

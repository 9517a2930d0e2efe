-- The links of the instance of one cycle are those from the jobs that are read to their readers, of all links without a delay.
use Rattle.std.proofs.Common.{◌≡◌, ◌∙◌, ℕ, zero, suc, ◌+◌, ◌<◌, ◌==◌, List, [], if◌then◌else◌, length, map, slice_index_or, arith, inl, inr, refl, sym, ap, eq-eqb}
use Rattle.std.specs.List.{flat_map, range_with_len}
use Rattle.std.proofs.lemmas.Bool.Decides.{eqb_tells}
use Rattle.std.proofs.lemmas.List.FromFn.{get_or-map-range_with_len, length-map-range_with_len}
use Rattle.ttp_model.specs.declared.parts.Link.{Link}
use Rattle.ttp_model.specs.Instance as instance
use Rattle.ttp_model.specs.Totals.{total}
use Rattle.rates_model.specs.declared.parts.RatesLink.{RatesLink}
use Rattle.rates_model.specs.Rates.{Rates, link_at, no_link}
use Rattle.rates_model.specs.Cycles.{jobs_of}
use Rattle.rates_model.specs.Reads.{last_begun}
use Rattle.endless_schedules.specs.Stores.{job_index}
use Rattle.endless_schedules.specs.Unrolled.{link_to, links_of, unrolled, unrolled_links}
use Rattle.endless_schedules.proofs.JoinedPieces.{piece_at, pieces_length, pieces_of_list, split, within_total}

module _ (rho : Rates) where
  links_at : (l : RatesLink) → l.delay ≡ 0 → links_of rho l ≡ map (link_to rho l) (range_with_len 0 (jobs_of rho l.after))
  unfolding links_of
  links_at l none = rw (eq-eqb l.delay 0 none) refl

  -- how many links there are of link l
  abbrev pub many : ℕ → ℕ
  many l = length (links_of rho (link_at rho l))

  links_long : (l : ℕ) → (link_at rho l).delay ≡ 0 → many l ≡ jobs_of rho (link_at rho l).after
  links_long l none = ap length (links_at (link_at rho l) none) ∙ length-map-range_with_len (link_to rho (link_at rho l)) 0 (jobs_of rho (link_at rho l).after)

  some_without_delay : (l : RatesLink) (j : ℕ) → j < length (links_of rho l) → l.delay ≡ 0
  unfolding links_of
  some_without_delay l j inside = elim (eqb_tells l.delay 0) [
    | inl none ↦ none.1
    | inr other ↦ absurd (let z : j < 0 = rw other.0 at inside in omega (arith, z))
  ]

  abbrev listed : List Link
  listed = flat_map (λ l. links_of rho (link_at rho l)) (range_with_len 0 (length rho.links))

  links_are : unrolled_links rho ≡ listed
  links_are = pieces_of_list (links_of rho) rho.links no_link

  all_links : length (unrolled_links rho) ≡ total many (length rho.links)
  all_links = ap length links_are ∙ pieces_length (λ l. links_of rho (link_at rho l)) (length rho.links)

  pub link_inside : (l j : ℕ) → l < length rho.links → (link_at rho l).delay ≡ 0 → j < jobs_of rho (link_at rho l).after → total many l + j < length (unrolled_links rho)
  link_inside l j there none inside = omega (arith, all_links, within_total many (length rho.links) l j there (omega (arith, links_long l none, inside)))

  pub link_is : (l j : ℕ) → l < length rho.links → (link_at rho l).delay ≡ 0 → j < jobs_of rho (link_at rho l).after
      → instance.link_at (unrolled rho) (total many l + j) ≡ link_to rho (link_at rho l) j
  link_is l j there none inside =
      let place = total many l + j in
      let here : j < many l = omega (arith, links_long l none, inside) in
      ap (λ xs. slice_index_or xs place instance.no_link) links_are
      ∙ (piece_at (λ x. links_of rho (link_at rho x)) (length rho.links) l j instance.no_link there here
      ∙ (ap (λ xs. slice_index_or xs j instance.no_link) (links_at (link_at rho l) none)
      ∙ get_or-map-range_with_len (link_to rho (link_at rho l)) 0 (jobs_of rho (link_at rho l).after) j j instance.no_link inside (omega arith)))

  -- each link is one of these
  pub link_of_place : (x : ℕ) → x < length (unrolled_links rho)
      → (l : ℕ) × (j : ℕ) × (l < length rho.links) × ((link_at rho l).delay ≡ 0) × (j < jobs_of rho (link_at rho l).after) × (total many l + j ≡ x)
  link_of_place x inside =
      let at = split many (length rho.links) x (omega (arith, inside, all_links)) in
      let none = some_without_delay (link_at rho at.0) at.1 at.3 in
      (at.0, at.1, at.2, none, omega (arith, links_long at.0 none, at.3), sym at.4)

  pub before_is : (l j : ℕ) → l < length rho.links → (link_at rho l).delay ≡ 0 → j < jobs_of rho (link_at rho l).after
      → (instance.link_at (unrolled rho) (total many l + j)).before ≡ job_index rho (link_at rho l).before (last_begun rho (link_at rho l).before (link_at rho l).after j)
  unfolding link_to
  before_is l j there none inside = ap (λ (x : Link). x.before) (link_is l j there none inside)

  pub after_is : (l j : ℕ) → l < length rho.links → (link_at rho l).delay ≡ 0 → j < jobs_of rho (link_at rho l).after
      → (instance.link_at (unrolled rho) (total many l + j)).after ≡ job_index rho (link_at rho l).after j
  unfolding link_to
  after_is l j there none inside = ap (λ (x : Link). x.after) (link_is l j there none inside)

-- One certificate more of which a number is compared.
use Rattle.std.proofs.Common.{◌≡◌, ℕ, ◌+◌, ◌<◌, ◌≤◌, Option, None, Some, Bool, cond, arith, inl, inr, refl, sym, subst, ◌∙◌, lt-ltb, le-ltb}
use Rattle.std.proofs.lemmas.Bool.{cases_lt, cases_eq}
use Rattle.side_by_side.specs.declared.side.Best.{Best}
use Rattle.side_by_side.specs.Found.{IsFound, IsFoundSoFar, better}

module _ (count : ℕ) (has : ℕ → Option ℕ) (above : Option ℕ) where
  -- it has no number
  no_more : (number most : Option ℕ) → has count ≡ None → IsFoundSoFar count has above number most → IsFoundSoFar (count + 1) has above number most
  no_more None most absent found = (
    found.0,
    λ k own inside is. elim (cases_eq k count) [
      | inl same ↦ let bad : has count ≡ Some own = subst (λ (j : ℕ). has j ≡ Some own) same is in let no_number : None ≡ Some own = sym absent ∙ bad in cc
      | inr other ↦ found.1 k own (omega (arith, inside, other)) is
    ],
  )
  no_more (Some k) most absent found =
      let g = found.2 in (
        found.0,
        found.1,
        record {
          inside = omega (arith, g.inside);
          own = g.own;
          greatest = λ j own inside is. elim (cases_eq j count) [
            | inl same ↦ let bad : has count ≡ Some own = subst (λ (n : ℕ). has n ≡ Some own) same is in let no_number : None ≡ Some own = sym absent ∙ bad in cc
            | inr other ↦ g.greatest j own (omega (arith, inside, other)) is
          ];
          first = g.first;
        },
        found.3,
      )

  -- it has one that is no greater
  not_more : (number : Option ℕ) (most own : ℕ) → has count ≡ Some own → own ≤ most → IsFoundSoFar count has above number (Some most)
      → IsFoundSoFar (count + 1) has above number (Some most)
  not_more None most own is le found = (
    found.0,
    λ k other inside there. elim (cases_eq k count) [
      | inl same ↦
          let here : Some own ≡ Some other = sym is ∙ subst (λ (j : ℕ). has j ≡ Some other) same there in
          let one : own ≡ other = cc in
          (most, sym found.0, omega (arith, one, le))
      | inr apart ↦ found.1 k other (omega (arith, inside, apart)) there
    ],
  )
  not_more (Some k) most own is le found =
      let g = found.2 in
      let greatest_is : Some most ≡ Some found.0 = found.1 in
      let same_most : most ≡ found.0 = cc in (
        found.0,
        found.1,
        record {
          inside = omega (arith, g.inside);
          own = g.own;
          greatest = λ j other inside there. elim (cases_eq j count) [
            | inl same ↦
                let here : Some own ≡ Some other = sym is ∙ subst (λ (n : ℕ). has n ≡ Some other) same there in
                let one : own ≡ other = cc in
                omega (arith, one, le, same_most)
            | inr apart ↦ g.greatest j other (omega (arith, inside, apart)) there
          ];
          first = g.first;
        },
        found.3,
      )

  -- it has the first one that is greater than what was
  abbrev IsMore : ℕ → Option ℕ → Type 0
  IsMore own None = Unit {0}
  IsMore own (Some most) = most < own

  all_less : (number most : Option ℕ) (own : ℕ) → IsMore own most → IsFoundSoFar count has above number most
      → ((j other : ℕ) → j < count → has j ≡ Some other → other < own) × ((other : ℕ) → above ≡ Some other → other < own)
  all_less None None own more found = (
    λ j other inside there.
        let reaches = found.1 j other inside there in
        let bad : None ≡ Some reaches.0 = found.0 ∙ reaches.1 in
        cc,
    λ other is. let bad : None ≡ Some other = found.0 ∙ is in cc,
  )
  all_less None (Some most) own more found = (
    λ j other inside there.
        let reaches = found.1 j other inside there in
        let here : Some most ≡ Some reaches.0 = found.0 ∙ reaches.1 in
        let same : most ≡ reaches.0 = cc in
        omega (arith, same, reaches.2, more),
    λ other is.
        let here : Some most ≡ Some other = found.0 ∙ is in
        let same : most ≡ other = cc in
        omega (arith, same, more),
  )
  all_less (Some k) None own more found = let bad : None ≡ Some found.0 = found.1 in cc
  all_less (Some k) (Some most) own more found =
      let here : Some most ≡ Some found.0 = found.1 in
      let same : most ≡ found.0 = cc in (
        λ j other inside there. omega (arith, same, found.2.greatest j other inside there, more),
        λ other is. omega (arith, same, found.3 other is, more),
      )

  is_more : (number most : Option ℕ) (own : ℕ) → has count ≡ Some own → IsMore own most → IsFoundSoFar count has above number most
      → IsFoundSoFar (count + 1) has above (Some count) (Some own)
  is_more number most own is more found =
      let less = all_less number most own more found in (
        own,
        refl,
        record {
          inside = omega arith;
          own = is;
          greatest = λ j other inside there. elim (cases_eq j count) [
            | inl same ↦
                let here : Some own ≡ Some other = sym is ∙ subst (λ (n : ℕ). has n ≡ Some other) same there in
                let one : own ≡ other = cc in
                omega (arith, one)
            | inr apart ↦ let lower = less.0 j other (omega (arith, inside, apart)) there in omega (arith, lower)
          ];
          first = λ j other inside there. less.0 j other inside there;
        },
        less.1,
      )

  abbrev Finds : Best → Type 0
  Finds best = IsFoundSoFar (count + 1) has above best.number best.most

  by_most : (number most : Option ℕ) (own : ℕ) → has count ≡ Some own → IsFoundSoFar count has above number most
      → Finds (better (record { number = number; most = most }) count (Some own))
  by_most number None own is found = is_more number None own is tt found
  by_most number (Some most) own is found = elim (cases_lt most own) [
    | inl less ↦
        subst (λ (b : Bool). Finds (cond b (record { number = Some count; most = Some own }) (record { number = number; most = Some most })))
        (sym (lt-ltb most own less)) (is_more number (Some most) own is less found)
    | inr enough ↦
        subst (λ (b : Bool). Finds (cond b (record { number = Some count; most = Some own }) (record { number = number; most = Some most })))
        (sym (le-ltb most own enough)) (not_more number most own is enough found)
  ]

  pub found_more : (best : Best) (own : Option ℕ) → has count ≡ own → IsFoundSoFar count has above best.number best.most
      → Finds (better best count own)
  found_more best None is found = no_more best.number best.most is found
  found_more best (Some own) is found = by_most best.number best.most own is found

-- nothing was compared yet
pub found_none : (has : ℕ → Option ℕ) (above : Option ℕ) → IsFoundSoFar 0 has above None above
found_none has above = (refl, λ k number inside is. absurd (omega (arith, inside)))

pub found_all : (count : ℕ) (has : ℕ → Option ℕ) (above number most : Option ℕ) → IsFoundSoFar count has above number most → IsFound count has above number
found_all count has above None most found = found.1
found_all count has above (Some k) most found = (found.0, found.2, found.3)

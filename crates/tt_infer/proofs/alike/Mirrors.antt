-- Where what shows that a message leads a turned frame is known and fixed alike, it leads one in both.
use Rattle.std.proofs.Common.{◌≡◌, ℕ, ◌<◌, ◌==◌, true, Option, None, Some, arith, inl, inr, refl, ap, sym, ◌∙◌}
use Rattle.std.proofs.lemmas.Bool.{cases_eq, cases_lt, eqb-true, false≢true, ne_eqb, or_cases}
use Rattle.ttp_model.specs.Limits.{both_channels}
use Rattle.ttp_model.specs.Instance.{Instance, source_of}
use Rattle.ttp_model.specs.declared.step.Step.TheVariants.{XMirror}
use Rattle.tt_choice.specs.Choice.{Choice, fixed_channel}
use Rattle.tt_infer.specs.declared.fact.Fact.TheVariants.{FirstRound, LateRound}
use Rattle.tt_infer.specs.declared.limit.Limit.TheVariants.{Copies, Counted}
use Rattle.sought_plans.specs.Known.{Known, lo_of, top_of}
use Rattle.sought_plans.specs.Premises.{copies, copies_of, counts_on, is_fixed_on}
use Rattle.sought_plans.specs.Dominance.{IsMirrored, KeepsAside}
use Rattle.tt_infer.specs.Reads.{AgreeOnReads}

-- a message that counts twice is fixed to both channels
twice_is_both : (o : Option ℕ) → copies_of o ≡ 2 → o ≡ Some both_channels
twice_is_both None is = absurd (omega (arith, is))
twice_is_both (Some fixed) is = elim (cases_eq fixed both_channels) [
  | inl both ↦ ap Some both
  | inr other ↦ (let once : copies_of (Some fixed) ≡ 1 = rw (ne_eqb fixed both_channels other) refl in absurd (omega (arith, is, once)))
]

-- one that counts on channel 1, and once, is fixed to it
once_is_alone : (o : Option ℕ) → is_fixed_on 1 o ≡ true → copies_of o ≡ 1 → o ≡ Some 1
once_is_alone None counts once = absurd (false≢true counts)
once_is_alone (Some fixed) counts once = elim (or_cases (fixed == 1) (fixed == both_channels) counts) [
  | inl own ↦ ap Some (eqb-true fixed 1 own)
  | inr both ↦ (let twice : copies_of (Some fixed) ≡ 2 = rw both refl in absurd (omega (arith, once, twice)))
]

module _ (i : Instance) (c : Choice) (goal : ℕ) (f : Known) (d : Choice) (aim : ℕ) (g : Known) (m : ℕ) (agree : AgreeOnReads i c goal f d aim g (XMirror m)) where
  second_alike : fixed_channel c m ≡ Some 1 → fixed_channel d m ≡ Some 1
  second_alike second =
      let counts : counts_on c 1 m ≡ true = ap (is_fixed_on 1) second in
      let once : copies c m ≡ 1 = ap copies_of second in
      once_is_alone (fixed_channel d m) (sym (agree.limits (Counted m 1) (inl (inr refl))) ∙ counts) (sym (agree.limits (Copies m) (inl (inl refl))) ∙ once)

  aside_alike : (k : ℕ) → k < m → source_of i k ≡ source_of i m → KeepsAside c f m k → KeepsAside d g m k
  aside_alike k below node is = elim (cases_lt (lo_of f m) (top_of f k)) [
    | inr before ↦
        let late : top_of f k ≡ top_of g k = agree.facts (LateRound k) (k, below, (node, inl (before, inl refl))) in
        let first : lo_of f m ≡ lo_of g m = agree.facts (FirstRound m) (k, below, (node, inl (before, inr refl))) in
        inr (inl (omega (arith, before, late, first)))
    | inl meets ↦ elim (cases_lt (lo_of f k) (top_of f m)) [
      | inr behind ↦
          let late : top_of f m ≡ top_of g m = agree.facts (LateRound m) (k, below, (node, inr (meets, behind, inl refl))) in
          let first : lo_of f k ≡ lo_of g k = agree.facts (FirstRound k) (k, below, (node, inr (meets, behind, inr refl))) in
          inr (inr (omega (arith, behind, late, first)))
      | inl also ↦ inl (twice_is_both (fixed_channel d k) (sym (agree.limits (Copies k) (inr (k, below, node, (meets, also), refl))) ∙ fixed_twice meets also is))
    ]
  ]
    where
      fixed_twice : lo_of f m < top_of f k → lo_of f k < top_of f m → KeepsAside c f m k → copies c k ≡ 2
      fixed_twice meets also (inl both) = ap copies_of both
      fixed_twice meets also (inr (inl before)) = absurd (omega (arith, meets, before))
      fixed_twice meets also (inr (inr behind)) = absurd (omega (arith, also, behind))

  pub mirrored_alike : IsMirrored i c f m → IsMirrored i d g m
  mirrored_alike is = record { second = second_alike is.second; lower = λ k below node. aside_alike k below node (is.lower k below node) }

-- There is one chain that makes the path bound.
use Rattle.std.proofs.Common.{◌≡◌, ℕ, List, [], ◌∷◌, Option, None, Some, length, slice_index, arith, ap, inl, inr, refl, subst, sym, ◌∙◌}
use Rattle.std.proofs.lemmas.Bool.{cases_lt}
use Rattle.std.proofs.lemmas.List.{ext_get_or}
use Rattle.ttp_model.specs.Instance.{Instance, process_at}
use Rattle.ttp_model.specs.Chains.{IsPathBound}
use Rattle.plan_facts.specs.Longest.{AreLongest}
use Rattle.plan_reasons.specs.PlanCauses.{IsFirst}
use Rattle.plan_reasons.specs.declared.runs.StartCause.{StartCause}
use Rattle.plan_reasons.specs.declared.runs.StartCause.TheVariants.{Arrival, Behind, CouldStart, Link, Release}
use Rattle.plan_reasons.specs.declared.path_parts.ChainPart.{ChainPart}
use Rattle.plan_reasons.specs.PathChains.{IsCause, IsChain, IsPart, LeadsBack, held_by}

one_first : (n : ℕ) (P : ℕ → Type 0) (a b : ℕ) → IsFirst n P a → IsFirst n P b → a ≡ b
one_first n P a b is was = elim (cases_lt a b) [
  | inl before ↦ absurd (was.none_before a before is.holds)
  | inr after ↦ elim (cases_lt b a) [
    | inl sooner ↦ absurd (is.none_before b sooner was.holds)
    | inr later ↦ omega (arith, after, later)
  ]
]

module _ (i : Instance) where
  one_longest : (a b : List ℕ) → AreLongest i a → AreLongest i b → a ≡ b
  one_longest a b are were = ext_get_or 0 a b (are.all ∙ sym were.all) (λ k within.
      let one = are.each k (omega (arith, within, are.all)) in
      let other = were.each k (omega (arith, within, are.all)) in
      omega (arith, one.greatest (slice_index b k) other.reached, other.greatest (slice_index a k) one.reached))

  module _ (ends : List ℕ) where
    one_cause : (p from : ℕ) (a b : StartCause) → IsCause i ends p from a → IsCause i ends p from b → a ≡ b
    one_cause p from Release Release is was = refl
    one_cause p from Release (Link l) is was = absurd (was.0 is)
    one_cause p from Release (Arrival m) is was = absurd (was.0 is)
    one_cause p from (Link l) Release is was = absurd (is.0 was)
    one_cause p from (Link l) (Link k) is was = ap Link (one_first (length i.links) _ l k is.1 was.1)
    one_cause p from (Link l) (Arrival m) is was = absurd (was.1 l is.1.within is.1.holds)
    one_cause p from (Arrival m) Release is was = absurd (is.0 was)
    one_cause p from (Arrival m) (Link l) is was = absurd (is.1 l was.1.within was.1.holds)
    one_cause p from (Behind q) other is was = absurd is
    one_cause p from (CouldStart time) other is was = absurd is
    one_cause p from Release (Behind q) is was = absurd was
    one_cause p from Release (CouldStart time) is was = absurd was
    one_cause p from (Link l) (Behind q) is was = absurd was
    one_cause p from (Link l) (CouldStart time) is was = absurd was
    one_cause p from (Arrival m) (Behind q) is was = absurd was
    one_cause p from (Arrival m) (CouldStart time) is was = absurd was
    one_cause p from (Arrival m) (Arrival k) is was = ap Arrival (one_first (length i.messages) _ m k is.2 was.2)

    one_part : (a b : ChainPart) → a.process ≡ b.process → IsPart i ends a → IsPart i ends b → a ≡ b
    one_part a b same is was =
        let until : a.until ≡ b.until = is.ends_so ∙ ap (slice_index ends) same ∙ sym was.ends_so in
        let from : a.from ≡ b.from = omega (arith, until, is.runs, was.runs, ap (λ (p : ℕ). (process_at i p).wcet) same) in
        let cause = one_cause b.process b.from a.cause b.cause (rw (← same, ← from) is.for_cause) was.for_cause in
        λ k. record { process = same k; from = from k; until = until k; cause = cause k }

    one_way : (next : Option ℕ) (a b : List ChainPart) → LeadsBack i ends next a → LeadsBack i ends next b → a ≡ b
    one_way next [] [] is was = refl
    one_way next [] (y ∷ ys) is was = absurd (let none : Some y.process ≡ None = sym was.0 ∙ is in cc)
    one_way next (x ∷ xs) [] is was = absurd (let none : Some x.process ≡ None = sym is.0 ∙ was in cc)
    one_way next (x ∷ xs) (y ∷ ys) is was =
        let some : Some x.process ≡ Some y.process = sym is.0 ∙ was.0 in
        let same : x.process ≡ y.process = cc in
        let part = one_part x y same is.1 was.1 in
        let rest = one_way (held_by i x.cause) xs ys is.2 (subst (λ (z : ChainPart). LeadsBack i ends (held_by i z.cause) ys) (sym part) was.2) in
        λ k. part k ∷ rest k

  pub one_chain : (a b : List ChainPart) → IsChain i a → IsChain i b → a ≡ b
  one_chain a b is was =
      let ends = one_longest was.ends is.ends was.longest is.longest in
      let first = subst (λ (e : List ℕ). IsFirst (length i.processes) (λ q. IsPathBound i (slice_index e q)) was.last) ends was.ends_last in
      let last = one_first (length i.processes) _ was.last is.last first is.ends_last in
      let leads = subst (λ (e : List ℕ). LeadsBack i e (Some was.last) b) ends was.leads_back in
      one_way is.ends (Some is.last) a b is.leads_back (subst (λ (p : ℕ). LeadsBack i is.ends (Some p) b) last leads)

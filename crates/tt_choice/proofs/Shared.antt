-- A valid plan of a choice agrees with one of the decisions of which one has to be made.
use Rattle.std.proofs.Common.{ℕ, ◌+◌, ◌<◌, ◌⊎◌, length, slice_index, arith, inl, inr, refl, sym, ◌∙◌}
use Rattle.std.proofs.lemmas.Bool.{cases_lt, cases_order}
use Rattle.std.proofs.lemmas.Grind.{get_or_default_zero}
use Rattle.ttp_model.specs.declared.plan.Plan.{Plan}
use Rattle.ttp_model.specs.Instance.{Instance, node_at}
use Rattle.ttp_model.specs.Plans.{IsValid, EndsBefore, channel_of, round_of}
use Rattle.tt_choice.specs.declared.decision.Decision.TheVariants as decided
use Rattle.tt_choice.specs.Choice.{Choice, IsIn, ArePair, IsChoice}
use Rattle.tt_choice.specs.Changes.{choice_after, place_next, fix_option, fix_channel, unplaced, IsUnorderedPair, CutsRange, IsFreeChannel}
use Rattle.tt_choice.specs.Kinds.{one_of, IsFreeNode}
use Rattle.tt_choice.proofs.Open.{turned}
use Rattle.tt_choice.proofs.Unplaced.{unplaced_place, IsUnplaced-next}
use Rattle.tt_choice.proofs.Members.{IsIn-place, IsIn-fix, IsIn-order, IsIn-at_most, IsIn-at_least, IsIn-fix_channel}

-- two processes of one node in a valid plan
one_first : (i : Instance) (plan : Plan) (p q : ℕ) → IsValid i plan → ArePair i p q → EndsBefore i plan p q ⊎ EndsBefore i plan q p
one_first i plan p q v is = elim (cases_order p q) [
  | inl same ↦ absurd (is.two same)
  | inr apart ↦ elim apart [
    | inl up ↦ v.apart p is.first q up is.second is.one_node
    | inr down ↦ elim (v.apart q is.second p down is.first (sym is.one_node)) [ inl early ↦ inr early | inr late ↦ inl late ]
  ]
]

module _ (i : Instance) (c : Choice) (plan : Plan) (ok : IsChoice i c) (v : IsValid i plan) (there : IsIn i c plan) where
  -- one of so many choices has the plan
  abbrev pub OneHas : ℕ → (ℕ → Choice) → Type 0
  OneHas count choices = (k : ℕ) × (k < count) × IsIn i (choices k) plan

  pub one_is_next : length c.prefix < length i.nodes → OneHas (length (unplaced i c)) (λ k. place_next c (slice_index (unplaced i c) k))
  one_is_next is =
      let n = slice_index plan.order (length c.prefix) in
      let place = unplaced_place i c n (IsUnplaced-next i c plan.order v.order there.prefix is) in
      (place.0, place.1, (IsIn-place i c plan (slice_index (unplaced i c) place.0)).1 (there, sym place.2))

  pub one_is_taken : (n : ℕ) → IsFreeNode i c n → OneHas (length (node_at i n).capacities) (fix_option i c n)
  one_is_taken n is =
      let own = (v.capacities n is.0).own in
      let xs = (node_at i n).capacities in
      (own.0, own.1, (IsIn-fix i c plan n own.0 ok is.0 is.1).1 (there, sym own.2 ∙ get_or_default_zero xs own.0 (slice_index plan.caps n) own.1))

  pub one_goes_first : (p q : ℕ) → IsUnorderedPair i c p q → OneHas 2 (λ k. choice_after i c (one_of (decided.Before p q) (decided.Before q p) k))
  one_goes_first p q is = elim (one_first i plan p q v is.pair) [
    | inl first ↦ (0, omega arith, (IsIn-order i c plan p q ok is).1 (there, first))
    | inr second ↦ (1, omega arith, (IsIn-order i c plan q p ok (turned i c p q is)).1 (there, second))
  ]

  pub one_side_has_it : (m r : ℕ) → CutsRange i c m r → OneHas 2 (λ k. choice_after i c (one_of (decided.AtMost m r) (decided.AtLeast m (r + 1)) k))
  one_side_has_it m r is = elim (cases_lt r (round_of plan m)) [
    | inl late ↦ (1, omega arith, (IsIn-at_least i c plan m (r + 1) ok is.message (omega (arith, is.from))).1 (there, omega (arith, late)))
    | inr early ↦ (0, omega arith, (IsIn-at_most i c plan m r ok is.message is.below).1 (there, early))
  ]

  pub one_channel_has_it : (m : ℕ) → IsFreeChannel i c m → OneHas 3 (fix_channel c m)
  one_channel_has_it m is =
      let k = channel_of plan m in
      let own = v.on_own m is.message in
      (k, omega (arith, own.known), (IsIn-fix_channel i c plan m k ok is.message is.free).1 (there, refl))

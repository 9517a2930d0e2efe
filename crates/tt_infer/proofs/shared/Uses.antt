-- A leaf closes what the decisions make that it uses.
use Rattle.std.proofs.Common.{◌≡◌, ℕ, ◌+◌, ◌<◌, ◌≤◌, ◌==◌, List, [], ◌∷◌, ◌++◌, length, length-append, slice_index, map, None, Some, Bool, true, false, arith, inl, inr, refl, ap, sym, ◌∙◌}
use Rattle.std.proofs.lemmas.Bool.{cases_lt, both_ways, eq-eqb, eqb-true}
use Rattle.std.proofs.lemmas.List.{get_or-map, get_or_past, length-map}
use Rattle.std.proofs.lemmas.List.Sums.{passes_at_first, fails_before_first}
use Rattle.ttp_model.specs.declared.step.Step.{Step}
use Rattle.ttp_model.specs.declared.step.Leaf.{Leaf}
use Rattle.ttp_model.specs.Instance.{Instance}
use Rattle.ttp_model.specs.Limits.{both_channels}
use Rattle.ttp_model.specs.Plans.{is_on}
use Rattle.ttp_model.specs.Rules.{IsInstance}
use Rattle.tt_choice.specs.Choice.{Choice, IsChoice}
use Rattle.tt_choice.specs.Branches.{root_choice}
use Rattle.tt_choice.specs.Decisions.{AreOpenDecisions, chosen}
use Rattle.tt_choice.specs.Extremes.{place_of}
use Rattle.tt_choice.specs.Kept.{Marked, all_of, kept_of, KeepsPlaces}
use Rattle.tt_choice.proofs.Decisions.{IsChoice-after_all}
use Rattle.tt_choice.proofs.Extend.{first_part}
use Rattle.tt_choice.proofs.Root.{IsChoice-root}
use Rattle.tt_choice.proofs.kept.Law.{ends, kept_are_open, kept_is_outside, kept_least, kept_greatest, kept_order, kept_least_frame, kept_greatest_frame, kept_channel, kept_least_slot, kept_greatest_slot}
use Rattle.tt_infer.specs.declared.fact.Fact.{Fact}
use Rattle.tt_infer.specs.declared.fact.Fact.TheVariants.{Start, End, FirstRound, LateRound, Order, Closed}
use Rattle.tt_infer.specs.declared.limit.Limit.{Limit}
use Rattle.tt_infer.specs.declared.limit.Limit.TheVariants.{Goal, LeastSlot, GreatestSlot, LeastFrame, GreatestFrame, Place, Copies, Counted}
use Rattle.sought_plans.specs.Known.{Known, first_facts, top_of}
use Rattle.sought_plans.specs.Dominance.{StandsFirst}
use Rattle.sought_plans.specs.Premises.{copies_of, is_fixed_on}
use Rattle.tt_infer.specs.Leaves.{ClosesSharply}
use Rattle.tt_infer.specs.Reads.{GivesAlike}
use Rattle.tt_infer.specs.Shared.{SayAlike, ReadShared}
use Rattle.tt_infer.specs.Uses.{KeepsFact, KeepsLimit, UseKept}
use Rattle.tt_infer.proofs.shared.Logs.{leaf_shared}

-- the first round that is too late, by the greatest round
late_alike : (i : Instance) (c d : Choice) (m : ℕ) → IsChoice i c → IsChoice i d → slice_index c.hi m ≡ slice_index d.hi m → top_of (first_facts i c) m ≡ top_of (first_facts i d) m
late_alike i c d m ok also same = elim (cases_lt m (length i.messages)) [
  | inl there ↦
      let one = get_or-map (λ r. r + 1) c.hi m 0 0 (omega (arith, ok.hi_length, there)) in
      let other = get_or-map (λ r. r + 1) d.hi m 0 0 (omega (arith, also.hi_length, there)) in
      omega (arith, one, other, same)
  | inr past ↦
      let one = get_or_past (map (λ r. r + 1) c.hi) m 0 (omega (arith, length-map c.hi (λ r. r + 1), ok.hi_length, past)) in
      let other = get_or_past (map (λ r. r + 1) d.hi) m 0 (omega (arith, length-map d.hi (λ r. r + 1), also.hi_length, past)) in
      omega (arith, one, other)
]

-- a node stands first where it stood first, if that is in the first part of the order
module _ (front rest order : List ℕ) (v u : ℕ) (is : order ≡ front ++ rest) (inside : place_of v order < length front) (first : StandsFirst order v u) where
  in_front : (k : ℕ) → k < length front → slice_index order k ≡ slice_index front k
  in_front k below = ap (λ (xs : List ℕ). slice_index xs k) is ∙ first_part front rest k below

  found : slice_index order (place_of v order) ≡ v
  found =
      let size : length order ≡ length front + length rest = ap length is ∙ length-append front rest in
      eqb-true _ _ (passes_at_first (λ m. m == v) order 0 (omega (arith, inside, size)))

  no_later : place_of v order ≤ first.place
  no_later = elim (cases_lt first.place (place_of v order)) [
    | inr over ↦ over
    | inl below ↦ absurd (both_ways _ (fails_before_first (λ m. m == v) order first.place 0 below) (eq-eqb _ _ first.v_is))
  ]

  stands_alike : StandsFirst front v u
  stands_alike = record {
    place = place_of v order;
    placed = inside;
    v_is = sym (in_front (place_of v order) inside) ∙ found;
    u_later = λ k below same. first.u_later k (omega (arith, below, no_later)) (in_front k (omega (arith, below, inside)) ∙ same);
  }

-- a message that is fixed to one channel counts as often as one that isn't fixed
as_often_as_none : (k : ℕ) → (k == both_channels) ≡ false → copies_of (Some k) ≡ copies_of None
as_often_as_none k one = rw one refl

module _ (i : Instance) (ms : List Marked) (goal : ℕ) (w : IsInstance i) (are : AreOpenDecisions i (root_choice i) (all_of ms)) (places : KeepsPlaces true ms) where
  all_choice : IsChoice i (chosen i (all_of ms))
  all_choice = IsChoice-after_all i (root_choice i) (all_of ms) (IsChoice-root i w) are

  pub kept_choice : IsChoice i (chosen i (kept_of ms))
  kept_choice = IsChoice-after_all i (root_choice i) (kept_of ms) (IsChoice-root i w) (kept_are_open i ms w are places)

  says_fact : (fact : Fact) → KeepsFact ms fact → SayAlike i (chosen i (all_of ms)) (chosen i (kept_of ms)) fact
  says_fact (Start p) kept = refl
  says_fact (End p) kept = refl
  says_fact (FirstRound m) kept = kept_least i ms w are places m kept
  says_fact (LateRound m) kept = late_alike i (chosen i (all_of ms)) (chosen i (kept_of ms)) m all_choice kept_choice (kept_greatest i ms w are places m kept)
  says_fact (Order p q) kept = kept_order i ms w are places p q kept
  says_fact Closed kept = refl

  gives_limit : (limit : Limit) → KeepsLimit i ms limit → GivesAlike i (chosen i (all_of ms)) goal (chosen i (kept_of ms)) goal limit
  gives_limit Goal kept = refl
  gives_limit (LeastSlot n) kept = kept_least_slot i ms w are places kept.frames n kept.node kept.front
  gives_limit (GreatestSlot n) kept = kept_greatest_slot i ms w are places kept.frames n kept.node kept.up_to
  gives_limit (LeastFrame n) kept = kept_least_frame i ms w are places n kept
  gives_limit (GreatestFrame n) kept = kept_greatest_frame i ms w are places n kept
  gives_limit (Place v) kept = λ u first. stands_alike (chosen i (kept_of ms)).prefix (ends i ms w are places).rest (chosen i (all_of ms)).prefix v u (ends i ms w are places).front kept first
  gives_limit (Copies m) kept = kept_channel i ms w are places ℕ copies_of (λ k. k == both_channels) as_often_as_none m kept
  gives_limit (Counted m k) kept = kept_channel i ms w are places Bool (is_fixed_on k) (is_on k) (λ _ off. off) m kept

  shared_kept : (f : Known) (before steps : List Step) → UseKept i ms goal f before steps → ReadShared i (chosen i (all_of ms)) (chosen i (kept_of ms)) goal f before steps
  shared_kept f before [] uses = tt
  shared_kept f before (step ∷ steps) uses = (
    (λ fact reads. elim (uses.0 fact reads) [ inl kept ↦ inl (says_fact fact kept) | inr wrote ↦ inr wrote ]),
    (λ limit reads. gives_limit limit (uses.1 limit reads)),
    (λ next lawful. shared_kept next (step ∷ before) steps (uses.2 next lawful)),
  )

-- so the steps of a leaf are the same where just what it uses is decided
pub leaf_kept : (i : Instance) (ms : List Marked) (leaf : Leaf) → IsInstance i → AreOpenDecisions i (root_choice i) (all_of ms) → KeepsPlaces true ms → UseKept i ms leaf.goal (first_facts i (chosen i (all_of ms))) [] leaf.steps → ClosesSharply i (chosen i (all_of ms)) leaf → ClosesSharply i (chosen i (kept_of ms)) leaf
leaf_kept i ms leaf w are places uses closes =
    leaf_shared i (chosen i (all_of ms)) (chosen i (kept_of ms)) leaf w (all_choice i ms leaf.goal w are places) (kept_choice i ms leaf.goal w are places) (kept_is_outside i ms w are places)
    (shared_kept i ms leaf.goal w are places (first_facts i (chosen i (all_of ms))) [] leaf.steps uses)
    closes

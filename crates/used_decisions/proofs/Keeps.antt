-- Where decisions are kept whose levels are marked, the steps of a leaf use kept ones alone.
use Rattle.std.proofs.Common.{◌≡◌, ℕ, zero, suc, ◌+◌, ◌<◌, ◌≤◌, ◌==◌, List, [], ◌∷◌, length, Bool, true, IsTrue, arith, inl, inr, refl, ap, subst}
use Rattle.ttp_model.specs.declared.step.Step.{Step}
use Rattle.ttp_model.specs.Limits.{both_channels}
use Rattle.ttp_model.specs.Plans.{is_on}
use Rattle.ttp_model.specs.Rules.{IsInstance}
use Rattle.tt_choice.specs.declared.decision.Decision.{Decision}
use Rattle.tt_choice.specs.Choice.{Choice}
use Rattle.tt_choice.specs.Decisions.{chosen}
use Rattle.tt_choice.specs.Extremes.{place_of}
use Rattle.tt_choice.specs.Kept.{Marked, keep, drop, all_of, kept_of, last_kept, sets_least, sets_greatest, sets_order, fixes_above, fixes_below, fixes_channel}
use Rattle.sought_plans.specs.Known.{Known, Fits}
use Rattle.tt_infer.specs.Table.{IsLawful}
use Rattle.tt_infer.specs.Leaves.{LeadSharply}
use Rattle.tt_infer.proofs.Determined.{IsLawful-determined}
use Rattle.tt_infer.proofs.Sound.{Fits-step}
use Rattle.tt_infer.specs.declared.fact.Fact.{Fact}
use Rattle.tt_infer.specs.declared.fact.Fact.TheVariants.{Start, End, FirstRound, LateRound, Order, Closed}
use Rattle.tt_infer.specs.declared.limit.Limit.{Limit}
use Rattle.tt_infer.specs.declared.limit.Limit.TheVariants.{Goal, LeastSlot, GreatestSlot, LeastFrame, GreatestFrame, Place, Copies, Counted}
use Rattle.tt_infer.specs.Reads.{ReadsFact, ReadsLimit}
use Rattle.tt_infer.specs.Uses.{KeepsFact, KeepsLimit, UseKept}
use Rattle.used_decisions.specs.declared.turn.Turn.{Turn}
use Rattle.used_decisions.specs.declared.turn.Placed.{Placed}
use Rattle.used_decisions.specs.Levels.{has_level}
use Rattle.used_decisions.specs.Turns.{Path, last_of, placed_of}
use Rattle.used_decisions.specs.Marks.{KeepsLevels, IsTold, ArePlacesTold}
use Rattle.used_decisions.proofs.Counts.{is_kept}
use Rattle.used_decisions.proofs.Places.{order_is, places_are_kept}
use Rattle.used_decisions.specs.declared.uses.Uses.{Uses}
use Rattle.used_decisions.specs.Steps.{AreStepsTold, IsBehind, SaysFact, TellsLimit, choice_of, decisions_of, order_of}
use Rattle.used_decisions.proofs.Behind.{behind_more}
use Rattle.used_decisions.proofs.Marked.{told_grown}
use Rattle.used_decisions.proofs.Tells.{order_room, place_in_order}

-- levels are those that are marked, with those of the places and capacities that are
pub record AreLevelsOf (path : Path) (uses : Uses) (levels : List Bool) : Type 0 where
  pub kept : (level : ℕ) → IsTrue (has_level uses.levels level) → IsTrue (has_level levels level)
  pub places : ArePlacesTold levels uses.places (placed_of path.turns)
  pub above : IsTrue uses.above_least → (n : ℕ) → n < length path.instance.nodes → IsTold levels (last_of (fixes_above n) path.turns)
  pub below : IsTrue uses.below_most → (n : ℕ) → n < length path.instance.nodes → IsTold levels (last_of (fixes_below path.instance n) path.turns)

-- all decisions of a marking are those of the path
pub decisions_are : (levels : List Bool) (turns : List Turn) (ms : List Marked) → KeepsLevels levels turns ms → all_of ms ≡ decisions_of turns
decisions_are levels [] [] keeps = refl
decisions_are levels [] (m ∷ ms) keeps = absurd keeps
decisions_are levels (turn ∷ turns) [] keeps = absurd keeps
decisions_are levels (turn ∷ turns) (keep d ∷ ms) keeps = rw (keeps.0, decisions_are levels turns ms keeps.1) refl
decisions_are levels (turn ∷ turns) (drop d ∷ ms) keeps = rw (keeps.0, decisions_are levels turns ms keeps.2) refl

fewer_told : (levels : List Bool) (few many : ℕ) (placed : List Placed) → few ≤ many → ArePlacesTold levels many placed → ArePlacesTold levels few placed
fewer_told levels zero many placed within told = tt
fewer_told levels (suc few) zero placed within told = absurd (omega (arith, within))
fewer_told levels (suc few) (suc many) [] within told = tt
fewer_told levels (suc few) (suc many) (one ∷ placed) within told = (told.0, fewer_told levels few many placed (omega (arith, within)) told.1)

module _ (path : Path) (uses : Uses) (levels : List Bool) (ms : List Marked) (are : AreLevelsOf path uses levels)
    (keeps : KeepsLevels levels path.turns ms) where
  marked_kept : (picks : Decision → Bool) → IsTold uses.levels (last_of picks path.turns) → IsTrue (last_kept picks true ms)
  marked_kept picks told = is_kept picks levels path.turns ms keeps (told_grown uses.levels levels (last_of picks path.turns) are.kept told)

  keeps_fact : (fact : Fact) → SaysFact path uses fact → KeepsFact ms fact
  keeps_fact (Start p) told = tt
  keeps_fact (End p) told = tt
  keeps_fact (FirstRound m) told = marked_kept (sets_least m) told
  keeps_fact (LateRound m) told = marked_kept (sets_greatest m) told
  keeps_fact (Order p q) told = marked_kept (sets_order p q) told
  keeps_fact Closed told = tt

  places_kept_of : (count : ℕ) → count ≤ uses.places → count ≤ length (placed_of path.turns) → count ≤ length (chosen path.instance (kept_of ms)).prefix
  places_kept_of count within there =
      places_are_kept path.instance levels path.turns ms count keeps (fewer_told levels count uses.places (placed_of path.turns) within are.places) there

  same_order : (chosen path.instance (all_of ms)).prefix ≡ order_of path
  same_order = order_is path.instance levels path.turns ms keeps

  keeps_limit : (limit : Limit) → TellsLimit path uses limit → KeepsLimit path.instance ms limit
  keeps_limit Goal told = tt
  keeps_limit (LeastSlot n) told = record {
    node = told.node;
    frames = λ v there. is_kept (fixes_above v) levels path.turns ms keeps (are.above told.frames v there);
    front = rw same_order (places_kept_of (place_of n (order_of path)) told.front (place_in_order (placed_of path.turns) n));
  }
  keeps_limit (GreatestSlot n) told = record {
    node = told.node;
    frames = λ v there. is_kept (fixes_below path.instance v) levels path.turns ms keeps (are.below told.frames v there);
    up_to =
        rw same_order (λ inside. omega (
          arith,
          places_kept_of (place_of n (order_of path) + 1) (omega (arith, told.up_to inside))
              (omega (arith, inside, order_room (placed_of path.turns))),
        ));
  }
  keeps_limit (LeastFrame n) told = marked_kept (fixes_above n) told
  keeps_limit (GreatestFrame n) told = marked_kept (fixes_below path.instance n) told
  keeps_limit (Place v) told =
      rw same_order (omega (
        arith,
        places_kept_of (place_of v (order_of path) + 1) (omega (arith, told.1))
            (omega (arith, told.0, order_room (placed_of path.turns))),
      ))
  keeps_limit (Copies m) told = marked_kept (fixes_channel (λ k. k == both_channels) m) told
  keeps_limit (Counted m k) told = marked_kept (fixes_channel (is_on k) m) told

  same_choice : chosen path.instance (all_of ms) ≡ choice_of path
  same_choice = ap (chosen path.instance) (decisions_are levels path.turns ms keeps)

  -- steps that lead on use kept decisions alone, where each uses only what is marked
  pub use_kept : (goal : ℕ) (before : List Step) (f : Known) (steps : List Step) (g : Known) → IsInstance path.instance → Fits path.instance f
      → IsBehind path before f
      → LeadSharply path.instance (choice_of path) goal f steps g → AreStepsTold path uses before steps → UseKept path.instance ms goal f before steps
  use_kept goal before f [] g w fits behind lead told = tt
  use_kept goal before f (step ∷ steps) g w fits behind lead told =
      let i = path.instance in
      let lawful = lead.1.1 in (
        (λ fact reads. elim (told.0.facts goal f behind lawful.there fact (subst (λ (c : Choice). ReadsFact i c f step fact) same_choice reads)) [
          | inl said ↦ inl (keeps_fact fact said)
          | inr wrote ↦ inr wrote
        ]),
        (λ limit reads. keeps_limit limit (told.0.limits goal f behind lawful.there lawful.premise limit
            (subst (λ (c : Choice). ReadsLimit i c f step limit) same_choice reads))),
        (λ next led.
            let also : IsLawful i (choice_of path) goal f step next = subst (λ (c : Choice). IsLawful i c goal f step next) same_choice led in
            let same : lead.1.0 ≡ next = IsLawful-determined i (choice_of path) goal f step lead.1.0 next lawful also in
            use_kept goal (step ∷ before) next steps g w (Fits-step i (choice_of path) goal f step next fits also)
            (behind_more path before goal f step next w fits behind also)
            (subst (λ (x : Known). LeadSharply i (choice_of path) goal x steps g) same lead.1.3) told.1),
      )

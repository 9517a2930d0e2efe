-- What is marked of each source that a step reads is what the step uses.
use Rattle.std.proofs.Common.{◌≡◌, ℕ, ◌<◌, ◌==◌, List, [], ◌∷◌, length, IfSome, Bool, arith, inl, inr, refl, sym, subst}
use Rattle.std.specs.Prelude.{position}
use Rattle.std.proofs.lemmas.Bool.{cases_lt, both_ways, eq-eqb}
use Rattle.std.proofs.lemmas.List.Sums.{fails_before_first}
use Rattle.ttp_model.specs.declared.step.Step.{Step}
use Rattle.ttp_model.specs.Rules.{IsInstance}
use Rattle.tt_choice.specs.declared.decision.Decision.{Decision}
use Rattle.tt_choice.specs.Extremes.{place_of}
use Rattle.tt_choice.specs.Kept.{Marked, keep}
use Rattle.tt_choice.specs.Decisions.{chosen}
use Rattle.sought_plans.specs.Known.{Known}
use Rattle.sought_plans.specs.Dominance.{StandsFirst}
use Rattle.tt_infer.specs.Table.{reads}
use Rattle.tt_infer.specs.Sources.{Source, Learnt, Fixed, Runs, Reads, Nothing, One, Two}
use Rattle.tt_infer.specs.Reads.{HasItsPlace, IsFactOf, IsFactThere, IsLimitOf, IsLimitThere, IsSourceThere, OfEach, OfOne}
use Rattle.tt_infer.proofs.Rows.{sources_are_there, sources_have_places}
use Rattle.tt_infer.specs.declared.fact.Fact.{Fact}
use Rattle.tt_infer.specs.declared.limit.Limit.{Limit}
use Rattle.tt_infer.specs.declared.limit.Limit.TheVariants.{Place}
use Rattle.used_decisions.specs.declared.turn.Turn.{Turn}
use Rattle.used_decisions.specs.declared.turn.Placed.{Placed}
use Rattle.used_decisions.specs.Turns.{Path, placed_of}
use Rattle.used_decisions.specs.Marks.{KeepsLevels}
use Rattle.used_decisions.proofs.Places.{order_is}
use Rattle.used_decisions.specs.declared.given.Given.{Given}
use Rattle.used_decisions.specs.declared.uses.Uses.{Uses}
use Rattle.used_decisions.specs.Uses.{IsMore}
use Rattle.used_decisions.specs.Steps.{AreRoundsKnown, IsSourceRead, IsStepRead, TellsFact, TellsLimit, choice_of, order_of}
use Rattle.used_decisions.proofs.Keeps.{decisions_are}
use Rattle.used_decisions.proofs.Tells.{fact_more, limit_more, place_marked}

-- a path's order is that of the choice
abbrev keep_all : List Turn → List Marked
keep_all [] = []
keep_all (turn ∷ turns) = keep turn.decision ∷ keep_all turns

keeps_all : (levels : List Bool) (turns : List Turn) → KeepsLevels levels turns (keep_all turns)
keeps_all levels [] = tt
keeps_all levels (turn ∷ turns) = (refl, keeps_all levels turns)

prefix_is : (path : Path) → (choice_of path).prefix ≡ order_of path
prefix_is path =
    let keeps = keeps_all [] path.turns in
    subst (λ (ds : List Decision). (chosen path.instance ds).prefix ≡ order_of path) (decisions_are [] path.turns (keep_all path.turns) keeps)
    (order_is path.instance [] path.turns (keep_all path.turns) keeps)

module _ (path : Path) (given : Given) (uses : Uses) where
  pub fact_read : (fact : Fact) → (IsFactThere path.instance fact → TellsFact path given uses fact) → IsSourceRead path given uses (Learnt fact)
  fact_read fact told = record {
    facts = λ f known there other is. subst (TellsFact path given uses) (sym is) (told there);
    limits = λ f known there place limit reads. absurd reads;
  }

  pub limit_read : (limit : Limit) → (IsLimitThere path.instance limit → HasItsPlace (choice_of path) (Fixed limit) → TellsLimit path uses limit)
      → IsSourceRead path given uses (Fixed limit)
  limit_read limit told = record {
    facts = λ f known there fact reads. absurd reads;
    limits = λ f known there place other is. subst (TellsLimit path uses) (sym is) (told there place);
  }

  pub load_read : (n a b : ℕ) → IsSourceRead path given uses (Runs n a b)
  load_read n a b = record {
    facts = λ f known there fact reads. elim reads.2.1 [ inl is ↦ rw is tt | inr both ↦ rw both.1 tt ];
    limits = λ f known there place limit reads. absurd reads;
  }

  facts_of : (r : Reads) (f : Known) → AreRoundsKnown path given f → OfEach (IsSourceRead path given uses) r → OfEach (IsSourceThere path.instance) r
      → (fact : Fact) → OfOne (λ source. IsFactOf path.instance (choice_of path) f source fact) r → TellsFact path given uses fact
  facts_of Nothing f known read there fact is = absurd is
  facts_of (One source) f known read there fact is = read.facts f known there fact is
  facts_of (Two first second) f known read there fact is = elim is [
    | inl one ↦ read.0.facts f known there.0 fact one
    | inr other ↦ read.1.facts f known there.1 fact other
  ]

  limits_of : (r : Reads) (f : Known) → AreRoundsKnown path given f → OfEach (IsSourceRead path given uses) r → OfEach (IsSourceThere path.instance) r
      → OfEach (HasItsPlace (choice_of path)) r
      → (limit : Limit) → OfOne (λ source. IsLimitOf path.instance (choice_of path) f source limit) r → TellsLimit path uses limit
  limits_of Nothing f known read there place limit is = absurd is
  limits_of (One source) f known read there place limit is = read.limits f known there place limit is
  limits_of (Two first second) f known read there place limit is = elim is [
    | inl one ↦ read.0.limits f known there.0 place.0 limit one
    | inr other ↦ read.1.limits f known there.1 place.1 limit other
  ]

  -- what each source uses that a step reads is what the step uses
  pub step_read : (step : Step) → IsInstance path.instance → OfEach (IsSourceRead path given uses) (reads path.instance step) → IsStepRead path given uses step
  step_read step rules read = record {
    facts = λ goal f known there fact is.
        facts_of (reads path.instance step) f known read (sources_are_there path.instance (choice_of path) goal f step rules there) fact is;
    limits = λ goal f known there premise limit is.
        limits_of (reads path.instance step) f known read (sources_are_there path.instance (choice_of path) goal f step rules there)
        (sources_have_places path.instance (choice_of path) goal f step premise) limit is;
  }

module _ (path : Path) (uses : Uses) where
  stands_inside : (order : List ℕ) (v u : ℕ) → StandsFirst order v u → place_of v order < length order
  stands_inside order v u first = elim (cases_lt first.place (place_of v order)) [
    | inr over ↦ omega (arith, over, first.placed)
    | inl below ↦ absurd (both_ways _ (fails_before_first (λ m. m == v) order first.place 0 below) (eq-eqb _ _ first.v_is))
  ]

  -- a node's place is marked where it has one
  pub place_read : (v : ℕ) → IfSome (position (λ (one : Placed). one.node == v) (placed_of path.turns)) (λ k. k < uses.places)
      → HasItsPlace (choice_of path) (Fixed (Place v)) → TellsLimit path uses (Place v)
  place_read v told stands =
      let inside : place_of v (order_of path) < length (order_of path) = stands_inside (order_of path) v stands.0
      (subst (λ (xs : List ℕ). StandsFirst xs v stands.0) (prefix_is path) stands.1) in
      (inside, place_marked (placed_of path.turns) v uses.places told inside)

module _ (path : Path) (given : Given) (old new : Uses) (more : IsMore old new) where
  pub source_more : (source : Source) → IsSourceRead path given old source → IsSourceRead path given new source
  source_more source read = record {
    facts = λ f known there fact is. fact_more path old new more given fact (read.facts f known there fact is);
    limits = λ f known there place limit is. limit_more path old new more limit (read.limits f known there place limit is);
  }

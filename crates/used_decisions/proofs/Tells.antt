-- What is marked stays marked, and what marks of a decision tell.
use Rattle.std.proofs.Common.{◌≡◌, ℕ, ◌+◌, ◌<◌, ◌≤◌, ◌==◌, not, cond, nat_lt, List, [], ◌∷◌, length, None, Some, IfSome, IfNone, Bool, true, false, IsTrue, All, arith, inl, inr, refl, ap, sym, subst, ◌∙◌, lt-ltb, le-ltb}
use Rattle.std.specs.Prelude.{position}
use Rattle.std.specs.List.{position_or_len}
use Rattle.std.proofs.lemmas.Bool.{cases_lt, cases_Bool, false≢true}
use Rattle.std.proofs.lemmas.List.{length-map}
use Rattle.ttp_model.specs.declared.step.Step.{Step}
use Rattle.tt_choice.specs.Extremes.{place_of}
use Rattle.tt_infer.specs.declared.fact.Fact.{Fact}
use Rattle.tt_infer.specs.declared.fact.Fact.TheVariants.{Start, End, FirstRound, LateRound, Order, Closed}
use Rattle.tt_infer.specs.declared.limit.Limit.{Limit}
use Rattle.tt_infer.specs.declared.limit.Limit.TheVariants.{Goal, LeastSlot, GreatestSlot, LeastFrame, GreatestFrame, Place, Copies, Counted}
use Rattle.used_decisions.specs.declared.turn.Turn.{Turn}
use Rattle.used_decisions.specs.declared.turn.Placed.{Placed}
use Rattle.used_decisions.specs.Turns.{Path, nodes_of, placed_of}
use Rattle.used_decisions.specs.declared.given.Given.{Given}
use Rattle.used_decisions.specs.declared.uses.Uses.{Uses}
use Rattle.used_decisions.specs.Uses.{IsMore}
use Rattle.used_decisions.specs.Steps.{IsReadOf, TellsFact, TellsLimit, TellsLeastSlot, TellsGreatestSlot, SaysFact, IsStepTold, AreStepsTold}
use Rattle.used_decisions.proofs.Marked.{told_grown}

pub more_none : (uses : Uses) → IsMore uses uses
more_none uses = record { room = refl; levels = λ level is. is; places = omega arith; above = λ is. is; below = λ is. is }

pub more_twice : (a b c : Uses) → IsMore a b → IsMore b c → IsMore a c
more_twice a b c one two = record {
  room = two.room ∙ one.room;
  levels = λ level is. two.levels level (one.levels level is);
  places = omega (arith, one.places, two.places);
  above = λ is. two.above (one.above is);
  below = λ is. two.below (one.below is);
}

-- there is as much room as before
pub read_more : (path : Path) (old new : Uses) → IsMore old new → IsReadOf path old → IsReadOf path new
read_more path old new more read = record {
  rules = read.rules;
  are_open = read.are_open;
  room = subst (λ (n : ℕ). All (λ (turn : Turn). turn.level < n) path.turns) (sym more.room) read.room;
}

module _ (path : Path) (old new : Uses) (more : IsMore old new) where
  pub fact_more : (given : Given) (fact : Fact) → TellsFact path given old fact → TellsFact path given new fact
  fact_more given (Start p) told = tt
  fact_more given (End p) told = tt
  fact_more given (FirstRound m) told = elim told [ inl was ↦ inl was | inr marked ↦ inr (told_grown old.levels new.levels _ more.levels marked) ]
  fact_more given (LateRound m) told = elim told [ inl was ↦ inl was | inr marked ↦ inr (told_grown old.levels new.levels _ more.levels marked) ]
  fact_more given (Order p q) told = elim told [ inl was ↦ inl was | inr marked ↦ inr (told_grown old.levels new.levels _ more.levels marked) ]
  fact_more given Closed told = tt

  says_more : (fact : Fact) → SaysFact path old fact → SaysFact path new fact
  says_more (Start p) told = tt
  says_more (End p) told = tt
  says_more (FirstRound m) told = told_grown old.levels new.levels _ more.levels told
  says_more (LateRound m) told = told_grown old.levels new.levels _ more.levels told
  says_more (Order p q) told = told_grown old.levels new.levels _ more.levels told
  says_more Closed told = tt

  pub limit_more : (limit : Limit) → TellsLimit path old limit → TellsLimit path new limit
  limit_more Goal told = tt
  limit_more (LeastSlot n) told = record { node = told.node; frames = more.above told.frames; front = omega (arith, told.front, more.places) }
  limit_more (GreatestSlot n) told =
      record { node = told.node; frames = more.below told.frames; up_to = λ placed. omega (arith, told.up_to placed, more.places) }
  limit_more (LeastFrame n) told = told_grown old.levels new.levels _ more.levels told
  limit_more (GreatestFrame n) told = told_grown old.levels new.levels _ more.levels told
  limit_more (Place v) told = (told.0, omega (arith, told.1, more.places))
  limit_more (Copies m) told = told_grown old.levels new.levels _ more.levels told
  limit_more (Counted m k) told = told_grown old.levels new.levels _ more.levels told

  step_more : (before : List Step) (step : Step) → IsStepTold path old before step → IsStepTold path new before step
  step_more before step told = record {
    facts = λ goal f behind there fact reads. elim (told.facts goal f behind there fact reads) [ inl said ↦ inl (says_more fact said) | inr wrote ↦ inr wrote ];
    limits = λ goal f behind there premise limit reads. limit_more limit (told.limits goal f behind there premise limit reads);
  }

  pub steps_more : (before steps : List Step) → AreStepsTold path old before steps → AreStepsTold path new before steps
  steps_more before [] told = tt
  steps_more before (step ∷ steps) told = (step_more before step told.0, steps_more (step ∷ before) steps told.1)

-- where a node stands in the slot order
pub same_place : (placed : List Placed) (n : ℕ) → position_or_len (λ (one : Placed). one.node == n) placed ≡ place_of n (nodes_of placed)
same_place [] n = refl
same_place (one ∷ placed) n = ap (λ (k : ℕ). cond (not (one.node == n)) (1 + k) 0) (same_place placed n)

place_within : (placed : List Placed) (n : ℕ) → position_or_len (λ (one : Placed). one.node == n) placed ≤ length placed
place_within [] n = omega arith
place_within (one ∷ placed) n = elim (cases_Bool (not (one.node == n))) [
  | inl later ↦ rw later (omega (arith, place_within placed n))
  | inr here ↦ rw here (omega arith)
]

pub order_room : (placed : List Placed) → length (nodes_of placed) ≡ length placed
order_room placed = length-map placed (λ (one : Placed). one.node)

pub place_in_order : (placed : List Placed) (n : ℕ) → place_of n (nodes_of placed) ≤ length placed
place_in_order placed n = omega (arith, same_place placed n, place_within placed n)

-- a place that is answered, or none
some_at : (inside : Bool) (P : ℕ → Type 0) (k : ℕ) → inside ≡ true → IfSome (cond inside (Some k) None) P → P k
some_at true P k is some = some
some_at false P k is some = absurd (false≢true is)

none_at : (inside : Bool) (P : Type 0) (k : ℕ) → inside ≡ false → IfNone (cond inside (Some k) None) P → P
none_at true P k is none = absurd (false≢true (sym is))
none_at false P k is none = none

-- marks up to a node's place, or of all places
pub front_marked : (placed : List Placed) (n places : ℕ) → IfSome (position (λ (one : Placed). one.node == n) placed) (λ k. k ≤ places)
    → IfNone (position (λ (one : Placed). one.node == n) placed) (length placed ≤ places) → place_of n (nodes_of placed) ≤ places
front_marked placed n places some none =
    let k = position_or_len (λ (one : Placed). one.node == n) placed in
    elim (cases_lt k (length placed)) [
      | inl inside ↦ let at : k ≤ places = some_at (nat_lt k (length placed)) (λ j. j ≤ places) k (lt-ltb k (length placed) inside) some in omega
          (arith, at, same_place placed n)
      | inr past ↦ let at : length placed ≤ places = none_at (nat_lt k (length placed)) (length placed ≤ places) k (le-ltb k (length placed) past)
          none in omega (arith, at, place_in_order placed n)
    ]

pub place_marked : (placed : List Placed) (n places : ℕ) → IfSome (position (λ (one : Placed). one.node == n) placed) (λ k. k < places)
    → place_of n (nodes_of placed) < length (nodes_of placed) → place_of n (nodes_of placed) < places
place_marked placed n places some inside =
    let k = position_or_len (λ (one : Placed). one.node == n) placed in
    let here : k < length placed = omega (arith, inside, same_place placed n, order_room placed) in
    let at : k < places = some_at (nat_lt k (length placed)) (λ j. j < places) k (lt-ltb k (length placed) here) some in
    omega (arith, at, same_place placed n)

-- so times of slots are told
pub least_slot_told : (path : Path) (uses : Uses) (n source : ℕ) → n ≡ source → n < length path.instance.nodes → IsTrue uses.above_least
    → IfSome (position (λ (one : Placed). one.node == n) (placed_of path.turns)) (λ k. k ≤ uses.places)
    → IfNone (position (λ (one : Placed). one.node == n) (placed_of path.turns)) (length (placed_of path.turns) ≤ uses.places)
    → TellsLeastSlot path uses source
least_slot_told path uses n source is inside frames some none = subst (TellsLeastSlot path uses) is (record {
  node = inside;
  frames = frames;
  front = front_marked (placed_of path.turns) n uses.places some none;
})

pub greatest_slot_told : (path : Path) (uses : Uses) (n source : ℕ) → n ≡ source → n < length path.instance.nodes → IsTrue uses.below_most
    → IfSome (position (λ (one : Placed). one.node == n) (placed_of path.turns)) (λ k. k < uses.places)
    → TellsGreatestSlot path uses source
greatest_slot_told path uses n source is inside frames some = subst (TellsGreatestSlot path uses) is (record {
  node = inside;
  frames = frames;
  up_to = place_marked (placed_of path.turns) n uses.places some;
})

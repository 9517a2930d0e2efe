-- The last decision that a test picks, and that its level is marked.
use Rattle.std.proofs.Common.{◌≡◌, ℕ, zero, suc, ◌+◌, ◌<◌, List, [], ◌∷◌, length, take, Option, None, Some, IfSome, Bool, true, false, IsTrue, All, arith, inl, inr, rules, refl, sym, subst, ◌∙◌}
use Rattle.std.proofs.lemmas.Bool.{cases_eq}
use Rattle.std.proofs.lemmas.List.Elements.{All-head, All-tail, All-nil, All-cons, All-append}
use Rattle.tt_choice.specs.declared.decision.Decision.{Decision}
use Rattle.tt_choice.specs.declared.decision.Decision.TheVariants.{Place, Cap, Before, AtMost, AtLeast, Channel}
use Rattle.used_decisions.specs.declared.turn.Turn.{Turn}
use Rattle.used_decisions.specs.declared.turn.Placed.{Placed}
use Rattle.used_decisions.specs.declared.turn.Cut.{Cut}
use Rattle.used_decisions.specs.declared.turn.OnChannel.{OnChannel}
use Rattle.used_decisions.specs.Levels.{has_level}
use Rattle.used_decisions.specs.Turns.{later_of, last_of, level_of, cut_of, on_channel_of, placed_by, placed_of}
use Rattle.used_decisions.specs.Marks.{IsTold, ArePlacesTold}
use Rattle.used_decisions.specs.Uses.{IsGrown}

-- what holds of each decision of a path holds of the last one that a test picks
module _ (P : Turn → Type 0) (picks : Decision → Bool) where
  later_holds : (picked : Bool) (turn : Turn) (last : Option Turn) → P turn → IfSome last P → IfSome (later_of picked turn last) P
  later_holds true turn None here rest = here
  later_holds false turn None here rest = rest
  later_holds true turn (Some one) here rest = rest
  later_holds false turn (Some one) here rest = rest

  pub last_holds : (turns : List Turn) → All P turns → IfSome (last_of picks turns) P
  last_holds [] all = search rules
  last_holds (turn ∷ turns) all =
      later_holds (picks turn.decision) turn (last_of picks turns) (All-head P turn turns all) (last_holds turns (All-tail P turn turns all))

module _ (new : List Bool) (n : ℕ) where
  level_at : (last : Option Turn) → IfSome last (λ turn. turn.level < n) → IfSome (level_of last) (λ level. level < n → IsTrue (has_level new level))
      → IsTold new last
  level_at None room told = tt
  level_at (Some turn) room told = told room

  cut_at : (last : Option Turn) → IfSome last (λ turn. turn.level < n)
      → IfSome (cut_of last) (λ cut. cut.level < n → IsTrue (has_level new cut.level)) → IsTold new last
  cut_at None room told = tt
  cut_at (Some turn) room told = told room

  channel_at : (last : Option Turn) → IfSome last (λ turn. turn.level < n)
      → IfSome (on_channel_of last) (λ on. on.level < n → IsTrue (has_level new on.level)) → IsTold new last
  channel_at None room told = tt
  channel_at (Some turn) room told = told room

  module _ (picks : Decision → Bool) (turns : List Turn) (room : All (λ (turn : Turn). turn.level < n) turns) where
    -- the level of a branch is marked that a path answers, and so that of the decision
    pub told_level : (level : Option ℕ) → level ≡ level_of (last_of picks turns) → IfSome level (λ level. level < n → IsTrue (has_level new level))
        → IsTold new (last_of picks turns)
    told_level level is told =
        level_at (last_of picks turns) (last_holds (λ turn. turn.level < n) picks turns room)
        (subst (λ (x : Option ℕ). IfSome x (λ level. level < n → IsTrue (has_level new level))) is told)

    pub told_cut : (cut : Option Cut) → cut ≡ cut_of (last_of picks turns) → IfSome cut (λ cut. cut.level < n → IsTrue (has_level new cut.level))
        → IsTold new (last_of picks turns)
    told_cut cut is told =
        cut_at (last_of picks turns) (last_holds (λ turn. turn.level < n) picks turns room)
        (subst (λ (x : Option Cut). IfSome x (λ cut. cut.level < n → IsTrue (has_level new cut.level))) is told)

    pub told_on_channel : (on : Option OnChannel) → on ≡ on_channel_of (last_of picks turns)
        → IfSome on (λ on. on.level < n → IsTrue (has_level new on.level)) → IsTold new (last_of picks turns)
    told_on_channel on is told =
        channel_at (last_of picks turns) (last_holds (λ turn. turn.level < n) picks turns room)
        (subst (λ (x : Option OnChannel). IfSome x (λ on. on.level < n → IsTrue (has_level new on.level))) is told)

pub told_grown : (old new : List Bool) (last : Option Turn) → ((level : ℕ) → IsTrue (has_level old level) → IsTrue (has_level new level))
    → IsTold old last → IsTold new last
told_grown old new None more told = tt
told_grown old new (Some turn) more told = more turn.level told

pub grown_none : (levels : List Bool) → IsGrown levels levels
grown_none levels = record { room = refl; kept = λ level is. is }

pub grown_twice : (a b c : List Bool) → IsGrown a b → IsGrown b c → IsGrown a c
grown_twice a b c one two = record { room = two.room ∙ one.room; kept = λ level is. two.kept level (one.kept level is) }

-- of the first nodes the last decisions are told, as far as there is room for their levels
pub record AreTold (picks : ℕ → Decision → Bool) (turns : List Turn) (old new : List Bool) (count : ℕ) : Type 0 where
  pub grown : IsGrown old new
  pub told : All (λ turn. turn.level < length old) turns → (n : ℕ) → n < count → IsTold new (last_of (picks n) turns)

pub told_first : (picks : ℕ → Decision → Bool) (turns : List Turn) (levels : List Bool) → AreTold picks turns levels levels 0
told_first picks turns levels = record { grown = grown_none levels; told = λ room n below. absurd (omega (arith, below)) }

pub told_one_more : (picks : ℕ → Decision → Bool) (turns : List Turn) (old new next : List Bool) (count : ℕ) (level : Option ℕ)
    → AreTold picks turns old new count
    → IsGrown new next → level ≡ level_of (last_of (picks count) turns) → IfSome level (λ level. level < length new → IsTrue (has_level next level))
    → AreTold picks turns old next (count + 1)
told_one_more picks turns old new next count level are grown is marked = record {
  grown = grown_twice old new next are.grown grown;
  told = λ room n below. elim (cases_eq n count) [
    | inl same ↦ rw same (told_level next (length new) (picks count) turns (subst (λ (k : ℕ). All (λ (turn : Turn). turn.level < k) turns)
        (sym are.grown.room) room) level is marked)
    | inr other ↦ told_grown new next (last_of (picks n) turns) grown.kept (are.told room n (omega (arith, below, other)))
  ];
}

-- there is room for the levels of the nodes that are placed
one_placed : (P : ℕ → Type 0) (d : Decision) (level : ℕ) → P level → All (λ (one : Placed). P one.level) (placed_by d level)
one_placed P (Place n) level holds =
    All-cons (λ (one : Placed). P one.level) (record { node = n; level = level }) [] holds (All-nil (λ (one : Placed). P one.level))
one_placed P (Cap n k) level holds = All-nil (λ (one : Placed). P one.level)
one_placed P (Before p q) level holds = All-nil (λ (one : Placed). P one.level)
one_placed P (AtMost m r) level holds = All-nil (λ (one : Placed). P one.level)
one_placed P (AtLeast m r) level holds = All-nil (λ (one : Placed). P one.level)
one_placed P (Channel m k) level holds = All-nil (λ (one : Placed). P one.level)

pub placed_hold : (P : ℕ → Type 0) (turns : List Turn) → All (λ (turn : Turn). P turn.level) turns → All (λ (one : Placed). P one.level) (placed_of turns)
placed_hold P [] all = All-nil (λ (one : Placed). P one.level)
placed_hold P (turn ∷ turns) all = All-append (λ (one : Placed). P one.level) (placed_by turn.decision turn.level) (placed_of turns)
    (one_placed P turn.decision turn.level (All-head (λ (turn : Turn). P turn.level) turn turns all))
    (placed_hold P turns (All-tail (λ (turn : Turn). P turn.level) turn turns all))

-- the first places that were put in are told
pub places_marked : (levels : List Bool) (n count : ℕ) (placed : List Placed) → All (λ (one : Placed). one.level < n) placed
    → All (λ (one : Placed). one.level < n → IsTrue (has_level levels one.level)) (take count placed) → ArePlacesTold levels count placed
places_marked levels n zero placed room marked = tt
places_marked levels n (suc count) [] room marked = tt
places_marked levels n (suc count) (one ∷ placed) room marked = (
  All-head (λ (one : Placed). one.level < n → IsTrue (has_level levels one.level)) one (take count placed) marked
      (All-head (λ (one : Placed). one.level < n) one placed room),
  places_marked levels n count placed (All-tail (λ (one : Placed). one.level < n) one placed room)
      (All-tail (λ (one : Placed). one.level < n → IsTrue (has_level levels one.level)) one (take count placed) marked),
)

pub places_grown : (old new : List Bool) (count : ℕ) (placed : List Placed)
    → ((level : ℕ) → IsTrue (has_level old level) → IsTrue (has_level new level)) → ArePlacesTold old count placed → ArePlacesTold new count placed
places_grown old new zero placed more told = tt
places_grown old new (suc count) [] more told = tt
places_grown old new (suc count) (one ∷ placed) more told = (more one.level told.0, places_grown old new count placed more told.1)

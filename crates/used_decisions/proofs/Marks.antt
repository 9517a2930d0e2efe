-- Decisions with their levels, of which those are kept that are in a set.
use Rattle.std.proofs.Common.{◌≡◌, ℕ, ◌+◌, ◌<◌, ◌≤◌, ◌&&◌, not, List, [], ◌∷◌, ◌++◌, length, All, Bool, true, false, IsTrue, IsFalse, arith}
use Rattle.std.proofs.Common.{refl, ap, sym, subst, ◌∙◌}
use Rattle.std.proofs.lemmas.Bool.{false≢true, false_from_ne_true}
use Rattle.std.proofs.lemmas.List.Elements.{All-head, All-tail, All-nil, All-cons}
use Rattle.ttp_model.specs.Instance.{Instance}
use Rattle.tt_choice.specs.declared.decision.Decision.{Decision}
use Rattle.tt_choice.specs.declared.decision.Decision.TheVariants.{Place, Cap, Before, AtMost, AtLeast, Channel}
use Rattle.tt_choice.specs.Decisions.{chosen}
use Rattle.tt_choice.specs.Kept.{Marked, keep, drop, all_of, takes_place, KeepsPlaces, places_kept}
use Rattle.used_decisions.specs.declared.turn.Turn.{Turn}
use Rattle.used_decisions.specs.declared.turn.Placed.{Placed}
use Rattle.used_decisions.specs.Levels.{has_level}
use Rattle.used_decisions.specs.Turns.{placed_by, placed_of, nodes_of}
use Rattle.used_decisions.specs.Marks.{KeepsLevels}
use Rattle.used_decisions.proofs.Places.{order_is}
use Rattle.used_decisions.specs.Proved.{all_kept, levelled}

-- all that are marked are the decisions
pub all_of_is : (levels : List Bool) (level : ℕ) (ds : List Decision) (ms : List Marked) → KeepsLevels levels (levelled level ds) ms → all_of ms ≡ ds
all_of_is levels level [] [] keeps = refl
all_of_is levels level [] (m ∷ ms) keeps = absurd keeps
all_of_is levels level (d ∷ ds) [] keeps = absurd keeps
all_of_is levels level (d ∷ ds) (keep e ∷ ms) keeps =
    ap (λ (x : Decision). x ∷ all_of ms) keeps.0 ∙ ap (λ (xs : List Decision). d ∷ xs) (all_of_is levels (level + 1) ds ms keeps.1)
all_of_is levels level (d ∷ ds) (drop e ∷ ms) keeps =
    ap (λ (x : Decision). x ∷ all_of ms) keeps.0 ∙ ap (λ (xs : List Decision). d ∷ xs) (all_of_is levels (level + 1) ds ms keeps.2)

-- whatever is in the set, all may be kept
pub keeps_all : (levels : List Bool) (level : ℕ) (ds : List Decision) → KeepsLevels levels (levelled level ds) (all_kept ds)
keeps_all levels level [] = tt
keeps_all levels level (d ∷ ds) = (refl, keeps_all levels (level + 1) ds)

pub all_are_all : (ds : List Decision) → all_of (all_kept ds) ≡ ds
all_are_all [] = refl
all_are_all (d ∷ ds) = ap (λ (xs : List Decision). d ∷ xs) (all_are_all ds)

-- the decisions make the slot order of the nodes that they place
pub prefix_is : (i : Instance) (ds : List Decision) → (chosen i ds).prefix ≡ nodes_of (placed_of (levelled 0 ds))
prefix_is i ds =
    ap (λ (xs : List Decision). (chosen i xs).prefix) (sym (all_are_all ds)) ∙ order_is i [] (levelled 0 ds) (all_kept ds) (keeps_all [] 0 ds)

-- where all are kept, the places are, from the first on are the first ones
keeps_places : (all : Bool) → IsTrue all → (ds : List Decision) → KeepsPlaces all (all_kept ds)
keeps_places all is [] = tt
keeps_places all is (d ∷ ds) = ((λ takes. is), keeps_places all is ds)

pub keeps_first : (ds : List Decision) → KeepsPlaces true (all_kept ds)
keeps_first ds = keeps_places true refl ds

-- what is kept of more levels is kept of fewer
pub keeps_fewer : (fewer more : List Bool) (level : ℕ) (ds : List Decision) (ms : List Marked)
    → ((k : ℕ) → IsTrue (has_level fewer k) → IsTrue (has_level more k))
    → KeepsLevels more (levelled level ds) ms → KeepsLevels fewer (levelled level ds) ms
keeps_fewer fewer more level [] [] grown keeps = tt
keeps_fewer fewer more level [] (m ∷ ms) grown keeps = absurd keeps
keeps_fewer fewer more level (d ∷ ds) [] grown keeps = absurd keeps
keeps_fewer fewer more level (d ∷ ds) (keep e ∷ ms) grown keeps = (keeps.0, keeps_fewer fewer more (level + 1) ds ms grown keeps.1)
keeps_fewer fewer more level (d ∷ ds) (drop e ∷ ms) grown keeps = (
  keeps.0,
  false_from_ne_true (has_level fewer level) (λ was. false≢true (sym keeps.1 ∙ grown level was)),
  keeps_fewer fewer more (level + 1) ds ms grown keeps.2,
)

-- one decision more, whose level isn't in the set, may be dropped
pub keeps_drop : (levels : List Bool) (level : ℕ) (ds : List Decision) (ms : List Marked) (d : Decision) (at : ℕ) → at ≡ level + length ds
    → IsFalse (has_level levels at) → KeepsLevels levels (levelled level ds) ms
    → KeepsLevels levels (levelled level (ds ++ d ∷ [])) (ms ++ drop d ∷ [])
keeps_drop levels level [] [] d at is never keeps =
    let here : at ≡ level = omega (arith, is) in
    (refl, subst (λ (k : ℕ). IsFalse (has_level levels k)) here never, tt)
keeps_drop levels level [] (m ∷ ms) d at is never keeps = absurd keeps
keeps_drop levels level (x ∷ ds) [] d at is never keeps = absurd keeps
keeps_drop levels level (x ∷ ds) (keep e ∷ ms) d at is never keeps =
    (keeps.0, keeps_drop levels (level + 1) ds ms d at (omega (arith, is)) never keeps.1)
keeps_drop levels level (x ∷ ds) (drop e ∷ ms) d at is never keeps =
    (keeps.0, keeps.1, keeps_drop levels (level + 1) ds ms d at (omega (arith, is)) never keeps.2)

-- and it may be kept, where each level of those before it is in another set that is in this one
pub keeps_keep : (old new : List Bool) (level : ℕ) (ds : List Decision) (ms : List Marked) (d : Decision) (count : ℕ) → level + length ds ≤ count
    → ((k : ℕ) → k < count → IsTrue (has_level old k) → IsTrue (has_level new k)) → KeepsLevels new (levelled level ds) ms
    → KeepsLevels old (levelled level (ds ++ d ∷ [])) (ms ++ keep d ∷ [])
keeps_keep old new level [] [] d count within grown keeps = (refl, tt)
keeps_keep old new level [] (m ∷ ms) d count within grown keeps = absurd keeps
keeps_keep old new level (x ∷ ds) [] d count within grown keeps = absurd keeps
keeps_keep old new level (x ∷ ds) (keep e ∷ ms) d count within grown keeps =
    (keeps.0, keeps_keep old new (level + 1) ds ms d count (omega (arith, within)) grown keeps.1)
keeps_keep old new level (x ∷ ds) (drop e ∷ ms) d count within grown keeps = (
  keeps.0,
  false_from_ne_true (has_level old level) (λ was. false≢true (sym keeps.1 ∙ grown level (omega (arith, within)) was)),
  keeps_keep old new (level + 1) ds ms d count (omega (arith, within)) grown keeps.2,
)

-- no level is as large as how many decisions there are
pub levels_below : (level : ℕ) (ds : List Decision) (count : ℕ) → level + length ds ≤ count → All (λ (turn : Turn). turn.level < count) (levelled level ds)
levels_below level [] count within = All-nil (λ (turn : Turn). turn.level < count)
levels_below level (d ∷ ds) count within = All-cons (λ (turn : Turn). turn.level < count) (record { decision = d; level = level }) (levelled (level + 1) ds)
    (omega (arith, within)) (levels_below (level + 1) ds count (omega (arith, within)))

-- Where the level of each place is in the set, all places are kept.
module _ (levels : List Bool) where
  abbrev IsIn : Placed → Type 0
  IsIn one = IsTrue (has_level levels one.level)

  others_in : (d : Decision) (level : ℕ) (rest : List Placed) → All IsIn (placed_by d level ++ rest) → All IsIn rest
  others_in (Place n) level rest told = All-tail IsIn (record { node = n; level = level }) rest told
  others_in (Cap n k) level rest told = told
  others_in (Before p q) level rest told = told
  others_in (AtMost m r) level rest told = told
  others_in (AtLeast m r) level rest told = told
  others_in (Channel m k) level rest told = told

  no_place : (d : Decision) (level : ℕ) (rest : List Placed) → All IsIn (placed_by d level ++ rest) → IsFalse (has_level levels level) → takes_place d ≡ false
  no_place (Place n) level rest told never = absurd (false≢true (sym never ∙ All-head IsIn (record { node = n; level = level }) rest told))
  no_place (Cap n k) level rest told never = refl
  no_place (Before p q) level rest told never = refl
  no_place (AtMost m r) level rest told never = refl
  no_place (AtLeast m r) level rest told never = refl
  no_place (Channel m k) level rest told never = refl

  pub places_are_kept : (level : ℕ) (ds : List Decision) (ms : List Marked) → All IsIn (placed_of (levelled level ds))
      → KeepsLevels levels (levelled level ds) ms → places_kept true ms ≡ true
  places_are_kept level [] [] told keeps = refl
  places_are_kept level [] (m ∷ ms) told keeps = absurd keeps
  places_are_kept level (d ∷ ds) [] told keeps = absurd keeps
  places_are_kept level (d ∷ ds) (keep e ∷ ms) told keeps =
      places_are_kept (level + 1) ds ms (others_in d level (placed_of (levelled (level + 1) ds)) told) keeps.1
  places_are_kept level (d ∷ ds) (drop e ∷ ms) told keeps =
      let none : takes_place e ≡ false = ap takes_place keeps.0 ∙ no_place d level (placed_of (levelled (level + 1) ds)) told keeps.1 in
      ap (λ (x : Bool). places_kept (true && not x) ms) none
      ∙ places_are_kept (level + 1) ds ms (others_in d level (placed_of (levelled (level + 1) ds)) told) keeps.2

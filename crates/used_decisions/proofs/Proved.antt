-- What a branch needs, by what its children need.
use Rattle.std.proofs.Common.{◌≡◌, ℕ, ◌<◌, ◌≤◌, ◌&&◌, ◌||◌, nat_lt, List, [], ◌∷◌, ◌++◌, length, set, All, Bool, true, false, IsTrue}
use Rattle.std.proofs.Common.{IsFalse, arith, inl, inr, refl, sym, subst, ◌∙◌, get_or-set_other}
use Rattle.std.proofs.lemmas.Bool.{cases_eq, lt-ltb}
use Rattle.ttp_model.specs.declared.step.Kind.{Kind}
use Rattle.ttp_model.specs.Instance.{Instance}
use Rattle.tt_choice.specs.declared.decision.Decision.{Decision}
use Rattle.tt_choice.specs.Branches.{IsOpen, children}
use Rattle.tt_choice.specs.Decisions.{chosen, decision_of}
use Rattle.tt_choice.specs.Kinds.{is_of_places}
use Rattle.tt_choice.specs.Kept.{keep, drop, all_of, places_kept}
use Rattle.tt_infer.specs.RuledOut.IsRuledOut.{by_children, by_one}
use Rattle.used_decisions.specs.declared.turn.Turn.{Turn}
use Rattle.used_decisions.specs.declared.turn.Placed.{Placed}
use Rattle.used_decisions.specs.Levels.{has_level}
use Rattle.used_decisions.specs.Turns.{placed_of}
use Rattle.used_decisions.proofs.Marked.{placed_hold}
use Rattle.used_decisions.specs.Proved.{levelled, IsProvedBy}
use Rattle.used_decisions.specs.Ways.{HasClosed}
use Rattle.used_decisions.proofs.Marks.{all_of_is, keeps_fewer, keeps_drop, keeps_keep, levels_below, places_are_kept}

-- one child that doesn't need what leads to it proves its branch
pub proved_by_one : (i : Instance) (low : ℕ) (used : List Bool) (ds : List Decision) (kind : Kind) (k : ℕ)
    → IsOpen i (chosen i ds) kind → k < children i (chosen i ds) kind → IsFalse (has_level used (length ds))
    → IsProvedBy i low used (ds ++ decision_of i (chosen i ds) kind k ∷ []) → IsProvedBy i low used ds
proved_by_one i low used ds kind k is there never proved = λ ms keeps.
    let all : all_of ms ≡ ds = all_of_is used 0 ds ms keeps in
    let d = decision_of i (chosen i ds) kind k in
    by_one ms kind k (rw all is) (rw all there) (rw all (proved (ms ++ drop d ∷ []) (keeps_drop used 0 ds ms d (length ds) (omega arith) never keeps)))

-- a branch all of whose children are closed needs what they need, and all places where it takes the next one
pub proved_by_all : (i : Instance) (low : ℕ) (ds : List Decision) (kind : Kind) (count : ℕ) (closed below used : List Bool)
    → HasClosed i low ds kind count closed below
    → ((k : ℕ) → k < count → IsTrue (has_level closed k))
    → ((level : ℕ) → IsTrue (has_level below level) → IsTrue (has_level used level))
    → (IsTrue (is_of_places kind) → All (λ (one : Placed). IsTrue (has_level used one.level)) (placed_of (levelled 0 ds)))
    → IsProvedBy i low used ds
proved_by_all i low ds kind count closed below used has all_closed more places = λ ms keeps.
    let all : all_of ms ≡ ds = all_of_is used 0 ds ms keeps in
    by_children ms kind (rw all has.is.is_open) (λ is. places_are_kept used 0 ds ms (places is) keeps)
    (rw all (λ k there.
    let inside : k < count = omega (arith, there, has.is.just) in
    has.proved k inside (all_closed k inside) ms (keeps_fewer below used 0 ds ms more keeps)))

or_right : (a b : Bool) → b ≡ true → (a || b) ≡ true
or_right true b is = refl
or_right false b is = is

or_left : (a b : Bool) → a ≡ true → (a || b) ≡ true
or_left a b is = rw is refl

and_both : (a b : Bool) → a ≡ true → b ≡ true → (a && b) ≡ true
and_both a b one other = rw one other

-- one child more is closed, and what it needs is joined with what the others do
pub one_more_closed : (i : Instance) (low : ℕ) (ds : List Decision) (kind : Kind) (count child : ℕ) (closed used below joined : List Bool)
    → HasClosed i low ds kind count closed below
    → IsProvedBy i low used (ds ++ decision_of i (chosen i ds) kind child ∷ [])
    → length joined ≡ length below
    → ((level : ℕ) → has_level joined level ≡ (has_level below level || (nat_lt level (length below) && has_level used level)))
    → HasClosed i low ds kind count (set closed child true) joined
one_more_closed i low ds kind count child closed used below joined has proved room value = record {
  is = has.is;
  wide = omega (arith, has.wide, room);
  proved = λ k inside told ms keeps. elim (cases_eq k child) [
    | inl same ↦
        let d = decision_of i (chosen i ds) kind child in
        rw same (proved (ms ++ keep d ∷ []) (keeps_keep used joined 0 ds ms d (length ds) (omega arith) (λ level there was.
        value level ∙ or_right (has_level below level) (nat_lt level (length below) && has_level used level)
        (and_both (nat_lt level (length below)) (has_level used level) (lt-ltb level (length below) (omega (arith, there, has.wide))) was)) keeps))
    | inr other ↦
        let before : has_level closed k ≡ true = sym (get_or-set_other closed child k true false other) ∙ told in
        has.proved k inside before ms (keeps_fewer below joined 0 ds ms (λ level was.
        value level ∙ or_left (has_level below level) (nat_lt level (length below) && has_level used level) was) keeps)
  ];
}

-- so one that is closed without what leads to it proves the branch that it is of
pub proved_beside : (i : Instance) (low : ℕ) (ds : List Decision) (kind : Kind) (count child : ℕ) (closed used below : List Bool)
    → HasClosed i low ds kind count closed below → child < count → IsFalse (has_level used (length ds))
    → IsProvedBy i low used (ds ++ decision_of i (chosen i ds) kind child ∷ []) → IsProvedBy i low used ds
proved_beside i low ds kind count child closed used below has there never proved =
    proved_by_one i low used ds kind child has.is.is_open (omega (arith, there, has.is.just)) never proved

places_hold : (P Q : Placed → Type 0) (placed : List Placed) → All P placed → All (λ (one : Placed). P one → Q one) placed → All Q placed
places_hold P Q placed all each = λ k d lt. each k d lt (all k d lt)

-- the levels of all places were put into a set that has room for them
pub places_in : (turns : List Turn) (ds : List Decision) (below used : List Bool) → turns ≡ levelled 0 ds → length ds ≤ length below
    → All (λ (one : Placed). one.level < length below → IsTrue (has_level used one.level)) (placed_of turns)
    → All (λ (one : Placed). IsTrue (has_level used one.level)) (placed_of (levelled 0 ds))
places_in turns ds below used is wide told =
    let all = levels_below 0 ds (length below) (omega (arith, wide)) in
    places_hold (λ (one : Placed). one.level < length below) (λ (one : Placed). IsTrue (has_level used one.level)) (placed_of (levelled 0 ds))
    (placed_hold (λ level. level < length below) (levelled 0 ds) all)
    (subst (λ (xs : List Turn). All (λ (one : Placed). one.level < length below → IsTrue (has_level used one.level)) (placed_of xs)) is told)

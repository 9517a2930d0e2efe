-- How turns lead from one choice to the next.
use Rattle.std.proofs.Common.{◌≡◌, ℕ, zero, suc, ◌+◌, ◌≤◌, ◌<◌, List, [], ◌∷◌, ◌++◌, length, map, reverse, slice_index_or, drop, arith, refl, sym, ap, subst, ◌∙◌}
use Rattle.std.specs.List.{range_with_len}
use Rattle.std.proofs.lemmas.List.{reverse-append, length-append}
use Rattle.ttp_model.specs.declared.step.Kind.{Kind}
use Rattle.ttp_model.specs.Instance.{Instance}
use Rattle.tt_choice.specs.declared.decision.Decision.{Decision}
use Rattle.tt_choice.specs.Choice.{Choice, bare}
use Rattle.tt_choice.specs.Branches.{IsOpen, children, child_choices}
use Rattle.tt_choice.specs.Decisions.{choice_after, kept_after, reversal_of, IsOpenDecision, decision_of, decisions_of}
use Rattle.tt_choice.proofs.Decisions.{decision_is_open}
use Rattle.tt_choice.proofs.Trail.{bare-same, none_kept-after, IsChoice-kept_after}
use Rattle.tree_check.specs.declared.walk.Turn.{Turn}
use Rattle.tree_check.specs.declared.walk.Turn.TheVariants.{Stay, Down, Up}
use Rattle.tree_check.specs.declared.walk.Walk.{Walk}
use Rattle.tree_check.specs.Turns.{IsDecided, IsBelow, LeadTo, turns_to, IsWalk, TurnsNext}
use Rattle.tree_check.proofs.Bare.{children_after}

-- each of these decisions is open
abbrev pub AllOpen : Instance → Choice → List Decision → Type 0
AllOpen i c [] = Unit {0}
AllOpen i c (d ∷ ds) = IsOpenDecision i c d × AllOpen i c ds

each_open : (i : Instance) (c : Choice) (kind : Kind) (a n : ℕ) → IsOpen i c kind → a + n ≤ children i c kind
    → AllOpen i c (map (decision_of i c kind) (range_with_len a n))
each_open i c kind a zero is_open le = tt
each_open i c kind a (suc n) is_open le =
    (decision_is_open i c kind a is_open (omega (arith, le)), each_open i c kind (a + 1) n is_open (omega (arith, le)))

pub all_open : (i : Instance) (c : Choice) (kind : Kind) → IsOpen i c kind → AllOpen i c (decisions_of i c kind)
all_open i c kind is_open = each_open i c kind 0 (children i c kind) is_open (omega arith)

-- Down to each child and up again, and then on.
pub lead_each : (i : Instance) (c : Choice) (path : List Choice) (turns : List Turn) (left : List Choice) (ds : List Decision) → AllOpen i c ds
    → LeadTo i c path turns left → LeadTo i c path (turns_to ds ++ turns) (map (choice_after i c) ds ++ left)
lead_each i c path turns left [] open_ones lead = lead
lead_each i c path turns left (d ∷ ds) open_ones lead =
    (map (choice_after i c) ds ++ left, refl, (open_ones.0, lead_each i c path turns left ds open_ones.1 lead))

pub walk_below : (i : Instance) (old new : Walk) (kind : Kind) (decisions : List Decision) (left : List Choice) → IsOpen i old.choice kind
    → decisions ≡ decisions_of i old.choice kind → new.choice ≡ old.choice
    → reverse new.turns.items ≡ turns_to decisions ++ reverse old.turns.items → IsWalk i old left
    → IsWalk i new (child_choices i (bare old.choice) kind ++ left)
walk_below i old new kind decisions left is_open all same turns walk =
    let open_ones : AllOpen i old.choice decisions = rw all (all_open i old.choice kind is_open) in
    let led = lead_each i old.choice walk.path (reverse old.turns.items) left decisions open_ones walk.turns in
    let to : map (choice_after i old.choice) decisions ≡ child_choices i (bare old.choice) kind = ap (map (choice_after i old.choice)) all
    ∙ children_after i old.choice kind in
    record {
      path = walk.path;
      choice = rw same walk.choice;
      below = rw same walk.below;
      turns =
          rw (same, turns) (subst (λ (cs : List Choice). LeadTo i old.choice walk.path (turns_to decisions ++ reverse old.turns.items) (cs ++ left)) to led);
    }

head_and_tail : (c d : Choice) (cs ds : List Choice) → c ∷ cs ≡ d ∷ ds → (c ≡ d) × (cs ≡ ds)
head_and_tail c d cs ds same = (ap (λ (xs : List Choice). slice_index_or xs 0 c) same, ap (drop 1) same)

-- ---- one turn after another

-- the last turn is taken off
taken : (turns : List Turn) (turn : Turn) → reverse (turns ++ turn ∷ []) ≡ turn ∷ reverse turns
taken turns turn = reverse-append turns (turn ∷ [])

pub turn_next : (i : Instance) (old new : Walk) (turn : Turn) (left : List Choice) → old.turns.items ≡ new.turns.items ++ turn ∷ []
    → new.choice ≡ old.choice → IsWalk i old left → TurnsNext i new turn left
turn_next i old new turn left last same walk =
    let turns : reverse old.turns.items ≡ turn ∷ reverse new.turns.items = ap reverse last ∙ taken new.turns.items turn in
    record {
      path = walk.path;
      choice = rw same walk.choice;
      below = rw same walk.below;
      turns = rw same (subst (λ (ts : List Turn). LeadTo i old.choice walk.path ts left) turns walk.turns);
    }

-- up,
up_path : (i : Instance) (c : Choice) (path : List Choice) (turns : List Turn) (left : List Choice) → LeadTo i c path (Up ∷ turns) left
    → IsBelow i c path → (above : Choice) × (others : List Choice) × (IsDecided i above c × (IsBelow i above others × LeadTo i above others turns left))
up_path i c [] turns left lead below = absurd lead
up_path i c (above ∷ others) turns left lead below = (above, others, (below.0, (below.1, lead)))

pub above_of : (i : Instance) (w : Walk) (left : List Choice) → TurnsNext i w Up left → (above : Choice) × IsDecided i above w.choice
above_of i w left next =
    let up = up_path i w.choice next.path (reverse w.turns.items) left next.turns next.below in
    (up.0, up.2.0)

pub some_kept : (i : Instance) (above c : Choice) → IsDecided i above c → 0 < length c.kept
some_kept i above c decided =
    let kept = ap (λ (x : Choice). length x.kept) decided.is in
    omega (arith, kept, length-append above.kept (reversal_of above decided.decision ∷ []))

-- to the choice that is there,
pub walk_stays : (i : Instance) (w : Walk) (c : Choice) (left : List Choice) → TurnsNext i w Stay (c ∷ left) → (bare w.choice ≡ c) × IsWalk i w left
walk_stays i w c left next =
    let first = head_and_tail c (bare w.choice) left next.turns.0 next.turns.1 in (
      sym first.0,
      record {
        path = next.path;
        choice = next.choice;
        below = next.below;
        turns = rw first.1 next.turns.2;
      },
    )

-- and down.
pub next_open : (i : Instance) (w : Walk) (d : Decision) (left : List Choice) → TurnsNext i w (Down d) left → IsOpenDecision i w.choice d
next_open i w d left next = next.turns.2.0

pub walk_down : (i : Instance) (old new : Walk) (d : Decision) (c : Choice) (left : List Choice) → TurnsNext i old (Down d) (c ∷ left)
    → new.turns.items ≡ old.turns.items → new.choice ≡ kept_after i old.choice d → (bare new.choice ≡ c) × IsWalk i new left
walk_down i old new d c left next turns is =
    let first = head_and_tail c (choice_after i old.choice d) left next.turns.0 next.turns.1 in
    let decided : IsDecided i old.choice new.choice = record { decision = d; choice = next.choice; is_open = next.turns.2.0; is = is } in
    let made : bare new.choice ≡ choice_after i old.choice d = ap bare is ∙ bare-same (choice_after i old.choice d) (none_kept-after i old.choice d) in (
      made ∙ sym first.0,
      record {
        path = old.choice ∷ next.path;
        choice = rw is (IsChoice-kept_after i old.choice d next.choice next.turns.2.0);
        below = (decided, next.below);
        turns = rw (is, turns, first.1) next.turns.2.1;
      },
    )

-- no turn is left, and no choice
pub none_left : (i : Instance) (w : Walk) (left : List Choice) → w.turns.items ≡ [] → IsWalk i w left → left ≡ []
none_left i w left none walk =
    subst (λ (ts : List Turn). LeadTo i w.choice walk.path (reverse ts) left) none walk.turns

-- ---- turns that are put in front

-- the last decision's turns stand in front of the others'
turns_last : (ds : List Decision) (d : Decision) (turns : List Turn) → turns_to (ds ++ d ∷ []) ++ turns ≡ turns_to ds ++ Down d ∷ Up ∷ turns
turns_last [] d turns = refl
turns_last (first ∷ ds) d turns = ap (λ (ts : List Turn). Down first ∷ Up ∷ ts) (turns_last ds d turns)

pub pushed_front : (ds others : List Decision) (d : Decision) (old mid new : List Turn) → ds ≡ others ++ d ∷ [] → mid ≡ old ++ Up ∷ []
    → new ≡ mid ++ Down d ∷ [] → turns_to others ++ reverse new ≡ turns_to ds ++ reverse old
pushed_front ds others d old mid new last up down =
    let front : reverse new ≡ Down d ∷ Up ∷ reverse old = ap reverse down ∙ taken mid (Down d)
    ∙ ap (λ (ts : List Turn). Down d ∷ ts) (ap reverse up ∙ taken old Up) in
    ap (λ (ts : List Turn). turns_to others ++ ts) front ∙ sym (ap (λ (xs : List Decision). turns_to xs ++ reverse old) last ∙ turns_last others d
    (reverse old))

pub all_in_front : (ds : List Decision) (turns front : List Turn) → ds ≡ [] → turns_to ds ++ reverse turns ≡ front → reverse turns ≡ front
all_in_front ds turns front none is = subst (λ (xs : List Decision). turns_to xs ++ reverse turns ≡ front) none is

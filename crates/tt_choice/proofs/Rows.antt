-- What is proved of each kind of branch by itself. All else that is said of branches follows from it for any kind.
use Rattle.std.proofs.Common.{◌≡◌, ℕ, zero, suc, ◌<◌, ◌≤◌, ◌==◌, not, List, length, slice_index, filter, IsTrue, arith, refl, ap, sym, subst}
use Rattle.std.specs.List.{list_any, range_with_len}
use Rattle.std.proofs.lemmas.Bool.{false≢true}
use Rattle.ttp_model.specs.declared.limits.TheConstants.{MOST_NODES}
use Rattle.ttp_model.specs.declared.plan.Plan.{Plan}
use Rattle.ttp_model.specs.declared.step.Kind.{Kind}
use Rattle.ttp_model.specs.declared.step.Kind.TheVariants.{Place, Cap, Pair, Round, Chan}
use Rattle.ttp_model.specs.Instance.{Instance}
use Rattle.ttp_model.specs.Plans.{IsValid}
use Rattle.ttp_model.specs.Rules.{IsInstance}
use Rattle.tt_choice.specs.declared.decision.Decision.TheVariants as decided
use Rattle.tt_choice.specs.Choice.{Choice, IsIn, IsChoice, IsComplete}
use Rattle.tt_choice.specs.Changes.{unplaced}
use Rattle.tt_choice.specs.Kinds.{branch, IsOpen, children, child, decision_of, is_of_places, Halves}
use Rattle.tt_choice.specs.Decisions.{IsOpenDecision}
use Rattle.tt_choice.specs.Inside.{IsInside}
use Rattle.tt_choice.specs.Kept.{takes_place}
use Rattle.tt_choice.proofs.Unplaced.{IsUnplaced-listed, length-unplaced}
use Rattle.tt_choice.proofs.Open.{TakesSome, LeavesHalf, turned, cuts_behind, one_of_three}
use Rattle.tt_choice.proofs.Open.{node_outside, pair_outside, cut_outside, channel_outside, no_free_node, no_free_pair, no_range, no_free_channel}
use Rattle.tt_choice.proofs.Shared.{one_is_next, one_is_taken, one_goes_first, one_side_has_it, one_channel_has_it}

-- the decision that leads to a child is open
pub decision_is_open : (i : Instance) (c : Choice) (kind : Kind) (k : ℕ) → IsOpen i c kind → k < children i c kind → IsOpenDecision i c (decision_of i c kind k)
decision_is_open i c Place k is inside = IsUnplaced-listed i c k inside
decision_is_open i c (Cap n) k is inside = record { free = is; option = inside }
decision_is_open i c (Pair p q) zero is inside = is
decision_is_open i c (Pair p q) (suc k) is inside = turned i c p q is
decision_is_open i c (Round m r) zero is inside = is
decision_is_open i c (Round m r) (suc k) is inside = cuts_behind i c m r is
decision_is_open i c (Chan m) k is inside = one_of_three i c m k is inside

-- a valid plan of the choice is one of a child
pub child-IsIn : (i : Instance) (c : Choice) (kind : Kind) (plan : Plan) → IsChoice i c → IsOpen i c kind → IsValid i plan → IsIn i c plan
    → (k : ℕ) × (k < children i c kind) × IsIn i (child i c kind k) plan
child-IsIn i c Place plan ok is v there = one_is_next i c plan ok v there is
child-IsIn i c (Cap n) plan ok is v there = one_is_taken i c plan ok v there n is
child-IsIn i c (Pair p q) plan ok is v there = one_goes_first i c plan ok v there p q is
child-IsIn i c (Round m r) plan ok is v there = one_side_has_it i c plan ok v there m r is
child-IsIn i c (Chan m) plan ok is v there = one_channel_has_it i c plan ok v there m is

-- the decision that leads to a child takes something, and leaves at most half of a range that the branch halves
pub each_takes_some : (i : Instance) (c : Choice) (kind : Kind) (k : ℕ) → IsOpen i c kind → TakesSome i c (decision_of i c kind k)
each_takes_some i c (Pair p q) zero is = is
each_takes_some i c (Pair p q) (suc k) is = turned i c p q is
each_takes_some i c (Round m r) (suc k) is = cuts_behind i c m r is
each_takes_some i c kind zero is = is
each_takes_some i c kind (suc k) is = is

pub each_leaves_half : (i : Instance) (c : Choice) (kind : Kind) (k : ℕ) → Halves c kind → LeavesHalf c (decision_of i c kind k)
each_leaves_half i c (Round m r) zero halves = halves.0
each_leaves_half i c (Round m r) (suc k) halves = halves.1
each_leaves_half i c kind zero halves = tt
each_leaves_half i c kind (suc k) halves = tt

-- what is open is open where less is decided, with the same places if it is one of them
pub open_outside : (i : Instance) (c d : Choice) (kind : Kind) → IsInside i c d → (IsTrue (is_of_places kind) → c.prefix ≡ d.prefix)
    → IsOpen i c kind → IsOpen i d kind
open_outside i c d Place inside same is = subst (λ (prefix : List ℕ). length prefix < length i.nodes) (same refl) is
open_outside i c d (Cap n) inside same is = node_outside i c d inside n is
open_outside i c d (Pair p q) inside same is = pair_outside i c d inside p q is
open_outside i c d (Round m r) inside same is = cut_outside i c d inside m r is
open_outside i c d (Chan m) inside same is = channel_outside i c d inside m is

unplaced_by : Instance → List ℕ → List ℕ
unplaced_by i prefix = filter (λ n. not (list_any (λ m. m == n) prefix)) (range_with_len 0 (length i.nodes))

unplaced_alike : (i : Instance) (c d : Choice) → c.prefix ≡ d.prefix → unplaced i d ≡ unplaced i c
unfolding unplaced_by
unplaced_alike i c d same = ap (unplaced_by i) (sym same)

-- and its options and decisions are the same there
pub options_alike : (i : Instance) (c d : Choice) (kind : Kind) → (IsTrue (is_of_places kind) → c.prefix ≡ d.prefix)
    → (branch i d kind).options ≡ (branch i c kind).options
options_alike i c d Place same = ap length (unplaced_alike i c d (same refl))
options_alike i c d kind same = refl

pub decision_alike : (i : Instance) (c d : Choice) (kind : Kind) (k : ℕ) → (IsTrue (is_of_places kind) → c.prefix ≡ d.prefix)
    → decision_of i d kind k ≡ decision_of i c kind k
decision_alike i c d Place k same = ap (λ (xs : List ℕ). decided.Place (slice_index xs k)) (unplaced_alike i c d (same refl))
decision_alike i c d kind k same = refl

-- a decision of a branch takes a place only where the branch does
pub place_is_taken : (i : Instance) (c : Choice) (kind : Kind) (k : ℕ) → IsTrue (takes_place (decision_of i c kind k)) → IsTrue (is_of_places kind)
place_is_taken i c Place k takes = refl
place_is_taken i c kind zero takes = absurd (false≢true takes)
place_is_taken i c kind (suc k) takes = absurd (false≢true takes)

-- there are few children
pub few_children : (i : Instance) (c : Choice) (kind : Kind) → IsInstance i → IsChoice i c → IsOpen i c kind → children i c kind ≤ MOST_NODES
few_children i c Place w ok is = omega (arith, length-unplaced i c ok, w.limits.nodes)
few_children i c (Cap n) w ok is = omega (arith, (w.capacities n is.0).few)
few_children i c kind w ok is = omega arith

-- where a branch is open, something is left to choose
pub open_incomplete : (i : Instance) (c : Choice) (kind : Kind) → IsOpen i c kind → ¬ IsComplete i c
open_incomplete i c Place is all = absurd (omega (arith, is, all.placed))
open_incomplete i c (Cap n) is all = no_free_node i c all n is
open_incomplete i c (Pair p q) is all = no_free_pair i c all p q is
open_incomplete i c (Round m r) is all = no_range i c all m r is
open_incomplete i c (Chan m) is all = no_free_channel i c all m is

-- What a refusal shows of the numbers and names that its reason tells.
use Rattle.std.proofs.Common.{◌≡◌, ◌≢◌, ℕ, zero, suc, ◌+◌, ◌-◌, ◌<◌, ◌≤◌, ◌||◌, Bool, true, false, IsTrue, inl, inr, List, length, slice_index, arith, refl}
use Rattle.std.specs.Prelude.{◌==◌}
use Rattle.std.specs.Int.{is_in_range}
use Rattle.std.proofs.lemmas.Bool.{cases_lt, ne_eqb}
use Rattle.std.proofs.lemmas.List.Elements.{All-from_get_or}
use Rattle.ttp_model.specs.Limits.{most_bytes, most_capacities, most_name_bytes}
use Rattle.ttp_model.specs.declared.error.Part.{Part}
use Rattle.ttp_model.specs.declared.error.Part.TheVariants as part
use Rattle.ttp_model.specs.declared.error.Place.{Place}
use Rattle.ttp_model.specs.declared.error.Place.TheVariants.{AtCluster, AtLink, AtMessage, AtNode, AtProcess}
use Rattle.ttp_model.specs.Instance.{Instance, link_at, message_at, node_of, source_of}
use Rattle.ttp_model.specs.Lists.{EachBelow}
use Rattle.ttp_model.specs.Refusals.{HasLength, IsFirstWrongLength}
use Rattle.ttp_model.specs.Rules.{IsCapacityList, IsName, IsNamed, ReceivesOnce, SendsAway, StaysOnNode, begins_name, continues_name}
use Rattle.instance_reasons.specs.Capacities.{IsSmallAt, Rises}
use Rattle.instance_reasons.specs.Counts.{count_of, most_of}
use Rattle.instance_reasons.specs.Joins.{IsNewAt}
use Rattle.instance_reasons.specs.Malformed.{HasStanding}
use Rattle.instance_reasons.specs.Spots.{name_at}

-- one number is above another where it isn't at most that
pub above : (a b : ℕ) → ¬ (a ≤ b) → b < a
above a b fails = elim (cases_lt b a) [
  | inl less ↦ less
  | inr at_most ↦ absurd (fails (omega (arith, at_most)))
]

-- ---- lists

too_long : {X : Type 0} (least most : ℕ) (xs : List X) → least ≤ 1 → ¬ HasLength least most xs → 0 < length xs → most < length xs
too_long least most xs low wrong some = above (length xs) most (λ le. wrong (omega (arith, low, some), le))

pub many : (i : Instance) (list : Part) → IsFirstWrongLength i list → 0 < count_of i list → most_of list < count_of i list
many i part.Nodes wrong some = too_long 1 _ i.nodes (omega arith) wrong some
many i part.Processes wrong some = too_long 1 _ i.processes (omega arith) wrong.1 some
many i part.Links wrong some = too_long 0 _ i.links (omega arith) wrong.2 some
many i part.Messages wrong some = too_long 0 _ i.messages (omega arith) wrong.3 some

-- ---- names

-- where a name may begin it may go on
widened : (d a b u : Bool) → IsTrue ((a || b) || u) → IsTrue (((d || a) || b) || u)
widened true a b u h = refl
widened false a b u h = h

begins_continues : (c : ℕ) → IsTrue (begins_name c) → IsTrue (continues_name c)
begins_continues c h = widened (is_in_range 48 57 c) (is_in_range 65 90 c) (is_in_range 97 122 c) (c == 95) h

others : (name : List ℕ) → EachBelow (length name) (HasStanding name) → (k : ℕ) → k < length name → IsTrue (continues_name (slice_index name k))
others name each zero inside = begins_continues (slice_index name 0) (each 0 inside)
others name each (suc k) inside = rw (ne_eqb (suc k) 0 (omega arith)) at (each (suc k) inside)

pub is_name : (name : List ℕ) → 0 < length name → length name ≤ most_name_bytes → EachBelow (length name) (HasStanding name) → IsName name
is_name name some short each = record { some = some; short = short; first = each 0 some; others = others name each }

pub not_name : (i : Instance) (at : Place) → ¬ IsNamed i at → ¬ IsName (name_at i at)
not_name i AtCluster wrong = absurd (wrong tt)
not_name i (AtNode n) wrong = λ is. wrong (λ _. is)
not_name i (AtProcess p) wrong = λ is. wrong (λ _. is)
not_name i (AtLink l) wrong = absurd (wrong tt)
not_name i (AtMessage m) wrong = λ is. wrong (λ _. is)

-- ---- capacities

rising : (capacities : List ℕ) (k : ℕ) → Rises capacities (k + 1) → slice_index capacities k < slice_index capacities (k + 1)
rising capacities k rises =
    let back : k + 1 - 1 ≡ k = omega arith in
    rw back at (rises (omega arith))

pub is_capacity_list : (capacities : List ℕ) → 1 ≤ length capacities → length capacities ≤ most_capacities → EachBelow (length capacities) (Rises capacities)
    → EachBelow (length capacities) (IsSmallAt capacities) → IsCapacityList capacities
is_capacity_list capacities some few rises small = record {
  some = some;
  few = few;
  rising = λ k inside. rising capacities k (rises (k + 1) inside);
  small = All-from_get_or (λ capacity. capacity ≤ most_bytes) capacities 0 small;
}

-- one that doesn't rise has one before it, which is as large
pub falls : (capacities : List ℕ) (k : ℕ) → ¬ Rises capacities k → (0 < k) × (slice_index capacities k ≤ slice_index capacities (k - 1))
falls capacities zero wrong = absurd (wrong (λ some. absurd (omega (arith, some))))
falls capacities (suc k) wrong = elim (cases_lt (slice_index capacities (suc k - 1)) (slice_index capacities (suc k))) [
  | inl less ↦ absurd (wrong (λ _. less))
  | inr at_most ↦ (omega arith, at_most)
]

-- ---- joins

pub sends_away : (i : Instance) (m : ℕ) → EachBelow (length (message_at i m).receivers) (λ k. node_of i (slice_index (message_at i m).receivers k) ≢ source_of i m) → SendsAway i m
sends_away i m each = All-from_get_or (λ q. node_of i q ≢ source_of i m) (message_at i m).receivers 0 each

pub receives_once : (i : Instance) (m : ℕ) → EachBelow (length (message_at i m).receivers) (IsNewAt (message_at i m).receivers) → ReceivesOnce i m
receives_once i m each = λ j k before inside. each k inside j before

pub other_nodes : (i : Instance) (l : ℕ) → ¬ StaysOnNode i l → (link_at i l).before ≢ (link_at i l).after
    → node_of i (link_at i l).before ≢ node_of i (link_at i l).after
other_nodes i l wrong two = λ one. wrong (record { two = two; one_node = one })

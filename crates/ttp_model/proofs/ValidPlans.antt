-- Processes one after the other, frames without messages, and plans without a delay.
use Rattle.std.proofs.Common.{◌≡◌, ◌≢◌, ℕ, zero, suc, ◌+◌, ◌<◌, ◌≤◌, ◌⊎◌, Bool, true, false, if◌then◌else◌, IsTrue, length, slice_index, map, max, arith, inl, inr, refl, ap, sym, add-one}
use Rattle.std.specs.List.{range_with_len}
use Rattle.std.proofs.lemmas.List.FromFn.{map-range_with_len_more}
use Rattle.std.proofs.lemmas.List.Sums.{fold_push}
use Rattle.std.proofs.lemmas.Bool.{cases_lt, cases_order}
use Rattle.std.proofs.lemmas.Bool.Decides.{eqb_tells}
use Rattle.ttp_model.specs.declared.limits.TheConstants.{MOST_TICKS}
use Rattle.ttp_model.specs.declared.error.Place.TheVariants.{AtCluster}
use Rattle.ttp_model.specs.declared.plan.Plan.{Plan}
use Rattle.ttp_model.specs.Instance.{Instance, node_of, source_of}
use Rattle.ttp_model.specs.Graph.{HasLink}
use Rattle.ttp_model.specs.Totals.{total}
use Rattle.ttp_model.specs.Rules.{IsInstance}
use Rattle.ttp_model.specs.Lists.{greatest}
use Rattle.ttp_model.specs.Plans.{IsValid, EndsBefore, start_of, end_of, load_on, bytes_in, bytes_on, is_on, round_of, channel_of}
use Rattle.ttp_model.specs.Delays.{delay, IsLowerBound, HasNoPlan}
use Rattle.ttp_model.proofs.Totals.{total_more}

-- of two processes of one node one ends before the other starts
pub two_apart : (i : Instance) (plan : Plan) (p q : ℕ) → IsValid i plan → p < length i.processes → q < length i.processes → p ≢ q → node_of i p ≡ node_of i q → EndsBefore i plan p q ⊎ EndsBefore i plan q p
two_apart i plan p q v hp hq two same = elim (cases_lt p q) [
  | inl below ↦ v.apart p hp q below hq same
  | inr above ↦ elim (v.apart q hq p (omega (arith, above, two)) hp (sym same)) [ inl first ↦ inr first | inr second ↦ inl second ]
]

-- a link keeps its processes one after the other
pub link_kept : (i : Instance) (plan : Plan) (p q : ℕ) → IsValid i plan → HasLink i p q → EndsBefore i plan p q
link_kept i plan p q v link = omega (arith, v.links link.link link.is_there, ap (end_of i plan) link.before, ap (start_of plan) link.after)

-- a sum above 0 has a term above 0
positive_term : (f : ℕ → ℕ) (count : ℕ) → 0 < total f count → (m : ℕ) × (m < count) × (0 < f m)
positive_term f zero h = absurd (omega arith)
positive_term f (suc count) h =
    elim (cases_order (f count) 0) [
      | inl none ↦ (let rest = positive_term f count (omega (arith, h, total_more f count, none)) in (rest.0, omega (arith, rest.1), rest.2))
      | inr other ↦ elim other [ inl below ↦ absurd (omega (arith, below)) | inr above ↦ (count, omega arith, above) ]
    ]

-- a message that puts bytes into a frame is sent in it
sent_there : (i : Instance) (plan : Plan) (n r m : ℕ) → 0 < bytes_in i plan n r m → (source_of i m ≡ n) × (round_of plan m ≡ r)
sent_there i plan n r m h = elim (eqb_tells (source_of i m) n) [
  | inl here ↦ elim (eqb_tells (round_of plan m) r) [
    | inl now ↦ (here.1, now.1)
    | inr not_now ↦ absurd (let z = rw (here.0, not_now.0) at h in omega (arith, z))
  ]
  | inr not_here ↦ absurd (let z = rw not_here.0 at h in omega (arith, z))
]

-- what is above 0 where a test holds, and 0 elsewhere
if_positive : (b : Bool) (x : ℕ) → 0 < (if b then x else 0) → IsTrue b × (0 < x)
if_positive true x h = (refl, h)
if_positive false x h = absurd (omega (arith, h))

-- on each channel a frame with bytes has a message, whose frame fits there
pub frames_fit_lem : (i : Instance) (plan : Plan) (n r c : ℕ) → IsValid i plan → c < i.cluster.channels → load_on i plan n r c ≤ slice_index plan.caps n
frames_fit_lem i plan n r c v within = elim (cases_order (load_on i plan n r c) 0) [
  | inl none ↦ omega (arith, none)
  | inr other ↦ elim other [
    | inl below ↦ absurd (omega (arith, below))
    | inr above ↦
        let m = positive_term (bytes_on i plan n r c) (length i.messages) above in
        let on = if_positive (is_on c (channel_of plan m.0)) (bytes_in i plan n r m.0) m.2 in
        let there = sent_there i plan n r m.0 on.1 in
        rw there.0 at (rw there.1 at (v.frames m.0 m.1 c within on.0))
  ]
]

-- the greatest of one number more
pub greatest_more : (f : ℕ → ℕ) (count : ℕ) → greatest (map f (range_with_len 0 (count + 1))) ≡ max (greatest (map f (range_with_len 0 count))) (f count)
greatest_more f count = rw (map-range_with_len_more f 0 count count (omega arith)) (fold_push max 0 (map f (range_with_len 0 count)) (f count))

pub greatest_each : (f : ℕ → ℕ) (count : ℕ) → (p : ℕ) → p < count → f p ≤ greatest (map f (range_with_len 0 count))
greatest_each f zero p h = absurd (omega arith)
greatest_each f (suc count) p h =
    let more = rw add-one at (greatest_more f count) in
    elim (cases_order p count) [
      | inl is ↦ omega (arith, more, ap f is)
      | inr other ↦ elim other [ inl below ↦ omega (arith, more, greatest_each f count p below) | inr above ↦ absurd (omega (arith, above, h)) ]
    ]

pub greatest_reached : (f : ℕ → ℕ) (count : ℕ) → 0 < count → (p : ℕ) × (p < count) × (f p ≡ greatest (map f (range_with_len 0 count)))
greatest_reached f zero h = absurd (omega arith)
greatest_reached f (suc zero) h = (0, omega arith, omega (arith, greatest_more f 0))
greatest_reached f (suc (suc count)) h =
    let more = rw add-one at (greatest_more f (suc count)) in
    let rest = greatest_reached f (suc count) (omega arith) in
    elim (cases_order (f (suc count)) (f rest.0)) [
      | inl same ↦ (suc count, omega arith, omega (arith, more, same, rest.2))
      | inr other ↦ elim other [
        | inl below ↦ (rest.0, omega (arith, rest.1), omega (arith, more, below, rest.2))
        | inr above ↦ (suc count, omega arith, omega (arith, more, above, rest.2))
      ]
    ]

pub bound_is_none : (i : Instance) → IsInstance i → IsLowerBound i (i.cluster.horizon + 1) → HasNoPlan i
bound_is_none i w bound plan v =
    let last = greatest_reached (end_of i plan) (length i.processes) (omega (arith, w.limits.processes_least)) in
    omega (arith, bound plan v, last.2, (v.in_time last.0 last.1).1)

-- the delay of a valid plan is a time within the limits
pub delay-le : (i : Instance) (plan : Plan) → IsInstance i → IsValid i plan → delay i plan ≤ MOST_TICKS
delay-le i plan w v =
    let last = greatest_reached (end_of i plan) (length i.processes) (omega (arith, w.limits.processes_least)) in
    omega (arith, last.2, (v.in_time last.0 last.1).1, (w.ranges AtCluster).horizon)

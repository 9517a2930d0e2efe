-- The steps that leave no plan are sound: their premises don't hold where the facts are true of a sought plan.
use Rattle.std.proofs.Common.{◌≡◌, ℕ, zero, suc, ◌+◌, ◌-◌, ◌*◌, ◌<◌, ◌≤◌, true, List, length, slice_index, arith, refl, add-one}
use Rattle.std.proofs.lemmas.Bool.{and_from, eq-eqb}
use Rattle.std.proofs.Math.Nat.{mul-le-mul_left}
use Rattle.ttp_model.specs.declared.plan.Plan.{Plan}
use Rattle.ttp_model.specs.Instance.{Instance, message_at, source_of}
use Rattle.ttp_model.specs.Rules.{IsInstance}
use Rattle.ttp_model.specs.Lists.{EachBelow}
use Rattle.ttp_model.specs.Plans.{IsValid, start_of, round_of, channel_of, is_on, load_on, bytes_in, bytes_on}
use Rattle.tt_choice.specs.Choice.{Choice}
use Rattle.tt_choice.specs.Extremes.{cap_most}
use Rattle.tt_choice.proofs.Bounds.{capacity_between}
use Rattle.sought_plans.specs.Known.{Known, IsSought, AreTrueOf}
use Rattle.sought_plans.specs.Premises.{IsRing}
use Rattle.tt_infer.specs.Table.{IsProcess}
use Rattle.ttp_model.specs.declared.step.Step.TheVariants.{XWindow, XRound, XCycle, XLoad, XFrame, XFrames, XChannel}
use Rattle.ttp_model.proofs.Totals.{term_in_total}
use Rattle.ttp_model.proofs.Channels.{all_on, on_some_channel}
use Rattle.tt_infer.proofs.Soundness.{IsSoundFor}
use Rattle.tt_infer.proofs.Sending.{agrees, capacity_most}
use Rattle.tt_infer.proofs.Loads.{loads_fit, copies_fit, counted_fit}
use Rattle.tt_infer.proofs.Orders.{ahead_starts}

-- a process ends a whole run after it starts
pub x_window_sound : (i : Instance) (c : Choice) (goal : ℕ) (f : Known) (plan : Plan) (p : ℕ) → AreTrueOf i plan f → IsSoundFor i c goal f plan (XWindow p)
x_window_sound i c goal f plan p t k there premise is =
    let low = t.es p there in
    let high = t.le p there in
    absurd (omega (arith, low, high, premise))

-- a message is sent in some round
pub x_round_sound : (i : Instance) (c : Choice) (goal : ℕ) (f : Known) (plan : Plan) (m : ℕ) → AreTrueOf i plan f → IsSoundFor i c goal f plan (XRound m)
x_round_sound i c goal f plan m t k there premise is =
    let low = t.lo m there in
    let high = t.top m there in
    absurd (omega (arith, low, high, premise))

-- along a ring starts rise, so it doesn't close
rises : (i : Instance) (plan : Plan) (f : Known) (ps : List ℕ) → IsInstance i → IsValid i plan → AreTrueOf i plan f → EachBelow (length ps) (λ k. IsProcess i (slice_index ps k)) → IsRing i f ps → (k : ℕ) → k < length ps → start_of plan (slice_index ps 0) ≤ start_of plan (slice_index ps k)
rises i plan f ps w v t there ring zero h = omega arith
rises i plan f ps w v t there ring (suc k) h =
    let rest = rises i plan f ps w v t there ring k (omega arith) in
    let next = rw add-one at (ahead_starts i plan f (slice_index ps k) (slice_index ps (k + 1)) w v t (there k (omega arith)) (ring.each k (omega arith))) in
    omega (arith, rest, next)

pub x_cycle_sound : (i : Instance) (c : Choice) (goal : ℕ) (f : Known) (plan : Plan) (ps : List ℕ) → IsInstance i → IsValid i plan → AreTrueOf i plan f → IsSoundFor i c goal f plan (XCycle ps)
x_cycle_sound i c goal f plan ps w v t k there premise is =
    let some = there.0 in
    let up = rises i plan f ps w v t there.1 premise (length ps - 1) (omega (arith, some)) in
    let down = ahead_starts i plan f (slice_index ps (length ps - 1)) (slice_index ps 0) w v t (there.1 (length ps - 1) (omega (arith, some))) premise.closes in
    absurd (omega (arith, up, down))

-- processes of one node run one after another
pub x_load_sound : (i : Instance) (c : Choice) (goal : ℕ) (f : Known) (plan : Plan) (n a b : ℕ) → IsValid i plan → AreTrueOf i plan f → IsSoundFor i c goal f plan (XLoad n a b)
x_load_sound i c goal f plan n a b v t k there premise is =
    let fit = loads_fit i plan f n a b v t premise.span in
    absurd (omega (arith, fit, premise.span, premise.load))

-- the bytes of a message are in its frame on each channel that it is on
bytes_le : (i : Instance) (plan : Plan) (m channel : ℕ) → m < length i.messages → is_on channel (channel_of plan m) ≡ true
    → (message_at i m).bytes ≤ load_on i plan (source_of i m) (round_of plan m) channel
bytes_le i plan m channel h on =
    let term = term_in_total (bytes_on i plan (source_of i m) (round_of plan m) channel) (length i.messages) m h in
    let all = all_on i plan (source_of i m) (round_of plan m) channel m on in
    let own : bytes_in i plan (source_of i m) (round_of plan m) m ≡ (message_at i m).bytes = rw (and_from _ _ (eq-eqb (source_of i m) (source_of i m) refl) (eq-eqb (round_of plan m) (round_of plan m) refl)) refl in
    omega (arith, term, all, own)

-- a message is no larger than its frame, on whatever channel it is
pub x_frame_sound : (i : Instance) (c : Choice) (goal : ℕ) (f : Known) (plan : Plan) (m : ℕ) → IsInstance i → IsSought i c goal plan → IsSoundFor i c goal f plan (XFrame m)
x_frame_sound i c goal f plan m w sought k there premise is =
    let place = on_some_channel i plan m w sought.settled.valid there in
    let own = bytes_le i plan m place.0 there place.2 in
    let fit = sought.settled.valid.frames m there place.0 place.1 place.2 in
    let capacity = capacity_most i c goal plan m w sought there in
    absurd (omega (arith, own, fit, capacity, premise))

-- a node has a frame a round, on each channel a half of it
more_room : (channels rounds low high : ℕ) → low ≤ high → channels * (rounds * low) ≤ channels * (rounds * high)
more_room channels rounds low high le = mul-le-mul_left channels (mul-le-mul_left rounds le)

pub x_frames_sound : (i : Instance) (c : Choice) (goal : ℕ) (f : Known) (plan : Plan) (n a b : ℕ) → IsInstance i → IsSought i c goal plan → AreTrueOf i plan f → IsSoundFor i c goal f plan (XFrames n a b)
x_frames_sound i c goal f plan n a b w sought t k there premise is =
    let capacity = (capacity_between i c plan.order plan.caps n w (agrees i c plan sought.settled.valid sought.chosen) there).1 in
    let fit = copies_fit i c plan f n a b sought.settled.valid sought.chosen t w premise.span in
    absurd (omega (arith, fit, more_room i.cluster.channels (b - a) (slice_index plan.caps n) (cap_most i c n) capacity, premise.bytes))

pub x_channel_sound : (i : Instance) (c : Choice) (goal : ℕ) (f : Known) (plan : Plan) (channel n a b : ℕ) → IsInstance i → IsSought i c goal plan → AreTrueOf i plan f → IsSoundFor i c goal f plan (XChannel channel n a b)
x_channel_sound i c goal f plan channel n a b w sought t k there premise is =
    let capacity = (capacity_between i c plan.order plan.caps n w (agrees i c plan sought.settled.valid sought.chosen) there.0).1 in
    let fit = counted_fit i c plan f n a b sought.settled.valid sought.chosen t channel there.1.1 premise.span in
    absurd (omega (arith, fit, mul-le-mul_left (b - a) capacity, premise.bytes))

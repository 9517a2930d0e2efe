-- Too much in an interval is what a closer asks for, and no plan is left where it has it.
use Rattle.std.proofs.Common.{ℕ, ◌-◌, ◌*◌, ◌<◌, ◌≤◌, List, length, arith, refl, subst, sym, inl, inr, Option, Some, None, IsSome}
use Rattle.std.proofs.lemmas.Bool.{false≢true}
use Rattle.std.proofs.Math.Nat.{mul_left_comm}
use Rattle.ttp_model.specs.declared.step.Step.{Step}
use Rattle.ttp_model.specs.declared.step.Step.TheVariants.{XLoad, XFrames, XChannel}
use Rattle.tt_choice.specs.Extremes.{cap_most}
use Rattle.tt_infer.specs.Conclusions.{NothingLeft, sharpened}
use Rattle.tt_infer.specs.Facts.{Facts, AreFacts}
use Rattle.tt_infer.specs.Known.{IsSought}
use Rattle.tt_infer.proofs.Sound.{step_is_true}
use Rattle.ttp_model.specs.declared.plan.Plan.{Plan}
use Rattle.load_bounds.specs.declared.demands.Demand.{Demand}
use Rattle.load_bounds.specs.Within.{IsExcess}
use Rattle.load_bounds.specs.Gathered.{AreRuns, AreSendings, AreSendingsOn}
use Rattle.load_bounds.specs.Loads.{IsLawfulNow, IsWholeLoad, IsChannelLoad, IsFrameLoad}

pub load_is_lawful : (s : Facts) (n a b : ℕ) (ds : List Demand) → n < length s.instance.nodes → AreRuns s.instance s.known n (length s.instance.processes) ds → IsExcess 1 ds a b → IsLawfulNow s (XLoad n a b)
load_is_lawful s n a b ds there runs e =
    let same = runs a b in
    let excess = e.excess in
    record {
      after = sharpened s.instance s.known NothingLeft;
      lawful = record {
        there = there;
        premise = record { span = e.interval; load = omega (arith, same, excess) };
        conclusion = NothingLeft;
        concludes = refl;
        known = refl;
      };
    }

pub no_lawful_load : (s : Facts) (n : ℕ) (ds : List Demand) → AreRuns s.instance s.known n (length s.instance.processes) ds → ((a b : ℕ) → ¬ IsExcess 1 ds a b) → (a b : ℕ) → ¬ IsLawfulNow s (XLoad n a b)
no_lawful_load s n ds runs none a b h =
    let same = runs a b in
    let load = h.lawful.premise.load in
    none a b (record { interval = h.lawful.premise.span; excess = omega (arith, same, load) })

-- the room of all channels, each with its frames
room_of_all : (channels span cap bytes : ℕ) → span * (channels * cap) < bytes → channels * (span * cap) < bytes
room_of_all channels span cap bytes more = subst (λ (room : ℕ). room < bytes) (sym (mul_left_comm channels span cap)) more

room_of_each : (channels span cap bytes : ℕ) → channels * (span * cap) < bytes → span * (channels * cap) < bytes
room_of_each channels span cap bytes more = subst (λ (room : ℕ). room < bytes) (mul_left_comm channels span cap) more

pub frames_are_lawful : (s : Facts) (n a b : ℕ) (ds : List Demand) → n < length s.instance.nodes → AreSendings s.instance s.choice s.known n (length s.instance.messages) ds → IsExcess (s.instance.cluster.channels * cap_most s.instance s.choice n) ds a b → IsLawfulNow s (XFrames n a b)
frames_are_lawful s n a b ds there sendings e =
    record {
      after = sharpened s.instance s.known NothingLeft;
      lawful = record {
        there = there;
        premise = record {
          span = e.interval;
          bytes = room_of_all s.instance.cluster.channels (b - a) (cap_most s.instance s.choice n) _ (subst (λ (bytes : ℕ). (b - a) * (s.instance.cluster.channels * cap_most s.instance s.choice n) < bytes) (sendings a b) e.excess);
        };
        conclusion = NothingLeft;
        concludes = refl;
        known = refl;
      };
    }

pub no_lawful_frames : (s : Facts) (n : ℕ) (ds : List Demand) → AreSendings s.instance s.choice s.known n (length s.instance.messages) ds → ((a b : ℕ) → ¬ IsExcess (s.instance.cluster.channels * cap_most s.instance s.choice n) ds a b) → (a b : ℕ) → ¬ IsLawfulNow s (XFrames n a b)
no_lawful_frames s n ds sendings none a b h =
    none a b (record {
      interval = h.lawful.premise.span;
      excess = subst (λ (bytes : ℕ). (b - a) * (s.instance.cluster.channels * cap_most s.instance s.choice n) < bytes) (sym (sendings a b)) (room_of_each s.instance.cluster.channels (b - a) (cap_most s.instance s.choice n) _ h.lawful.premise.bytes);
    })

pub channel_is_lawful : (s : Facts) (k n a b : ℕ) (ds : List Demand) → n < length s.instance.nodes → 2 ≤ s.instance.cluster.channels → k < s.instance.cluster.channels → AreSendingsOn s.instance s.choice s.known k n (length s.instance.messages) ds → IsExcess (cap_most s.instance s.choice n) ds a b → IsLawfulNow s (XChannel k n a b)
channel_is_lawful s k n a b ds there two channel sendings e =
    let same = sendings a b in
    let excess = e.excess in
    record {
      after = sharpened s.instance s.known NothingLeft;
      lawful = record {
        there = (there, (two, channel));
        premise = record { span = e.interval; bytes = omega (arith, same, excess) };
        conclusion = NothingLeft;
        concludes = refl;
        known = refl;
      };
    }

pub no_lawful_channel : (s : Facts) (k n : ℕ) (ds : List Demand) → AreSendingsOn s.instance s.choice s.known k n (length s.instance.messages) ds → ((a b : ℕ) → ¬ IsExcess (cap_most s.instance s.choice n) ds a b) → (a b : ℕ) → ¬ IsLawfulNow s (XChannel k n a b)
no_lawful_channel s k n ds sendings none a b h =
    let same = sendings a b in
    let bytes = h.lawful.premise.bytes in
    none a b (record { interval = h.lawful.premise.span; excess = omega (arith, same, bytes) })

-- there is no closer of a channel that isn't there, of any where there is one alone
pub no_closer_past : (s : Facts) (k n a b : ℕ) → s.instance.cluster.channels ≤ k → ¬ IsLawfulNow s (XChannel k n a b)
no_closer_past s k n a b past h =
    let there = h.lawful.there.1.1 in
    omega (arith, past, there)

pub no_closer_alone : (s : Facts) (k n a b : ℕ) → s.instance.cluster.channels < 2 → ¬ IsLawfulNow s (XChannel k n a b)
no_closer_alone s k n a b alone h =
    let two = h.lawful.there.1.0 in
    omega (arith, alone, two)

-- nor of a node that isn't there
pub no_frames_past : (s : Facts) (n a b : ℕ) → length s.instance.nodes ≤ n → ¬ IsLawfulNow s (XFrames n a b)
no_frames_past s n a b past h =
    let there = h.lawful.there in
    omega (arith, past, there)

pub no_channel_past : (s : Facts) (k n a b : ℕ) → length s.instance.nodes ≤ n → ¬ IsLawfulNow s (XChannel k n a b)
no_channel_past s k n a b past h =
    let there = h.lawful.there.0 in
    omega (arith, past, there)

pub load_leaves_none : (s : Facts) (n a b : ℕ) → AreFacts s → IsLawfulNow s (XLoad n a b) → (plan : Plan) → ¬ IsSought s.instance s.choice s.goal plan
load_leaves_none s n a b holds h plan sought = step_is_true s.instance s.choice s.goal s.known plan (XLoad n a b) holds.instance holds.choice sought (holds.holds plan sought) NothingLeft h.lawful.there h.lawful.premise refl

pub frames_leave_none : (s : Facts) (n a b : ℕ) → AreFacts s → IsLawfulNow s (XFrames n a b) → (plan : Plan) → ¬ IsSought s.instance s.choice s.goal plan
frames_leave_none s n a b holds h plan sought = step_is_true s.instance s.choice s.goal s.known plan (XFrames n a b) holds.instance holds.choice sought (holds.holds plan sought) NothingLeft h.lawful.there h.lawful.premise refl

pub channel_leaves_none : (s : Facts) (k n a b : ℕ) → AreFacts s → IsLawfulNow s (XChannel k n a b) → (plan : Plan) → ¬ IsSought s.instance s.choice s.goal plan
channel_leaves_none s k n a b holds h plan sought = step_is_true s.instance s.choice s.goal s.known plan (XChannel k n a b) holds.instance holds.choice sought (holds.holds plan sought) NothingLeft h.lawful.there h.lawful.premise refl

-- where no channel has a closer, the answer is what is found of all of them
pub with_no_channel : (s : Facts) (n : ℕ) (answer : Option Step) → IsChannelLoad s n None → IsWholeLoad s n answer → IsFrameLoad s n answer
with_no_channel s n None none whole = (none, whole)
with_no_channel s n (Some step) none whole = inr whole

-- what is answered leaves no plan
pub load_leaves : (s : Facts) (n : ℕ) (answer : Option Step) → AreFacts s → IsFrameLoad s n answer → IsSome answer → (plan : Plan) → ¬ IsSought s.instance s.choice s.goal plan
load_leaves s n None holds is some = absurd (false≢true some)
load_leaves s n (Some step) holds is some = elim is [
  | inl one ↦ channel_leaves_none s one.0 n one.1.0 one.1.1.0 holds (subst (IsLawfulNow s) one.1.1.1.0 one.1.1.1.1)
  | inr whole ↦ frames_leave_none s n whole.0 whole.1.0 holds (subst (IsLawfulNow s) whole.1.1.0 whole.1.1.1)
]

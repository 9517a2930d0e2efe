-- A valid plan has a text.
use Rattle.std.proofs.Common.{◌<◌, ◌≤◌, ◌^◌, ◌≡◌, ℕ, length, replicate, sym, ◌∙◌, arith}
use Rattle.std.proofs.lemmas.Grind.{same_number_lists}
use Rattle.std.proofs.lemmas.List.{length-replicate, get_or-replicate}
use Rattle.std.proofs.lemmas.List.Elements.{All-weaker}
use Rattle.ttp_model.specs.declared.limits.TheConstants.{MOST_BYTES}
use Rattle.ttp_model.specs.declared.plan.Plan.{Plan}
use Rattle.ttp_model.specs.declared.error.Place.TheVariants.{AtCluster}
use Rattle.ttp_model.specs.Instance.{Instance}
use Rattle.ttp_model.specs.Rules.{IsInstance}
use Rattle.ttp_model.specs.Plans.{IsValid}
use Rattle.ttp_model.specs.Delays.{delay}
use Rattle.ttp_model.proofs.PlanNumbers.{capacities_small, starts_small, rounds_small, channels_small, delay_small}
use Rattle.plan_format.specs.Channels.{CanBeTold}
use Rattle.plan_format.specs.Spelling.{HasText}

all_on_it : (i : Instance) (plan : Plan) → IsValid i plan → i.cluster.channels ≡ 1 → plan.channels ≡ replicate (length i.messages) 0
all_on_it i plan v single =
    let count = length-replicate {A = ℕ} (length i.messages) 0 in
    same_number_lists plan.channels (replicate (length i.messages) 0) (v.lengths.channels ∙ sym count) (λ m inside.
    let there : m < length i.messages = omega (arith, inside, v.lengths.channels) in
    (v.on_own m there).alone single ∙ sym (get_or-replicate {A = ℕ} (length i.messages) m 0 0 there))

-- its channels can be told
told_of_valid : (i : Instance) (plan : Plan) → IsValid i plan → CanBeTold i plan.channels
told_of_valid i plan v = record { one = all_on_it i plan v; two = λ _. channels_small i plan v }

pub HasText-from_valid : (i : Instance) (plan : Plan) → IsInstance i → IsValid i plan → HasText i plan (delay i plan)
HasText-from_valid i plan w v =
    let horizon = (w.ranges AtCluster).horizon in
    record {
      lengths = v.lengths;
      order = v.order;
      caps = All-weaker (λ n. n ≤ MOST_BYTES) (λ n. n < 2 ^ 32) (λ n le. omega arith) plan.caps (capacities_small i plan w v);
      starts = All-weaker (λ n. n < i.cluster.horizon) (λ n. n < 2 ^ 32) (λ n lt. omega (arith, horizon)) plan.starts (starts_small i plan w v);
      rounds = All-weaker (λ n. n < i.cluster.horizon) (λ n. n < 2 ^ 32) (λ n lt. omega (arith, horizon)) plan.rounds (rounds_small i plan w v);
      channels = told_of_valid i plan v;
      stated = omega (arith, horizon, delay_small i plan w v);
    }

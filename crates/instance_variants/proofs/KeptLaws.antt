-- What kept constraints make of an instance and of its plans.
use Rattle.std.proofs.Common.{length, map, arith, sym, ◌∙◌}
use Rattle.std.specs.List.{range_with_len}
use Rattle.std.proofs.lemmas.List.{get_or-map, length-map}
use Rattle.std.proofs.lemmas.List.FromFn.{length-map-range_with_len, get_or-map-range_with_len}
use Rattle.ttp_model.specs.declared.plan.Plan.{Plan}
use Rattle.ttp_model.specs.Instance.{Instance}
use Rattle.ttp_model.specs.Rules.{IsInstance}
use Rattle.ttp_model.specs.Plans.{IsValid, round_of, channel_of}
use Rattle.ttp_model.specs.Delays.{HasNoPlan}
use Rattle.instance_variants.specs.declared.kept.constraints.Constraints.{Constraints}
use Rattle.instance_variants.specs.Only.{kept_messages, only, plan_with}
use Rattle.instance_variants.specs.Fewer.{AreAmong, HasPlan}
use Rattle.instance_variants.specs.Variants.{Variant, AreSentAlike}
use Rattle.instance_variants.proofs.Looser.{rules_looser, valid_looser}
use Rattle.instance_variants.proofs.KeptVariants.{kept, kept_is_looser, messages_many}
use Rattle.instance_variants.proofs.Fewer.{kept_of, fewer_is_looser}

pub rules_kept : (i : Instance) (K : Constraints) → IsInstance i → IsInstance (only i K)
rules_kept i K good = rules_looser i (kept i K) (kept_is_looser i K good) good

-- rounds and channels that a plan has for messages at other places
sent_alike : (w : Variant) (plan : Plan) → AreSentAlike w plan (map (λ m. round_of plan (w.message_place m)) (range_with_len 0 (length w.messages)))
    (map (λ m. channel_of plan (w.message_place m)) (range_with_len 0 (length w.messages)))
sent_alike w plan = record {
  rounds_many = length-map-range_with_len (λ m. round_of plan (w.message_place m)) 0 (length w.messages);
  channels_many = length-map-range_with_len (λ m. channel_of plan (w.message_place m)) 0 (length w.messages);
  round = λ m inside. get_or-map-range_with_len (λ m. round_of plan (w.message_place m)) 0 (length w.messages) m m 0 inside (omega arith);
  channel = λ m inside. get_or-map-range_with_len (λ m. channel_of plan (w.message_place m)) 0 (length w.messages) m m 0 inside (omega arith);
}

pub plan_kept : (i : Instance) (K : Constraints) (plan : Plan) → IsInstance i → IsValid i plan → IsValid (only i K) (plan_with i K plan)
plan_kept i K plan good valid =
    let many = messages_many i K in
    valid_looser i (kept i K) (kept_is_looser i K good) plan (map (round_of plan) (kept_messages i K)) (map (channel_of plan) (kept_messages i K)) (record {
      rounds_many = length-map (kept_messages i K) (round_of plan) ∙ sym many;
      channels_many = length-map (kept_messages i K) (channel_of plan) ∙ sym many;
      round = λ m inside. get_or-map (round_of plan) (kept_messages i K) m 0 0 (omega (arith, inside, many));
      channel = λ m inside. get_or-map (channel_of plan) (kept_messages i K) m 0 0 (omega (arith, inside, many));
    }) valid

pub no_plan_left : (i : Instance) (K : Constraints) → IsInstance i → HasNoPlan (only i K) → HasNoPlan i
no_plan_left i K good none plan valid = none (plan_with i K plan) (plan_kept i K plan good valid)

pub plan_by_fewer : (i : Instance) (fewer more : Constraints) → IsInstance i → AreAmong fewer more → HasPlan (only i more) → HasPlan (only i fewer)
plan_by_fewer i fewer more good among has =
    let w = kept_of i fewer more in
    let rounds = map (λ m. round_of has.plan (w.message_place m)) (range_with_len 0 (length w.messages)) in
    let channels = map (λ m. channel_of has.plan (w.message_place m)) (range_with_len 0 (length w.messages)) in
    record {
      plan = record has.plan { rounds = rounds; channels = channels };
      valid = valid_looser (only i more) w (fewer_is_looser i fewer more good among) has.plan rounds channels (sent_alike w has.plan) has.valid;
    }

pub no_plan_by_more : (i : Instance) (fewer more : Constraints) → IsInstance i → AreAmong fewer more → HasNoPlan (only i fewer) → HasNoPlan (only i more)
no_plan_by_more i fewer more good among none plan valid =
    let has = plan_by_fewer i fewer more good among (record { plan = plan; valid = valid }) in
    none has.plan has.valid

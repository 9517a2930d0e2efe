use Rattle.tt_choice.proofs.kept.Law.{kept_are_open, kept_is_outside, kept_least, kept_greatest, kept_order, kept_least_frame, kept_greatest_frame, kept_passes, kept_least_slot, kept_greatest_slot}
use Rattle.tt_choice.proofs.laws.kept_decisions_say_alike.Goals as goal

pub returns : goal.returns
returns c = record {
  are_open = kept_are_open;
  inside = kept_is_outside;
  least = kept_least;
  greatest = kept_greatest;
  orders = kept_order;
  least_frame = kept_least_frame;
  greatest_frame = kept_greatest_frame;
  channels = kept_passes;
  least_slot = kept_least_slot;
  greatest_slot = kept_greatest_slot;
}

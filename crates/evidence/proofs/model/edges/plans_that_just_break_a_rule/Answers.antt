use Rattle.evidence.proofs.JustValid.{a_round_too_many, a_node_twice, between_options, before_its_release, past_its_deadline, past_the_horizon, overlap_by_a_tick, first_overlaps_last, against_the_link, copied_out_late, second_receiver_early, copied_in_late, two_in_one_frame, a_channel_too_many, on_another_channel}
use Rattle.evidence.proofs.model.edges.plans_that_just_break_a_rule.Goals as goal

pub returns : goal.returns
returns c = record {
  lengths = a_round_too_many;
  order = a_node_twice;
  capacities = between_options;
  released = before_its_release;
  deadline = past_its_deadline;
  horizon = past_the_horizon;
  apart = overlap_by_a_tick;
  apart_from_last = first_overlaps_last;
  linked = against_the_link;
  ready = copied_out_late;
  arrived = second_receiver_early;
  copied_in = copied_in_late;
  in_one_frame = two_in_one_frame;
  channels = a_channel_too_many;
  on_own = on_another_channel;
}

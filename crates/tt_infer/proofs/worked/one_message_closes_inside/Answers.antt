use Rattle.ttp_model.specs.Worked.{one_message}
use Rattle.tt_choice.specs.Branches.{root_choice}
use Rattle.tt_choice.proofs.Inside.{IsInside-place}
use Rattle.tt_infer.proofs.InsideExample.{closes_inside_at_8, three_lead_at_9, third_is_refused, closes_inside_at_3}
use Rattle.tt_infer.proofs.worked.one_message_closes_inside.Goals as goal

pub returns : goal.returns
returns c = record {
  inside = IsInside-place one_message (root_choice one_message) 1;
  at_8 = closes_inside_at_8;
  leads = three_lead_at_9;
  refused = third_is_refused;
  at_3 = closes_inside_at_3;
}

use Rattle.std.proofs.Common.{refl, inr}
use Rattle.tt_infer.proofs.OneMessageRules.{one_message_is_instance}
use Rattle.search_core.proofs.OneMessage.{found, honest, runs, right, bounds, least}
use Rattle.search_core.proofs.worked.one_message_is_searched.Goals as goal

pub returns : goal.returns
returns c = record {
  instance = one_message_is_instance;
  top = inr found;
  honest = honest;
  runs = runs;
  none_open = refl;
  known = refl;
  right = right;
  bounds = bounds;
  least = least;
}

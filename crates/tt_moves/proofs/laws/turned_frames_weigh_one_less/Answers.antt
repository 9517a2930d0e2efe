use Rattle.ttp_model.proofs.TurnedFrames.{one_less_turned}
use Rattle.tt_moves.proofs.laws.turned_frames_weigh_one_less.Goals as goal

pub returns-clause-frames : goal.returns-clause-frames
returns-clause-frames c = one_less_turned

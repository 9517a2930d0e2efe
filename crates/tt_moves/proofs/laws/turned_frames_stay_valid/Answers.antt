use Rattle.tt_moves.proofs.TurnedFrames.{turned_valid}
use Rattle.tt_moves.proofs.laws.turned_frames_stay_valid.Goals as goal

pub returns : goal.returns
returns c = turned_valid

use Rattle.plan_cycles.proofs.Behind.{behind_frames}
use Rattle.plan_cycles.proofs.laws.processes_start_behind_frames.Goals as goal

pub returns : goal.returns
returns c = behind_frames

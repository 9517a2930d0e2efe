use Rattle.tt_infer.proofs.Rows.{target_is}
use Rattle.tt_infer.proofs.SameGiven.{gives_alike}
use Rattle.tt_infer.proofs.shared.Logs.{leaf_shared}
use Rattle.tt_infer.proofs.shared.Uses.{leaf_kept}
use Rattle.tt_infer.proofs.read_laws.steps_rest_on_what_they_read.Goals as goal

pub returns : goal.returns
returns c = record { writes = target_is; same = gives_alike; leaves = leaf_shared; used = leaf_kept }

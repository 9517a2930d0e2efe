use Rattle.std.proofs.lemmas.Result.{IfOk-weaker}
use Rattle.search_trees.proofs.Gathered.{gathered_allows}
use Rattle.evidence.proofs.ChannelLines.{first_version_speaks_of_none}
use Rattle.evidence.proofs.commands.certificates.gathered_first_version_has_no_channels.Goals as goal

pub returns : goal.returns
returns c =
    IfOk-weaker c.gather.result _ _
    (λ cert is. first_version_speaks_of_none cert (gathered_allows c.args.low c.args.pieces.items cert is)) c.gather.ensures.ok

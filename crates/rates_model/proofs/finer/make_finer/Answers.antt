use Rattle.std.proofs.Common.{◌∙◌}
use Rattle.rates_model.specs.Parts.{rates_of}
use Rattle.rates_model.proofs.FinerParts.{for_round, without_round}
use Rattle.rates_model.proofs.finer.make_finer.Goals as goal

pub returns-in-None : goal.returns-in-None
returns-in-None c = without_round (rates_of c.args.parts.now) c.in-None.is

pub returns-in-Some : goal.returns-in-Some
returns-in-Some c = c.share_rest.ensures ∙ for_round (rates_of c.args.parts.now) c.in-Some.round c.in-Some.is

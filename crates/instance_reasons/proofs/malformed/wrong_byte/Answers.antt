use Rattle.std.proofs.Common.{refl}
use Rattle.instance_reasons.proofs.malformed.wrong_byte.Goals as goal

pub returns : goal.returns
returns c = (c.args.k, refl, c.requires, refl, c.in_ok-instead.ensures)

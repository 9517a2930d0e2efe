use Rattle.std.proofs.Common.{rules}
use Rattle.std.proofs.lemmas.List.{with_items_is, places}
use Rattle.certificate.proofs.block.read_over.Goals as goal

pub returns-in-Ok-clause-taken : goal.returns-in-Ok-clause-taken
returns-in-Ok-clause-taken g c = rw (with_items_is c.args.bytes.now c.read.new.buf (search (rules, places))) c.in-Ok.ensures.bytes.0

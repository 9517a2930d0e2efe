use Rattle.std.proofs.Common.{take, arith}
use Rattle.std.proofs.lemmas.List.{length-take-le}
use Rattle.certificate.proofs.Blocks.{from_more}
use Rattle.certificate.proofs.block.Block.refill.Goals as goal

pub returns-then-self-gt-MOST_TEXT_BYTES-2-clause-from : goal.returns-then-self-gt-MOST_TEXT_BYTES-2-clause-from
returns-then-self-gt-MOST_TEXT_BYTES-2-clause-from g c all from =
    from_more (g.R.Read.remaining c.args.reader.now) (g.R.Read.remaining c.read_over.new.reader) (take c.in_ok-count.count c.read_over.new.bytes.items) c.args.self.now.taken c.in_ok-count.count all
    c.in_ok-count.ensures.taken
    (length-take-le c.in_ok-count.count c.read_over.new.bytes.items (omega (arith, c.in_ok-count.ensures.within, c.read_over.new.bytes.ok.0)))
    from

pub returns-clause-from : goal.returns-clause-from
returns-clause-from g c all from =
    from_more (g.R.Read.remaining c.args.reader.now) (g.R.Read.remaining c.read_over.new.reader) (take c.in_ok-count.count c.read_over.new.bytes.items) c.args.self.now.taken c.in_ok-count.count all
    c.in_ok-count.ensures.taken
    (length-take-le c.in_ok-count.count c.read_over.new.bytes.items (omega (arith, c.in_ok-count.ensures.within, c.read_over.new.bytes.ok.0)))
    from

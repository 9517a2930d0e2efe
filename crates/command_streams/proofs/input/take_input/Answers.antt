use Rattle.std.proofs.Common.{arith, ◌++◌, take}
use Rattle.std.proofs.lemmas.Grind.{common_steps}
use Rattle.command_streams.proofs.Consumed.{Consumes-more}
use Rattle.command_streams.proofs.input.take_input.Goals as goal

pub returns-in_err-extend_from_slice-in-Ok-clause-most : goal.returns-in_err-extend_from_slice-in-Ok-clause-most
returns-in_err-extend_from_slice-in-Ok-clause-most g c = record {
  bytes = c.reads.bytes.items ++ take c.in-Ok.n c.read.new.buf;
  few = grind (arith, common_steps);
  taken = Consumes-more _ _ _ _ _ c.reads.invariant.1 c.in-Ok.ensures.bytes.0;
}

use Rattle.std.proofs.Common.{IfErr, IfOk}
use Rattle.explain_command.specs.Explained.{IsUntold}
use Rattle.explain_command.specs.Instances.{IsStatedOf}
use Rattle.explain_command.proofs.Told.{said_of_reader}
use Rattle.explain_command.proofs.explaining.stated_of_reader.Goals as goal

pub returns-clause-ok : goal.returns-clause-ok
returns-clause-ok g c =
    said_of_reader (λ p told. IfOk told (IsStatedOf p)) _ c.in_ok-bytes.bytes.items _
    c.in_ok-bytes.ensures.read (rw c.as_slice.ensures.value at c.stated_of_bytes.ensures.ok)

pub returns-clause-err : goal.returns-clause-err
returns-clause-err g c =
    said_of_reader (λ p told. IfErr told (IsUntold p)) _ c.in_ok-bytes.bytes.items _
    c.in_ok-bytes.ensures.read (rw c.as_slice.ensures.value at c.stated_of_bytes.ensures.err)

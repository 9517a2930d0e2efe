use Rattle.std.proofs.Common.{◌≡◌, ◌^◌, false, nat_lt, refl, arith}
use Rattle.std.proofs.lemmas.Bool.Decides.{nat_tests}
use Rattle.instance_text.specs.declared.error.TextError.TheVariants.{OutOfRange}
use Rattle.instance_text.specs.declared.error.Place.TheVariants.{Cluster}
use Rattle.instance_text.specs.declared.error.Key.TheVariants.{Precision}
use Rattle.evidence.proofs.FirstFault.{first_fault}
use Rattle.evidence.proofs.model.texts.precision_past_32_bits.Goals as goal

pub returns : goal.returns
returns c = λ table tables n large document reads cluster.
    let past : nat_lt n (2 ^ 32) ≡ false = grind (arith, nat_tests) in
    first_fault _ table (OutOfRange Cluster Precision) document (rw (reads, cluster, past) refl) _ c.read.ensures.ok c.read.ensures.err

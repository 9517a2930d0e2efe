-- A certificate's fault that is no want of memory.
use Rattle.std.proofs.Common.{◌≡◌, ◌≢◌, refl}
use Rattle.command_streams.specs.Endings.{fault_status}
use Rattle.command_streams.specs.declared.ending.Fault.TheVariants.{Certificate}
use Rattle.tree_check.specs.declared.fault.CertFault.{CertFault}
use Rattle.tree_check.specs.declared.fault.CertFault.TheVariants.{At, LowTooGreat, OutOfMemory}

pub no_memory : (wrong : CertFault) → wrong ≢ OutOfMemory → fault_status (Certificate wrong) ≡ 5
no_memory LowTooGreat other = refl
no_memory (At line fault) other = refl
no_memory OutOfMemory other = absurd (other refl)

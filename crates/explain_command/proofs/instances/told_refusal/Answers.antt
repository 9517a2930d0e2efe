use Rattle.std.proofs.Common.{◌≡◌, arith}
use Rattle.command_streams.specs.Endings.{fault_status}
use Rattle.command_streams.specs.declared.ending.Fault.TheVariants as fault
use Rattle.instance_text.specs.declared.error.TextError.{TextError}
use Rattle.instance_text.specs.declared.error.TextError.TheVariants.{OutOfMemory}
use Rattle.explain_command.proofs.instances.told_refusal.Goals as goal

-- want of memory has another status
says_something : (e : TextError) → fault_status (fault.InstanceText e) ≡ 3 → e ≡ OutOfMemory → ⊥
says_something e status is =
    let other : fault_status (fault.InstanceText OutOfMemory) ≡ 3 = rw is at status in
    absurd (omega (arith, other))

pub reread-requires-clause-first : goal.reread-requires-clause-first
reread-requires-clause-first c = c.requires.first.1

pub reread-requires-clause-other : goal.reread-requires-clause-other
reread-requires-clause-other c = says_something c.args.wrong c.requires.status

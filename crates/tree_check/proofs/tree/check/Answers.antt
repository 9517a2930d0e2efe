use Rattle.std.proofs.Common.{◌≤◌, ◌+◌, ap, Err}
use Rattle.tree_check.proofs.Bounds.{proved_bound, proved_none}
use Rattle.tree_check.proofs.NoFaults.{only_memory}
use Rattle.tree_check.proofs.tree.check.Goals as goal

pub returns-in-Ok-clause-bound : goal.returns-in-Ok-clause-bound
returns-in-Ok-clause-bound c =
    let i = c.args.instance.now in
    let cert = c.args.cert.now in
    let within : cert.low ≤ i.cluster.horizon + 1 = rw (c.low.ensures, c.past_horizon.ensures.value) at c.if-low-past_horizon.false in
    rw c.low-in-Ok.ensures (proved_bound i cert c.past_horizon.ensures.instance (record { low = within; tree = c.in-Ok.ensures.ok }))

pub returns-in-Ok-clause-none : goal.returns-in-Ok-clause-none
returns-in-Ok-clause-none c = λ past.
    let i = c.args.instance.now in
    let cert = c.args.cert.now in
    let within : cert.low ≤ i.cluster.horizon + 1 = rw (c.low.ensures, c.past_horizon.ensures.value) at c.if-low-past_horizon.false in
    proved_none i cert c.past_horizon.ensures.instance (record { low = within; tree = c.in-Ok.ensures.ok }) (rw c.low-in-Ok.ensures at past)

pub returns-in-Err-clause-only : goal.returns-in-Err-clause-only
returns-in-Err-clause-only c =
    λ proves other. absurd (other (ap Err (only_memory c.args.instance.now c.args.cert.now c.in-Err.fault proves c.in-Err.ensures.err)))

use Rattle.certificate_reasons.proofs.Judged.{told_exactly}
use Rattle.certificate_reasons.proofs.certs.no_proof.Goals as goal

pub great_low-requires : goal.great_low-requires
great_low-requires c = rw c.low.ensures (rw c.in-LowTooGreat.is at c.requires.judged)

pub tree_reason-requires-clause-first : goal.tree_reason-requires-clause-first
tree_reason-requires-clause-first c =
    let judged = rw c.in-At.is at c.requires.judged in
    told_exactly c.args.instance.now c.args.cert.now c.in-At.line judged.1.0 c.in-At.fault c.requires.few judged.1.1 judged.1.2

pub returns-in-LowTooGreat : goal.returns-in-LowTooGreat
returns-in-LowTooGreat c = rw c.in-LowTooGreat.is (rw c.low.ensures at c.great_low.ensures)

pub returns-in_ok-reason-in-At : goal.returns-in_ok-reason-in-At
returns-in_ok-reason-in-At c = rw c.in-At.is c.in_ok-reason-in-At.ensures

pub unreachable-requires : goal.unreachable-requires
unreachable-requires c = c.requires.told c.in-OutOfMemory.is

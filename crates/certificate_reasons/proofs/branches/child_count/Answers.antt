-- Two kinds have a count of their own, and a branch of another kind has just the count of its kind.
use Rattle.std.proofs.Common.{inl, inr, refl}
use Rattle.certificate_reasons.proofs.branches.child_count.Goals as goal

pub capacity_count-requires : goal.capacity_count-requires
capacity_count-requires c = (rw c.in-Cap.is at c.requires).1.0

pub returns-in-Place : goal.returns-in-Place
returns-in-Place c = rw c.in-Place.is refl

pub returns-in-Cap : goal.returns-in-Cap
returns-in-Cap c = rw c.in-Cap.is c.capacity_count.ensures

pub unreachable-requires : goal.unreachable-requires
unreachable-requires c = elim c.in-Pair.is [
  | inl pair ↦ (rw pair.2 at c.requires).2 (rw pair.2 at c.args.branch.now.own)
  | inr (inl round) ↦ (rw round.2 at c.requires).2 (rw round.2 at c.args.branch.now.own)
  | inr (inr chan) ↦ (rw chan.1 at c.requires).2 (rw chan.1 at c.args.branch.now.own)
]

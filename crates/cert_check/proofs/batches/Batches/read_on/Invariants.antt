use Rattle.std.proofs.Common.{◌≡◌, ◌<◌, ◌≤◌, ◌++◌, ℕ, List, length}
use Rattle.certificate.specs.declared.stream.CertStream.{CertStream}
use Rattle.cert_check.specs.declared.leaves.HeldLeaf.{HeldLeaf}
use Rattle.cert_check.specs.UnderWay.{Stands, to_come}
use Rattle.cert_check.proofs.batches.Batches.read_on.Given as goal

abbrev pub invariant-nodes : goal.invariant-nodes
invariant-nodes g l = record {
  stands : (low : ℕ) (first : CertStream g.row.R.Denot) (front : List HeldLeaf)
      → Stands l.instance low g.R.Read.remaining first l.fn.stream l.fn.self.walk (front ++ l.fn.self.held.leaves.items) l.fn.self.ahead
      → Stands l.instance low g.R.Read.remaining first l.stream l.self.walk (front ++ l.self.held.leaves.items) l.self.ahead;
  room : length l.self.held.leaves.items < l.self.held.most;
  most : l.self.held.most ≡ l.fn.self.held.most;
  less : to_come l.self.ahead l.stream ≤ to_come l.fn.self.ahead l.fn.stream;
  still : to_come l.fn.self.ahead l.fn.stream ≡ 0 → l.self ≡ l.fn.self;
}

abbrev pub decreases-nodes : goal.decreases-nodes
decreases-nodes g l = to_come l.self.ahead l.stream

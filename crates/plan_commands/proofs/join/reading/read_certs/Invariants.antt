use Rattle.std.proofs.Common.{◌≡◌, ℕ, List, Some, drop, length, take, map}
use Rattle.plan_commands.specs.Given.{AreCertificates}
use Rattle.plan_commands.proofs.join.reading.read_certs.Given as goal

abbrev pub invariant-loop-k : goal.invariant-loop-k
invariant-loop-k g l = record {
  rest : drop l.k l.readers ≡ drop l.k l.fn.readers;
  count : length l.certs.items ≡ l.k;
  certs : (texts : List (List ℕ)) → map g.R.Read.remaining l.fn.readers ≡ map Some texts → AreCertificates (take l.k texts) l.certs.items;
}

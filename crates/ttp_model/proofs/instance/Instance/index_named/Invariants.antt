use Rattle.std.proofs.Common.{◌≡◌, ℕ, ◌<◌, [], get_or, false}
use Rattle.std.specs.Prelude.{bytes_eq}
use Rattle.ttp_model.specs.Names.{names_in}
use Rattle.ttp_model.proofs.instance.Instance.index_named.Given as goal

abbrev pub invariant-loop-k : goal.invariant-loop-k
invariant-loop-k l = (j : ℕ) → j < l.k → bytes_eq (get_or (names_in l.self l.part) j []) l.name ≡ false

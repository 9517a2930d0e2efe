use Rattle.std.proofs.Common.{◌<◌, ◌≤◌, ◌≡◌, [], length, get_or, sym, true, arith}
use Rattle.std.specs.Prelude.{bytes_eq}
use Rattle.ttp_model.specs.Names.{names_in}
use Rattle.ttp_model.proofs.Named.{found_at, not_found}
use Rattle.ttp_model.proofs.instance.Instance.index_named.Goals as goal

pub returns-then-eq-clause-value : goal.returns-then-eq-clause-value
returns-then-eq-clause-value c =
    let lt : c.loop-k.k < length (names_in c.args.self.now c.args.part) = omega arith in
    let here : bytes_eq (get_or (names_in c.args.self.now c.args.part) c.loop-k.k []) c.args.name.now ≡ true = rw (← c.name_in.ensures) (sym c.if-eq.ensures) in
    sym (found_at (λ n. bytes_eq n c.args.name.now) (names_in c.args.self.now c.args.part) c.loop-k.k lt c.loop-k.invariant here)

pub returns-clause-value : goal.returns-clause-value
returns-clause-value c =
    let le : length (names_in c.args.self.now c.args.part) ≤ c.loop-k.k = omega arith in
    sym (not_found (λ n. bytes_eq n c.args.name.now) (names_in c.args.self.now c.args.part) c.loop-k.k le c.loop-k.invariant)

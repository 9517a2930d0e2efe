use Rattle.std.proofs.Common.{ℕ, ◌≡◌, ◌+◌, ◌-◌, arith, length, subst, IfSome}
use Rattle.search_workers.specs.Searching.{IsCutShort}
use Rattle.search_workers.proofs.search.Search.work.Goals as goal

pub returns-clause-cut : goal.returns-clause-cut
returns-clause-cut g c =
    let all : length c.args.self.now.pieces.items + (c.args.budget - c.len.result) ≡ c.args.budget = omega (arith, c.len.ensures, c.requires.within) in
    subst (λ (n : ℕ). IfSome c.take_turns-why.result (IsCutShort n c.take_turns-why.new.self.pieces.items)) all c.take_turns-why.ensures.cut

use Rattle.std.proofs.Common.{ℕ, length, arith, ap}
use Rattle.std.proofs.lemmas.Grind.{div_ceil_times}
use Rattle.std.proofs.lemmas.List.{length-replicate}
use Rattle.used_decisions.proofs.LevelBits.{room, all_there}
use Rattle.used_decisions.proofs.levels.Levels.all_of.Goals as goal

pub returns-clause-room : goal.returns-clause-room
returns-clause-room c =
    let words = c.in_ok-vec.field-0.items in
    let are = c.in_ok-vec.ensures.items_if_clones_equal (λ y same. same) in
    omega (arith, room words, ap length are, length-replicate {A = ℕ} c.div_ceil-words.result 18446744073709551615, c.div_ceil-words.ensures, (div_ceil_times c.args.count 64 (omega arith)).0)

pub returns-clause-all : goal.returns-clause-all
returns-clause-all c = rw (c.in_ok-vec.ensures.items_if_clones_equal (λ y same. same)) (all_there c.div_ceil-words.result)

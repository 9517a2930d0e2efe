use Rattle.std.proofs.Common.{arith, inl}
use Rattle.earliest_starts.proofs.Rings.{some_or, rank_rises, ring_of_three, second_before}
use Rattle.earliest_starts.proofs.ranks.ring.Goals as goal

pub unwrap-third-requires : goal.unwrap-third-requires
unwrap-third-requires c = some_or _ _ c.before_first_alone.ensures.none (λ all. absurd (omega (arith, rank_rises _ _ c.args.first c.args.second c.requires.of c.requires.ahead all, c.requires.rank)))

pub returns-in_ok-three : goal.returns-in_ok-three
returns-in_ok-three c =
    let found = rw c.unwrap-third.ensures at c.before_first_alone.ensures.found in
    let forth = second_before _ _ c.args.first c.args.second c.unwrap-third.result c.requires.of c.requires.complete c.requires.ahead found.0 found.1 c.if-third-second.false in
    rw (c.new-else-third-second.ensures, c.in_ok-three.ensures.items) (ring_of_three _ _ c.args.second c.unwrap-third.result c.args.first (inl forth) (inl found.0) (inl c.requires.ahead))

use Rattle.std.proofs.Common.{ap, arith}
use Rattle.std.proofs.lemmas.Bool.{both_ways, false≢true}
use Rattle.ttp_model.specs.declared.parts.Cluster.{Cluster}
use Rattle.plan_facts.proofs.rounds.has_room.Goals as goal

pub returns-then-not-has_room_on : goal.returns-then-not-has_room_on
returns-then-not-has_room_on c =
    let channels = ap (λ (k : Cluster). k.channels) c.cluster.ensures.value in
    (λ is. absurd (false≢true is), λ room. absurd (both_ways _ c.if-not-has_room_on.true (c.has_room_on.ensures.1 (room c.loop-c.c (omega (arith, c.loop-c-test.true, channels))))))

use Rattle.std.proofs.Common.{◌≡◌, drop, map}
use Rattle.std.specs.List.{find}
use Rattle.instance_reasons.specs.Near.{is_near}
use Rattle.instance_reasons.proofs.near.first_near.Given as goal

abbrev pub invariant-loop-name : goal.invariant-loop-name
invariant-loop-name l =
    find (is_near l.word l.most) (map (λ s. s.now) l.names) ≡ find (is_near l.word l.most) (map (λ s. s.now) (drop l.name-index l.names))

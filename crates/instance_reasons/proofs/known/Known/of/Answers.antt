use Rattle.std.proofs.Common.{◌≡◌, ◌+◌, ◌-◌, [], get_or, map, arith}
use Rattle.std.proofs.lemmas.List.{get_or_default}
use Rattle.instance_text.proofs.IndexLaws.{HasFrom-insert}
use Rattle.instance_reasons.proofs.Filling.{known_there}
use Rattle.instance_reasons.proofs.known.Known.of.Goals as goal

pub loop-index-preserved : goal.loop-index-preserved
loop-index-preserved c =
    let next : c.loop-index.index - 1 + 1 ≡ c.loop-index.index = omega arith in
    let updates = c.in_ok-insert.ensures.updates in
    HasFrom-insert (λ s. s.now) c.args.names.now (c.loop-index.index - 1)
    (get_or c.args.names.now (c.loop-index.index - 1) (record { ref_ptr = (0, 0); now = [] })) (omega arith)
    (get_or_default c.args.names.now (c.loop-index.index - 1) _ _ (omega arith))
    c.loop-index.places c.insert.new.self updates (rw next c.loop-index.invariant)

pub returns : goal.returns
returns c =
    let behind : c.loop-index.index ≡ 0 = omega (arith, c.loop-index-test.false) in
    λ j. λ text. known_there c.loop-index.places (map (λ s. s.now) c.args.names.now) text (rw behind at c.loop-index.invariant) j

use Rattle.std.proofs.Common.{◌≡◌, ◌∙◌, ◌++◌, List, ℕ, [], length, ap, arith}
use Rattle.std.specs.List.{range_with_len}
use Rattle.std.proofs.lemmas.List.{flat_map_more}
use Rattle.ttp_model.proofs.Ranges.{range_more}
use Rattle.instance_reasons.specs.Malformed.{mended_byte}
use Rattle.instance_reasons.proofs.malformed.mended.Goals as goal

pub loop-k-preserved : goal.loop-k-preserved
loop-k-preserved c =
    let byte = mended_byte c.args.name.now in
    rw c.standing_at.ensures at c.in_ok-put_told.ensures
    ∙ (ap (λ (x : List ℕ). x ++ byte c.loop-k.k) c.loop-k.invariant
    ∙ rw (range_more c.loop-k.k) (flat_map_more byte [] (range_with_len 0 c.loop-k.k) c.loop-k.k))

pub returns : goal.returns
returns c =
    let all : c.loop-k.k ≡ length c.args.name.now = omega arith in
    rw all at c.loop-k.invariant

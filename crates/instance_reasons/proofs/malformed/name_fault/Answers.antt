use Rattle.std.proofs.Common.{◌<◌, ◌≤◌, length, arith}
use Rattle.ttp_model.specs.Limits.{most_name_bytes}
use Rattle.instance_reasons.specs.Malformed.{HasStanding}
use Rattle.instance_reasons.proofs.Failing.{is_name}
use Rattle.instance_reasons.proofs.Finding.{found, some_failure}
use Rattle.instance_reasons.proofs.malformed.name_fault.Goals as goal

pub unwrap-k-requires : goal.unwrap-k-requires
unwrap-k-requires c =
    let name = c.args.name.now in
    let some : 0 < length name = omega arith in
    let short : length name ≤ most_name_bytes = omega arith in
    some_failure (length name) (HasStanding name) c.first_wrong.result c.first_wrong.ensures (λ each. c.requires (is_name name some short each))

pub wrong_byte-requires : goal.wrong_byte-requires
wrong_byte-requires c =
    let name = c.args.name.now in
    found (length name) (HasStanding name) c.first_wrong.result c.unwrap-k.result c.first_wrong.ensures c.unwrap-k.ensures

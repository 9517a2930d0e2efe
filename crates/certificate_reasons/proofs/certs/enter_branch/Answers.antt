-- A branch that suits its choice has no fault.
use Rattle.certificate_reasons.proofs.Judged.{suits_well}
use Rattle.certificate_reasons.proofs.certs.enter_branch.Goals as goal

pub unreachable-requires-in_Err-At-walk : goal.unreachable-requires-in_Err-At-walk
unreachable-requires-in_Err-At-walk c =
    let told = rw c.in_Err-At-walk.field-0-is at c.in_Err-At-walk.ensures.err in
    suits_well _ _ c.args.branch.now _ c.requires.suits told.1

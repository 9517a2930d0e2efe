use Rattle.plan_check.proofs.Validity.{IsValid-without_fault}
use Rattle.plan_check.proofs.judge.check.Goals as goal

pub returns-in_err-check_lists-clause-only : goal.returns-in_err-check_lists-clause-only
returns-in_err-check_lists-clause-only c =
    λ valid. absurd (IsValid-without_fault _ _ _ valid c.in_err-check_lists.ensures)

pub returns-in_err-check_processes-clause-only : goal.returns-in_err-check_processes-clause-only
returns-in_err-check_processes-clause-only c =
    λ valid. absurd (IsValid-without_fault _ _ _ valid c.in_err-check_processes.ensures)

pub returns-in_err-check_messages-clause-only : goal.returns-in_err-check_messages-clause-only
returns-in_err-check_messages-clause-only c =
    λ valid. absurd (IsValid-without_fault _ _ _ valid c.in_err-check_messages.ensures)

-- An answer with its own certificate is the same.
use Rattle.std.proofs.Common.{◌≡◌, refl}
use Rattle.search_workers.specs.declared.outcome.Outcome.{Outcome}
use Rattle.search_workers.specs.declared.outcome.Outcome.TheVariants.{Optimal, Infeasible, Stopped}
use Rattle.planner.specs.Answers.{cert_of, certified_by}

pub own_certificate : (outcome : Outcome) → outcome ≡ certified_by (cert_of outcome) outcome
own_certificate (Optimal plan ticks cert) = refl
own_certificate (Infeasible cert) = refl
own_certificate (Stopped why low best cert) = refl

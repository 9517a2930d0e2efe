-- A list of jobs with one job more at its end.
use Rattle.std.proofs.Common.{◌≡◌, ◌+◌, List, [], ◌∷◌, ◌++◌, All, length, length-append, sym, ap, ◌∙◌, subst}
use Rattle.std.proofs.lemmas.List.{map-append}
use Rattle.std.proofs.lemmas.List.Elements.{All-push}
use Rattle.std.proofs.lemmas.List.Sums.{sum_by_push}
use Rattle.incumbent.specs.declared.word.Incumbent.{Incumbent}
use Rattle.search_workers.specs.declared.job.Job.{Job}
use Rattle.planner.specs.Crew.{hands_of, budget_of, IsJob}

module _ {J : Type 0} (jobs all : List (Job J)) (job : Job J) (more : all ≡ jobs ++ job ∷ []) where
  pub more_hands : hands_of all ≡ hands_of jobs ++ job.hand ∷ []
  more_hands = ap hands_of more ∙ map-append (λ (j : Job J). j.hand) jobs (job ∷ [])

  pub more_jobs : (word : Incumbent) → IsJob word job → All (IsJob word) jobs → All (IsJob word) all
  more_jobs word own each = subst (All (IsJob word)) (sym more) (All-push (IsJob word) jobs job each own)

  pub more_budget : budget_of all ≡ budget_of jobs + job.budget
  more_budget = ap budget_of more ∙ sum_by_push (λ (j : Job J). j.budget) jobs job

  pub more_many : length all ≡ length jobs + 1
  more_many = ap length more ∙ length-append jobs (job ∷ [])

-- Reports of jobs, one of each, in order.
use Rattle.std.proofs.Common.{◌≡◌, List, [], ◌∷◌, ◌++◌, refl, ap, subst, ◌∙◌, All}
use Rattle.std.proofs.lemmas.List.Elements.{All-head, All-tail, All-cons, All-nil, All-contains}
use Rattle.ttp_model.specs.Instance.{Instance}
use Rattle.incumbent.specs.declared.word.Incumbent.{Incumbent}
use Rattle.incumbent.specs.Watch.{IsWatchOf}
use Rattle.search_workers.specs.declared.aims.Aims.{Aims}
use Rattle.search_workers.specs.declared.report.Report.{Report}
use Rattle.search_workers.specs.declared.job.Job.{Job}
use Rattle.planner.specs.Crew.{AreReportsOf, IsJob, IsReportOfJob}
use Rattle.search_workers.proofs.Searching.{front_of, last_there}

module _ {J : Type 0} (i : Instance) (aims : Aims) where
  pub one_more_report : (jobs : List (Job J)) (rs : List (Report J)) (job : Job J) (r : Report J) → AreReportsOf i aims jobs rs → IsReportOfJob i aims job r → AreReportsOf i aims (jobs ++ job ∷ []) (rs ++ r ∷ [])
  one_more_report [] [] job r all one = (one, tt)
  one_more_report [] (x ∷ rs) job r all one = absurd all
  one_more_report (x ∷ jobs) [] job r all one = absurd all
  one_more_report (x ∷ jobs) (y ∷ rs) job r all one = (all.0, one_more_report jobs rs job r all.1 one)

  -- the last report is that of the last job
  pub record LastOf (jobs : List (Job J)) (rs : List (Report J)) (r : Report J) : Type 0 where
    pub front : List (Job J)
    pub job : Job J
    pub is : jobs ≡ front ++ job ∷ []
    pub each : AreReportsOf i aims front rs
    pub last : IsReportOfJob i aims job r

  pub last_report : (jobs : List (Job J)) (rs : List (Report J)) (r : Report J) → AreReportsOf i aims jobs (rs ++ r ∷ []) → LastOf jobs rs r
  last_report [] [] r all = absurd all
  last_report [] (x ∷ rs) r all = absurd all
  last_report (job ∷ []) [] r all = record { front = []; job = job; is = refl; each = tt; last = all.0 }
  last_report (job ∷ more ∷ jobs) [] r all = absurd all.1
  last_report (job ∷ jobs) (x ∷ rs) r all =
      let l = last_report jobs rs r all.1 in
      record { front = job ∷ l.front; job = l.job; is = ap (λ (js : List (Job J)). job ∷ js) l.is; each = (all.0, l.each); last = l.last }

  pub no_jobs : (jobs : List (Job J)) → AreReportsOf i aims jobs [] → jobs ≡ []
  no_jobs [] all = refl
  no_jobs (job ∷ jobs) all = absurd all

module _ {J : Type 0} (word : Incumbent) where
  -- jobs of a word, those in front and the last one
  pub last_is : (jobs front : List (Job J)) (job : Job J) → jobs ≡ front ++ job ∷ [] → All (IsJob word) jobs → All (IsJob word) front × IsJob word job
  last_is jobs front job is all =
      let each = subst (All (IsJob word)) is all in
      (front_of (IsJob word) front job each, All-contains (IsJob word) (front ++ job ∷ []) job each (last_there front job))

  -- the watches that come back are the word's
  pub watches_of : (i : Instance) (aims : Aims) (jobs : List (Job J)) (rs : List (Report J)) → All (IsJob word) jobs → AreReportsOf i aims jobs rs → All (λ (r : Report J). IsWatchOf word r.watch) rs
  watches_of i aims [] [] each all = All-nil (λ (r : Report J). IsWatchOf word r.watch)
  watches_of i aims [] (r ∷ rs) each all = absurd all
  watches_of i aims (job ∷ jobs) [] each all = absurd all
  watches_of i aims (job ∷ jobs) (r ∷ rs) each all =
      All-cons (λ (x : Report J). IsWatchOf word x.watch) r rs (all.0.watch.table ∙ (All-head (IsJob word) job jobs each).other.0) (watches_of i aims jobs rs (All-tail (IsJob word) job jobs each) all.1)

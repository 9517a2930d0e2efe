-- What is told of those that end too late whatever the plan. Own profile.
use Rattle.std.specs.Prelude.{◌≡◌, ℕ, ◌+◌, ◌<◌, List}
use Rattle.ttp_model.specs.Instance.{Instance}
use Rattle.plan_facts.specs.Longest.{AreLongest}
use Rattle.plan_reasons.specs.Runs.{IsRunLine}
use Rattle.plan_facts.specs.Ends.{must_end_by}
use Rattle.plan_reasons.specs.Limits.{IsLimit}
use Rattle.sentences.specs.Lists.{AreTold}
use Rattle.plan_reasons.specs.declared.path_parts.ChainPart.{ChainPart}
use Rattle.plan_reasons.specs.declared.late_lines.LateProcess.{LateProcess}
use Rattle.plan_reasons.specs.declared.late_lines.LateProcesses.{LateProcesses}
use Rattle.plan_reasons.specs.Late.{late_parts}

-- a process at the earliest, by when it has to end, and how much later it ends
pub record IsLateProcess (i : Instance) (part : ChainPart) (x : LateProcess) : Type 0 where
  pub run_is : IsRunLine i part.process part.from part.until part.cause x.run
  pub limit_is : IsLimit i part.process x.limit
  pub latest_is : x.latest ≡ must_end_by i part.process
  pub some : 0 < x.by
  pub past : x.latest + x.by ≡ part.until

-- all that do, by when the longest chain to each process ends
pub record AreLate (i : Instance) (r : LateProcesses) : Type 0 where
  pub ends : List ℕ
  pub longest : AreLongest i ends
  pub processes_are : AreTold (IsLateProcess i) (late_parts i ends) r.processes.items

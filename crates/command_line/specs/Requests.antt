-- What holds of a request.
use Rattle.std.specs.Prelude.{◌<◌, ◌≤◌, ℕ, List, All, length, IfSome}
use Rattle.command_line.specs.declared.words.Request.{Request}
use Rattle.command_line.specs.declared.words.Request.TheVariants.{OfRounds, OnFiles, Solve, Why as Asking, Limit as Limiting, Margin as Lengthening, Age as Aging, Join}
use Rattle.command_line.specs.declared.words.Effort.{Effort}
use Rattle.command_line.specs.declared.words.Continued.{Continued}
use Rattle.command_line.specs.declared.words.Part.{Part}
use Rattle.command_line.specs.declared.words.Search.{Search}
use Rattle.command_line.specs.declared.words.Question.{Question}
use Rattle.command_line.specs.declared.words.Limit.{Limit}
use Rattle.command_line.specs.declared.words.Margin.{Margin}
use Rattle.command_line.specs.declared.words.Joining.{Joining}
use Rattle.command_line.specs.declared.words.Task.{Task}
use Rattle.command_line.specs.declared.words.Task.TheVariants.{Draw}
use Rattle.command_line.specs.declared.words.RoundsTask.{RoundsTask}
use Rattle.command_line.specs.declared.words.RoundsTask.TheVariants.{Period, Tables}
use Rattle.command_line.specs.Names.{IsOtherFile}
use Rattle.plan_sheets.specs.Limits.{least_width, most_width}
use Rattle.ttp_model.specs.Limits.{most_ticks}

-- a picture is as wide as it may be
abbrev pub IsSoundTask : Task → Type 0
IsSoundTask (Draw width shown) = (least_width ≤ width) × (width ≤ most_width)
IsSoundTask _ = Unit {0}

-- a period is as long as it may be
abbrev pub IsSoundRounds : RoundsTask → Type 0
IsSoundRounds (Period ticks) = (1 ≤ ticks) × (ticks ≤ most_ticks)
IsSoundRounds (Tables rounds) = Unit {0}

-- searches have 1 to 16 workers
pub record IsSoundEffort (effort : Effort) : Type 0 where
  pub some : 1 ≤ effort.workers
  pub few : effort.workers ≤ 16

-- a part is one of at most 1,000,000, counted from 0
pub record IsSoundPart (part : Part) : Type 0 where
  pub inside : part.number < part.count
  pub few : part.count ≤ 1000000

-- by its name a file isn't the certificate from which a search goes on
abbrev pub IsNotFrom : List ℕ → Continued → Type 0
IsNotFrom file from = IsOtherFile file from.certificate.now

-- by its name a file is none that a search reads
abbrev pub IsApart : Search → List ℕ → Type 0
IsApart search file =
    IsOtherFile file search.instance.now × (IfSome search.start (λ plan. IsOtherFile file plan.now) × IfSome search.from (IsNotFrom file))

-- the numbers of a search are sound; by their names the files that it writes are none that it reads, and not the same, but that a plan may be
-- kept in the file of the one to begin with
pub record IsSoundSearch (search : Search) : Type 0 where
  pub effort : IsSoundEffort search.effort
  pub certificate : IfSome search.certificate (λ file. IsApart search file.now)
  pub kept : IfSome search.kept (λ file. IsOtherFile file.now search.instance.now)
  pub kept_apart : IfSome search.kept (λ file. IfSome search.from (IsNotFrom file.now))
  pub both : IfSome search.kept (λ file. IfSome search.certificate (λ other. IsOtherFile file.now other.now))
  pub part : IfSome search.from (λ from. IfSome from.part IsSoundPart)

-- the same of a question: it reads the instance alone
pub record IsSoundQuestion (question : Question) : Type 0 where
  pub effort : IsSoundEffort question.effort
  pub certificate : IfSome question.certificate (λ file. IsOtherFile file.now question.instance.now)
  pub reduced : IfSome question.reduced (λ file. IsOtherFile file.now question.instance.now)
  pub both : IfSome question.reduced (λ file. IfSome question.certificate (λ other. IsOtherFile file.now other.now))

-- a question of early ends names a process at least
pub record IsSoundLimit (limit : Limit) : Type 0 where
  pub question : IsSoundQuestion limit.question
  pub named : 1 ≤ length limit.processes.items

-- one of longer runs says by which tick all ends
pub record IsSoundMargin (margin : Margin) : Type 0 where
  pub question : IsSoundQuestion margin.question
  pub some : 1 ≤ margin.within
  pub few : margin.within ≤ most_ticks

-- certificates that are joined are two at least, and the joined one is written, by its name, to none of the files that are read
pub record IsSoundJoining (joining : Joining) : Type 0 where
  pub named : 2 ≤ length joining.certificates.items
  pub spared : IfSome joining.joined (λ file. IsOtherFile file.now joining.instance.now)
  pub apart : IfSome joining.joined (λ file. All (λ other. IsOtherFile file.now other.now) joining.certificates.items)

abbrev pub IsSound : Request → Type 0
IsSound (OnFiles instance plan task) = IsSoundTask task
IsSound (OfRounds instance plan task) = IsSoundRounds task
IsSound (Solve search) = IsSoundSearch search
IsSound (Asking why) = IsSoundQuestion why.question
IsSound (Limiting limit) = IsSoundLimit limit
IsSound (Lengthening margin) = IsSoundMargin margin
IsSound (Join joining) = IsSoundJoining joining
IsSound (Aging age) = IsSoundQuestion age.question
IsSound _ = Unit {0}

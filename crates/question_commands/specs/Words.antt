-- What `why` writes of what was found. Own profile.
use Rattle.std.specs.Prelude.{ℕ, ◌<◌, ◌==◌, ◌++◌, if◌then◌else◌, List, [], ◌∷◌, Option, None, Some, codes, decimal, length}
use Rattle.std.specs.List.{flat_map}
use Rattle.ttp_model.specs.Instance.{Instance, link_at, process_at}
use Rattle.ttp_model.specs.Names.{message_name, process_name}
use Rattle.instance_variants.specs.declared.kept.constraints.Constraint.{Constraint}
use Rattle.instance_variants.specs.declared.kept.constraints.Constraint.TheVariants as one
use Rattle.plan_questions.specs.declared.conflicts.needs.Need.{Need}
use Rattle.plan_questions.specs.declared.late.answer.Lateness.{Lateness}
use Rattle.plan_questions.specs.declared.late.answer.Lateness.TheVariants.{Least, Between, Unknown, Never}

-- what a constraint is on is there
abbrev pub IsOf : Instance → Constraint → Type 0
IsOf i one.Horizon = Unit {0}
IsOf i (one.Deadline p) = p < length i.processes
IsOf i (one.Release p) = p < length i.processes
IsOf i (one.Link l) = l < length i.links
IsOf i (one.Message m) = m < length i.messages
IsOf i (one.Both m) = m < length i.messages

-- The next six are the words for a constraint: times with their ticks, and all but the horizon with names.
abbrev pub horizon_words : Instance → List ℕ
horizon_words i = codes "horizon " ++ decimal i.cluster.horizon

abbrev pub deadline_words : Instance → ℕ → List ℕ
deadline_words i p = codes "deadline " ++ (process_name i p ++ (codes " " ++ decimal (process_at i p).deadline))

abbrev pub release_words : Instance → ℕ → List ℕ
release_words i p = codes "release " ++ (process_name i p ++ (codes " " ++ decimal (process_at i p).release))

abbrev pub link_words : Instance → ℕ → List ℕ
link_words i l = codes "link " ++ (process_name i (link_at i l).before ++ (codes " " ++ process_name i (link_at i l).after))

abbrev pub message_words : Instance → ℕ → List ℕ
message_words i m = codes "message " ++ message_name i m

abbrev pub both_words : Instance → ℕ → List ℕ
both_words i m = codes "both " ++ message_name i m

abbrev pub constraint_words : Instance → Constraint → List ℕ
constraint_words i one.Horizon = horizon_words i
constraint_words i (one.Deadline p) = deadline_words i p
constraint_words i (one.Release p) = release_words i p
constraint_words i (one.Link l) = link_words i l
constraint_words i (one.Message m) = message_words i m
constraint_words i (one.Both m) = both_words i m

-- the line of a constraint that is needed
abbrev pub need_line : Instance → Constraint → List ℕ
need_line i c = codes "need " ++ (constraint_words i c ++ 10 ∷ [])

-- the line of one that isn't known to be; of one that is, none stands here
abbrev pub maybe_line : Instance → Need → List ℕ
maybe_line i need = if need.is_shown then [] else codes "maybe " ++ (constraint_words i need.constraint ++ 10 ∷ [])

-- the lines of those that aren't known to be needed, once all are decided; where nothing is needed the execution times alone leave no plan
abbrev pub others_text : Instance → List Need → List ℕ
others_text i needs = if length needs == 0 then codes "need nothing\n" else flat_map (maybe_line i) needs

-- the text where there is a plan of this delay
abbrev pub plan_text : ℕ → List ℕ
plan_text ticks = codes "ttwhy 1\nplan " ++ (decimal ticks ++ 10 ∷ [])

-- the text where it isn't known whether there is one
abbrev pub unknown_text : List ℕ
unknown_text = codes "ttwhy 1\nunknown\n"

-- how many ticks later all has to end: the least number, two numbers between which it is, one below which it isn't, or none
abbrev pub late_words : Lateness → List ℕ
late_words (Least late plan) = decimal late
late_words (Between low high plan) = decimal low ++ (codes " " ++ decimal high)
late_words (Unknown low) = decimal low ++ codes " -"
late_words Never = codes "-"

-- the line that tells it
abbrev pub late_line : Lateness → List ℕ
late_line lateness = codes "late " ++ (late_words lateness ++ 10 ∷ [])

-- and where it is told
abbrev pub late_lines : Option Lateness → List ℕ
late_lines None = []
late_lines (Some lateness) = late_line lateness

-- the lines that are told first where there is no plan: that there is none, and then each constraint as it was found to be needed
abbrev pub none_lines : List ℕ
none_lines = codes "ttwhy 1\nnone\n"

abbrev pub need_lines : Instance → List Constraint → List ℕ
need_lines i needed = flat_map (need_line i) needed

-- What is told of an instance without a plan, as far as it is known: the constraints that are needed, in the order in which they were found;
-- of each that is kept, once all are decided, whether it is; and how late all has to end.
pub record Lines : Type 0 where
  pub needed : List Constraint
  pub others : Option (List Need)
  pub late : Option Lateness

-- the lines behind those of the constraints that are needed
abbrev pub others_lines : Instance → Option (List Need) → List ℕ
others_lines i None = []
others_lines i (Some needs) = others_text i needs

abbrev pub lines_behind : Instance → Lines → List ℕ
lines_behind i lines = others_lines i lines.others ++ late_lines lines.late

-- all of them
abbrev pub lines_text : Instance → Lines → List ℕ
lines_text i lines = none_lines ++ (need_lines i lines.needed ++ lines_behind i lines)

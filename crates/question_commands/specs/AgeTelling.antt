-- How `age` ends where it answers by one JSON object.
use Rattle.std.specs.Prelude.{◌≡◌}
use Rattle.command_streams.specs.declared.ending.End.{End}
use Rattle.json_answers.specs.declared.answers.ObjectFault.{ObjectFault}
use Rattle.json_answers.specs.Telling.{IsEndOr, end_in_memory}
use Rattle.question_commands.specs.declared.age_ending.AgeEnd.{AgeEnd}
use Rattle.question_commands.specs.declared.age_ending.AgeEnd.TheVariants.{Searched}

-- what it makes of an end that an object isn't written as a whole: that of a command, or a refusal
abbrev pub IsAgeEndOr : ObjectFault → AgeEnd → AgeEnd → Type 0
IsAgeEndOr why (Searched at) end = (other : End) × IsEndOr why at other × (end ≡ Searched other)
IsAgeEndOr why refused end = end ≡ refused

-- the end where the text is kept in memory
abbrev pub age_in_memory : AgeEnd → AgeEnd
age_in_memory (Searched at) = Searched (end_in_memory at)
age_in_memory refused = refused

-- What the bytes of an instance and words that name processes are answered of how much longer these may run, and what `margin` writes.
use Rattle.std.specs.Prelude.{◌≡◌, ◌⊎◌, ℕ, ◌+◌, ◌<◌, ◌≤◌, List, [], ◌∷◌, ◌++◌, length, codes, decimal, Bool, true, false, Option, None, Some}
use Rattle.std.specs.List.{range_with_len}
use Rattle.std.specs.Global.{Vec}
use Rattle.std.specs.Io.KnownBytes.{Keeps}
use Rattle.ttp_model.specs.declared.plan.Plan.{Plan}
use Rattle.ttp_model.specs.Lists.{IsFirstFailure}
use Rattle.ttp_model.specs.Instance.{Instance}
use Rattle.ttp_model.specs.Names.{process_name}
use Rattle.ttp_model.specs.Rules.{IsInstance}
use Rattle.certificate.specs.Cert.{Cert}
use Rattle.certificate.specs.Versions.{Allows}
use Rattle.plan_questions.specs.outcome.Options.{Options}
use Rattle.plan_questions.specs.declared.margins.answer.Margin.{Margin}
use Rattle.plan_questions.specs.declared.margins.answer.Margin.TheVariants.{Greatest, Window, Between, Unknown, Never}
use Rattle.plan_questions.specs.MarginAnswers.{IsMargin}
use Rattle.instance_variants.specs.declared.scale.Scale.{Scale}
use Rattle.plan_questions.specs.Longer.{longer, most_number}
use Rattle.plan_questions.specs.Within.{within}
use Rattle.command_streams.specs.declared.ending.Source.TheVariants as source
use Rattle.command_streams.specs.declared.ending.Fault.{Fault}
use Rattle.command_streams.specs.declared.ending.Fault.TheVariants.{InstanceText, Memory, NoSuchRunner, Search, TooLong, Unread}
use Rattle.command_streams.specs.declared.ending.End.{End}
use Rattle.command_streams.specs.declared.ending.End.TheVariants.{Done, Absent, Refused, Stopped}
use Rattle.command_streams.specs.declared.limits.TheConstants.{INSTANCE_LIMIT}
use Rattle.command_streams.specs.Instances.{HasInstance, IsInstanceFault}
use Rattle.command_streams.specs.declared.texts.Texts.{Texts}
use Rattle.command_streams.specs.Writing.{IsNothing, IsTextOf, IsWritingOf}
use Rattle.question_commands.specs.declared.limit_texts.Beside.{Beside}
use Rattle.question_commands.specs.declared.margins.Margined.{Margined}
use Rattle.question_commands.specs.declared.margins.Terms.{Terms}
use Rattle.question_commands.specs.Answers.{IsCertificateText}
use Rattle.question_commands.specs.Limited.{IsTextBehind}
use Rattle.question_commands.specs.Names.{AreNamed, NamesAnother}

-- the processes that words mean: those that they name, and all where there are no words
abbrev pub AreMeant : Instance → List (List ℕ) → List ℕ → Type 0
AreMeant i [] ps = ps ≡ range_with_len 0 (length i.processes)
AreMeant i (word ∷ words) ps = AreNamed i (word ∷ words) ps

-- words mean processes
pub record MeanSome (i : Instance) (words : List (List ℕ)) : Type 0 where
  pub processes : List ℕ
  pub meant : AreMeant i words processes

-- why they mean none: the first word that names no process, or one that a word before it names; or memory was refused
abbrev pub IsUnmeant : Instance → List (List ℕ) → Fault → Type 0
IsUnmeant i words Memory = Unit {0}
IsUnmeant i words (NoSuchRunner k) = IsFirstFailure (length words) (NamesAnother i words) k
IsUnmeant i words _ = ⊥

-- the plan of an answer, where it has one
abbrev pub plan_of : Margin → Option Plan
plan_of (Greatest margin plan cert) = Some plan
plan_of (Window margin process plan) = Some plan
plan_of (Between low high plan) = Some plan
plan_of (Unknown high) = None
plan_of Never = None

-- the process of which an answer speaks is there
abbrev pub HasProcess : Instance → Margin → Type 0
HasProcess i (Window margin process plan) = process < length i.processes
HasProcess i _ = Unit {0}

-- its name, where an answer speaks of one
abbrev pub name_of : Instance → Margin → List ℕ
name_of i (Greatest margin plan cert) = []
name_of i (Window margin process plan) = process_name i process
name_of i (Between low high plan) = []
name_of i (Unknown high) = []
name_of i Never = []

-- what an answer says in words, with that name
abbrev pub first_line : Margin → List ℕ → List ℕ
first_line (Greatest margin plan cert) name = codes "margin " ++ decimal margin
first_line (Window margin process plan) name = codes "margin " ++ (decimal margin ++ (codes " window " ++ name))
first_line (Between low high plan) name = codes "between " ++ (decimal low ++ (codes " " ++ decimal high))
first_line (Unknown high) name = codes "unknown " ++ decimal high
first_line Never name = codes "none"

-- the line of that
abbrev pub line_of : Instance → Margin → List ℕ
line_of i margin = first_line margin (name_of i margin) ++ 10 ∷ []

-- what is written of an answer
abbrev pub IsMarginText : Instance → Margin → List ℕ → Type 0
IsMarginText i margin text = IsTextBehind i (line_of i margin) (plan_of margin) text

-- the end at which it is told: a search that was stopped leaves less known than was asked
abbrev pub end_told : Margin → End
end_told (Greatest margin plan cert) = Done
end_told (Window margin process plan) = Done
end_told (Between low high plan) = Stopped
end_told (Unknown high) = Stopped
end_told Never = Absent

-- of an answer that a search showed, the instance that it searched keeps all rules, and its certificate has a text
pub record IsSearched (i : Instance) (ps : List ℕ) (scale : Scale) (margin : ℕ) (cert : Cert) : Type 0 where
  pub small : margin ≤ most_number
  pub rules : IsInstance (longer i ps scale (margin + 1))
  pub allows : Allows cert.version cert.tree

abbrev pub IsPrintable : Instance → List ℕ → Scale → Margin → Type 0
IsPrintable i ps scale (Greatest margin plan cert) = IsSearched i ps scale margin cert
IsPrintable i ps scale _ = Unit {0}

-- what is written to the certificate's file: the certificate that there is no plan with one more, where a search showed that
abbrev pub IsTextBeside : Bool → Margin → List ℕ → Type 0
IsTextBeside wanted (Greatest margin plan cert) text = IsCertificateText wanted cert text
IsTextBeside wanted (Window margin process plan) text = text ≡ []
IsTextBeside wanted (Between low high plan) text = text ≡ []
IsTextBeside wanted (Unknown high) text = text ≡ []
IsTextBeside wanted Never text = text ≡ []

-- a text that states the instance with one more, where it is wanted and the one that was made reads back as it
abbrev pub IsTextWithMore : Bool → Instance → List ℕ → Scale → ℕ → Option (Vec ℕ) → Type 0
IsTextWithMore true i ps scale margin text = IsTextOf (longer i ps scale (margin + 1)) text
IsTextWithMore false i ps scale margin text = IsNothing text

-- what is written to the other file: that text, where a search showed that there is no plan with one more
abbrev pub IsLongerText : Bool → Instance → List ℕ → Scale → Margin → Option (Vec ℕ) → Type 0
IsLongerText wanted i ps scale (Greatest margin plan cert) text = IsTextWithMore wanted i ps scale margin text
IsLongerText wanted i ps scale (Window margin process plan) text = IsNothing text
IsLongerText wanted i ps scale (Between low high plan) text = IsNothing text
IsLongerText wanted i ps scale (Unknown high) text = IsNothing text
IsLongerText wanted i ps scale Never text = IsNothing text

-- the texts that tell an answer to how much longer these processes may run of the instance within which all has to end
pub record AreTextsOf (beside : Beside) (i base : Instance) (ps : List ℕ) (scale : Scale) (margin : Margin) (texts : Texts) : Type 0 where
  pub certificate : IsTextBeside beside.certificate margin texts.certificate.items
  pub reduced : IsLongerText beside.reduced base ps scale margin texts.reduced
  pub answer : IsMarginText i margin texts.answer.items

-- an answer to how much longer these processes may run, with its texts
pub record IsMarginBy (i : Instance) (ps : List ℕ) (terms : Terms) (options : Options) (margined : Margined) : Type 0 where
  pub is : IsMargin (within i terms.within) ps terms.scale options margined.margin
  pub texts : AreTextsOf terms.beside i (within i terms.within) ps terms.scale margined.margin margined.texts

-- the words mean processes, and this is an answer to how much longer these may run
pub record IsMarginOf (i : Instance) (words : List (List ℕ)) (terms : Terms) (options : Options) (margined : Margined) : Type 0 where
  pub processes : List ℕ
  pub meant : AreMeant i words processes
  pub is : IsMarginBy i processes terms options margined

-- why there is no answer: for a word, or there was no memory or no thread for a search
abbrev pub IsNoMarginOf : Instance → List (List ℕ) → Fault → Type 0
IsNoMarginOf i words Memory = Unit {0}
IsNoMarginOf i words (NoSuchRunner k) = IsUnmeant i words (NoSuchRunner k)
IsNoMarginOf i words (Search fault) = MeanSome i words
IsNoMarginOf i words _ = ⊥

-- the bytes state an instance, and this is an answer to it and the words
pub record IsMargined (bytes : List ℕ) (words : List (List ℕ)) (terms : Terms) (options : Options) (margined : Margined) : Type 0 where
  pub problem : Instance
  pub has_instance : HasInstance bytes problem
  pub is : IsMarginOf problem words terms options margined

-- the bytes state an instance, and there is no answer to it and the words
pub record IsUnanswered (bytes : List ℕ) (words : List (List ℕ)) (fault : Fault) : Type 0 where
  pub problem : Instance
  pub has_instance : HasInstance bytes problem
  pub refused : IsNoMarginOf problem words fault

-- why bytes and words have no answer: for the instance, or else for the words or a search
abbrev pub IsUnmargined : List ℕ → List (List ℕ) → Fault → Type 0
IsUnmargined bytes words Memory = Unit {0}
IsUnmargined bytes words (Unread source.Instance) = Unit {0}
IsUnmargined bytes words (TooLong source.Instance) = INSTANCE_LIMIT < length bytes
IsUnmargined bytes words (InstanceText error) = IsInstanceFault bytes (InstanceText error)
IsUnmargined bytes words (NoSuchRunner k) = IsUnanswered bytes words (NoSuchRunner k)
IsUnmargined bytes words (Search fault) = IsUnanswered bytes words (Search fault)
IsUnmargined bytes words _ = ⊥

-- an answer is told
pub record IsToldMargin (bytes : List ℕ) (words : List (List ℕ)) (terms : Terms) (options : Options) (from to before after old new : Option (List ℕ)) (end : End) : Type 0 where
  pub margined : Margined
  pub is : IsMargined bytes words terms options margined
  pub writing : IsWritingOf margined.texts (end_told margined.margin) from to before after old new end

-- nothing is told, for this fault, and nothing is written
pub record IsUntold (bytes : List ℕ) (words : List (List ℕ)) (from to before after old new : Option (List ℕ)) (end : End) : Type 0 where
  pub fault : Fault
  pub lacking : IsUnmargined bytes words fault
  pub ends : end ≡ Refused fault
  pub certificate : Keeps from to
  pub reduced : Keeps before after
  pub answer : Keeps old new

-- what `margin` answers of the bytes of an instance and of words, and what it writes
abbrev pub IsMarginAnswer : List ℕ → List (List ℕ) → Terms → Options → (from to before after old new : Option (List ℕ)) → End → Type 0
IsMarginAnswer bytes words terms options from to before after old new end =
    IsToldMargin bytes words terms options from to before after old new end ⊎ IsUntold bytes words from to before after old new end

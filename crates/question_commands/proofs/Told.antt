-- What is told of an instance is on what it has, its certificate has a text, and what was told is the answer.
use Rattle.std.proofs.Common.{◌≡◌, ◌∙◌, ℕ, ◌<◌, Bool, true, false, IfSome, List, [], ◌∷◌, ◌++◌, ◌+◌, length-append, Option, None, Some, Result, Ok, Err, MatchResult, All, length, map, inl, inr, refl, sym, subst, arith}
use Rattle.std.proofs.lemmas.Bool.{cases_lt, true≢false}
use Rattle.std.proofs.lemmas.List.{get_or-append-add, get_or-map, get_or_past, length-map, length-replicate}
use Rattle.std.proofs.lemmas.List.Elements.{All-weaker}
use Rattle.ttp_model.specs.Instance.{Instance}
use Rattle.ttp_model.specs.Rules.{IsInstance}
use Rattle.ttp_model.specs.Lists.{is_set}
use Rattle.certificate.specs.Versions.{Allows}
use Rattle.plan_questions.specs.outcome.Options.{Options}
use Rattle.plan_questions.specs.outcome.Outcome.TheVariants.{Infeasible}
use Rattle.plan_questions.proofs.AnswerVersions.{answer_allows}
use Rattle.instance_variants.specs.declared.kept.constraints.Constraint.{Constraint}
use Rattle.instance_variants.specs.declared.kept.constraints.Constraint.TheVariants as one
use Rattle.instance_variants.specs.declared.kept.constraints.Constraints.{Constraints}
use Rattle.instance_variants.specs.Constraints.{all_of, has_deadline, has_release, is_on_both, keeps}
use Rattle.instance_variants.specs.Only.{only}
use Rattle.instance_variants.specs.Fewer.{AreAmong}
use Rattle.instance_variants.proofs.Keeps.{kept_among, listed_kept}
use Rattle.instance_variants.proofs.KeptLaws.{rules_kept}
use Rattle.plan_questions.specs.Conflicts.{AreMarked, IsConstraintOf, IsFirstAnswer, IsNarrowing}
use Rattle.plan_questions.specs.declared.conflicts.first.FirstAnswer.{FirstAnswer}
use Rattle.std.specs.Io.KnownBytes.{Keeps}
use Rattle.plan_questions.specs.declared.conflicts.conflict.Conflict.{Conflict}
use Rattle.plan_questions.specs.declared.conflicts.needs.Need.{Need}
use Rattle.command_streams.specs.declared.ending.End.{End}
use Rattle.command_streams.specs.declared.ending.End.TheVariants.{Refused}
use Rattle.command_streams.specs.declared.ending.Fault.{Fault}
use Rattle.command_streams.specs.declared.ending.Fault.TheVariants.{Memory, Search, Unwritten}
use Rattle.command_streams.specs.declared.ending.Sink.TheVariants as sink
use Rattle.command_streams.specs.declared.ending.SearchFault.{SearchFault}
use Rattle.command_streams.specs.Instances.{HasInstance, IsInstanceFault}
use Rattle.command_streams.proofs.Outcomes.{keeps as keeps_all}
use Rattle.question_commands.specs.declared.why_texts.Wanted.{Wanted}
use Rattle.question_commands.specs.declared.why.Told.{Told}
use Rattle.question_commands.specs.declared.why.Told.TheVariants.{Plain, Narrowed}
use Rattle.question_commands.specs.Words.{IsOf}
use Rattle.question_commands.specs.Answers.{IsToldOf, IsWhyAnswer, first_text}
use Rattle.question_commands.specs.Telling.{AreLinesCut, AreLinesTold, HasTold, IsAlone, IsBrokenOff, IsFinished, IsUnsaid}

-- no flag is set past the end
set_inside : (flags : List Bool) (k : ℕ) → is_set flags k ≡ true → k < length flags
set_inside flags k is = elim (cases_lt k (length flags)) [
  | inl inside ↦ inside
  | inr past ↦ absurd (true≢false (sym is ∙ get_or_past flags k false past))
]

-- a constraint that an instance has is on what is there
pub is_of : (i : Instance) (c : Constraint) → IsConstraintOf i c → IsOf i c
is_of i one.Horizon is = tt
is_of i (one.Deadline p) is = omega (arith, set_inside (map has_deadline i.processes) p is, length-map i.processes has_deadline)
is_of i (one.Release p) is = omega (arith, set_inside (map has_release i.processes) p is, length-map i.processes has_release)
is_of i (one.Link l) is = omega (arith, set_inside (all_of i).links l is, length-replicate (length i.links) true)
is_of i (one.Message m) is = omega (arith, set_inside (all_of i).messages m is, length-replicate (length i.messages) true)
is_of i (one.Both m) is = omega (arith, set_inside (map is_on_both i.messages) m is, length-map i.messages is_on_both)

-- so is one that was told last
pub last_is_of : (i : Instance) (options : Options) (new : Conflict) (needed : List Constraint) (c : Constraint) → IsNarrowing i options new
    → new.needed.items ≡ needed ++ c ∷ [] → IsOf i c
last_is_of i options new needed c is told =
    let there : All (IsConstraintOf i) (needed ++ c ∷ []) = subst (All (IsConstraintOf i)) told is.known.there in
    let at = there (length needed + 0) c (omega (arith, length-append needed (c ∷ []))) in
    is_of i c (subst (IsConstraintOf i) (get_or-append-add needed (c ∷ []) 0 c) at)

-- what holds of all images holds of what they are of
all_of_map : {X Y : Type 0} (P : Y → Type 0) (f : X → Y) (xs : List X) → All P (map f xs) → All (λ x. P (f x)) xs
all_of_map P f xs all k d inside = subst P (get_or-map f xs k d (f d) inside) (all k (f d) (omega (arith, inside, length-map xs f)))

-- so are those that are kept
pub are_of : (i : Instance) (options : Options) (K : Constraints) (needed : List Constraint) (needs : List Need) → AreAmong K (all_of i)
    → AreMarked i options K needed needs → All (λ need. IsOf i need.constraint) needs
are_of i options K needed needs fewer is =
    let kept = all_of_map (λ c. keeps K c ≡ true) (λ (need : Need). need.constraint) needs (subst (All (λ c. keeps K c ≡ true)) (sym is.all) (listed_kept K)) in
    All-weaker (λ (need : Need). keeps K need.constraint ≡ true) (λ need. IsOf i need.constraint)
    (λ need has. is_of i need.constraint (kept_among K (all_of i) need.constraint fewer has)) needs kept

-- the certificate has a text
pub printable : (i : Instance) (options : Options) (late : Bool) (conflict : Conflict) (old new : Option (List ℕ)) → IsInstance i
    → AreLinesTold i options late conflict old new → Allows conflict.cert.version conflict.cert.tree
printable i options late conflict old new good is =
    answer_allows (only i conflict.kept) options 0 (Infeasible conflict.cert) (rules_kept i conflict.kept good) is.true_lines.conflict.shown.answered

-- nothing is written beside what was told
pub alone : (from before : Option (List ℕ)) (end : End) → IsAlone from from before before end end
alone from before end = record { ends = refl; certificate = keeps_all from; reduced = keeps_all before }

-- what a fault left of a text that is told at once
module _ (i : Instance) (options : Options) (late : Bool) (old new : Option (List ℕ)) where
  pub plain_broken : (answer : FirstAnswer) → IsFirstAnswer i options answer → (fault : Fault) → IsUnsaid (first_text answer) old new fault
      → IsBrokenOff i options late old new fault
  plain_broken answer is Memory keeps = inr (inr (record { lacking = tt; keeps = keeps }))
  plain_broken answer is (Unwritten sink.Out) part = inr (inl (record { answer = answer; is = is; part = (refl, part) }))
  plain_broken answer is fault none = absurd none

  -- of lines
  pub lines_broken : (told : Result Told Fault) → MatchResult told (HasTold i options late old new) (AreLinesCut i options late old new)
      → MatchResult told (HasTold i options late old new) (IsBrokenOff i options late old new)
  lines_broken (Ok told) is = is
  lines_broken (Err fault) is = inl is

  -- or before there was one
  pub search_broken : (fault : SearchFault) → Keeps old new → IsBrokenOff i options late old new (Search fault)
  search_broken fault keeps = inr (inr (record { lacking = tt; keeps = keeps }))

module _ (i : Instance) (options : Options) (wanted : Wanted) (from to before after old new : Option (List ℕ)) (end : End) where
  finished_broken : (fault : Fault) → IsBrokenOff i options wanted.late old new fault → IsAlone from to before after (Refused fault) end
      → IsToldOf i options wanted from to before after old new end
  finished_broken fault (inl lines) alone = inr (inl (record {
    kept = lines.kept;
    cert = lines.cert;
    lines = lines.lines;
    true_lines = lines.true_lines;
    fault = fault;
    ends = alone.ends;
    cut = lines.cut;
    certificate = alone.certificate;
    reduced = alone.reduced;
  }))
  finished_broken fault (inr (inl plain)) alone = inr (inr (inl (record {
    answer = plain.answer;
    is = plain.is;
    ends = inr (rw plain.part.0 at alone.ends, plain.part.1);
    certificate = alone.certificate;
    reduced = alone.reduced;
  })))
  finished_broken fault (inr (inr nothing)) alone = inr (inr (inr (record {
    fault = fault;
    lacking = nothing.lacking;
    ends = alone.ends;
    answer = nothing.keeps;
    certificate = alone.certificate;
    reduced = alone.reduced;
  })))

  -- once what was told is finished, it is the answer
  pub finished_told : (told : Result Told Fault) → MatchResult told (HasTold i options wanted.late old new) (IsBrokenOff i options wanted.late old new)
      → IsFinished wanted i told from to before after end → IsToldOf i options wanted from to before after old new end
  finished_told (Ok (Plain last)) is alone = inr (inr (inl (record {
    answer = is.answer;
    is = is.is;
    ends = inl (rw alone.ends is.ends, is.written);
    certificate = alone.certificate;
    reduced = alone.reduced;
  })))
  finished_told (Ok (Narrowed conflict)) is (inl beside) = inl (record {
    kept = conflict.kept;
    cert = conflict.cert;
    lines = is.lines;
    true_lines = is.true_lines;
    all = is.all;
    written = is.written;
    files = beside.files;
    texts = beside.texts;
    beside = beside.written;
  })
  finished_told (Ok (Narrowed conflict)) is (inr alone) = inr (inl (record {
    kept = conflict.kept;
    cert = conflict.cert;
    lines = is.lines;
    true_lines = is.true_lines;
    fault = Memory;
    ends = alone.ends;
    cut = is.written;
    certificate = alone.certificate;
    reduced = alone.reduced;
  }))
  finished_told (Err fault) is alone = finished_broken fault is alone

-- what was told of the instance that a reader's bytes state is the answer
pub told_of_bytes : (known : Option (List ℕ)) (i : Instance) (options : Options) (wanted : Wanted) (from to before after old new : Option (List ℕ)) (end : End)
    → IfSome known (λ bytes. HasInstance bytes i) → IsToldOf i options wanted from to before after old new end
    → IfSome known (λ bytes. IsWhyAnswer bytes options wanted from to before after old new end)
told_of_bytes None i options wanted from to before after old new end has is = tt
told_of_bytes (Some bytes) i options wanted from to before after old new end has is = inl (record { problem = i; has_instance = has; told = is })

-- and where they state none, it is that nothing is
pub untold_of_bytes : (known : Option (List ℕ)) (options : Options) (wanted : Wanted) (from before old : Option (List ℕ)) (fault : Fault)
    → IfSome known (λ bytes. IsInstanceFault bytes fault) → IfSome known (λ bytes. IsWhyAnswer bytes options wanted from from before before old old (Refused fault))
untold_of_bytes None options wanted from before old fault is = tt
untold_of_bytes (Some bytes) options wanted from before old fault is =
    inr (record { fault = fault; lacking = is; ends = refl; certificate = keeps_all from; reduced = keeps_all before; answer = keeps_all old })

-- What was found, or that nothing was, is told as the answer of `solve` that it is.
use Rattle.std.proofs.Common.{ℕ, Bool, List, Option, None, Some, Result, Ok, Err, IfSome, MatchResult, inl, inr, refl}
use Rattle.std.specs.Prelude.{IsTrue}
use Rattle.std.specs.Io.KnownBytes.{Appends, Keeps}
use Rattle.ttp_model.specs.declared.plan.Plan.{Plan as Table}
use Rattle.ttp_model.specs.Instance.{Instance}
use Rattle.planner.specs.outcome.Options.{Options}
use Rattle.planner.specs.outcome.Outcome.{Outcome}
use Rattle.planner.specs.outcome.Outcome.TheVariants as answer
use Rattle.planner.specs.Answers as answers
use Rattle.plan_commands.specs.declared.verdict.Verified.{Verified}
use Rattle.plan_commands.specs.Printed.{IsPrinted}
use Rattle.plan_commands.proofs.Prints.{delay_of_printed}
use Rattle.solve_command.specs.declared.solve.Enough.{Enough}
use Rattle.solve_command.specs.declared.solve.Solved.{Solved}
use Rattle.command_streams.specs.declared.ending.SearchFault.TheVariants as search
use Rattle.command_streams.specs.declared.ending.Sink.{Sink}
use Rattle.command_streams.specs.declared.ending.Sink.TheVariants as sink
use Rattle.command_streams.specs.declared.ending.Fault.{Fault}
use Rattle.command_streams.specs.declared.ending.Fault.TheVariants.{Memory, Search, Unwritten}
use Rattle.command_streams.specs.declared.ending.End.{End}
use Rattle.command_streams.specs.declared.ending.End.TheVariants.{Refused}
use Rattle.command_streams.specs.Outcomes.{IsCommandAnswer}
use Rattle.command_streams.specs.Instances.{HasInstance}
use Rattle.solve_command.specs.Solved.{IsNoSearch, IsSearchOf, IsSolveAnswer, IsSolved, IsSolvedFrom, IsStartedAnswer, IsUnsolved, IsUnsolvedFrom}
use Rattle.solve_command.specs.Telling.{end_told, IsCertified, IsCertifying, IsTellingOf, IsToldAnswer, IsToldOf, IsUntold, IsWritingTo}

-- an answer's text at the end of that answer
at_end : (outcome : Outcome) (IsTextAt : End → List ℕ → Type 0) (IsRefusedBy : Fault → Type 0) (text : List ℕ) (old new : Option (List ℕ)) → IsTextAt (end_told outcome) text → Appends old new text → IsCommandAnswer IsTextAt IsRefusedBy old new (end_told outcome)
at_end (answer.Optimal plan ticks cert) IsTextAt IsRefusedBy text old new is appends = record { text = text; is = is; appends = appends }
at_end (answer.Infeasible cert) IsTextAt IsRefusedBy text old new is appends = record { text = text; is = is; appends = appends }
at_end (answer.Stopped why low best cert) IsTextAt IsRefusedBy text old new is appends = record { text = text; is = is; appends = appends }

-- nothing is lacking for a writer's sake, and memory may be
pub record CanLack (IsLackingFor : Fault → Type 0) : Type 0 where
  pub memory : IsLackingFor Memory
  pub writers : (s : Sink) → IsLackingFor (Unwritten s) → ⊥

module _ (IsFoundSo : Solved → Type 0) (IsLackingFor : Fault → Type 0) (can : CanLack IsLackingFor) (wanted : Bool) (from to old new : Option (List ℕ)) where
  -- it is certified, and its text is written or the writer fails
  told : (solved : Solved) → IsFoundSo solved → IsCertified (answers.cert_of solved.outcome) from to → (end : End)
      → IsWritingTo (end_told solved.outcome) solved.text.items old new end → IsToldOf IsFoundSo IsLackingFor wanted from to old new end
  told solved is certified end writing =
      let said : IsToldAnswer IsFoundSo IsLackingFor wanted from to (end_told solved.outcome) solved.text.items =
      record { solved = solved; is = is; ends = refl; text_is = refl; certified = certified } in
      elim writing [
        | inl whole ↦ rw whole.0 (at_end solved.outcome (IsToldAnswer IsFoundSo IsLackingFor wanted from to)
            (IsUntold IsFoundSo IsLackingFor wanted from to) solved.text.items old new said whole.1)
        | inr part ↦ rw part.0 (record { at = end_told solved.outcome; text = solved.text.items; is = said; part = part.1 })
      ]

  -- it isn't certified, and no text is written
  uncertified : (solved : Solved) → IsFoundSo solved → IsTrue wanted → (fault : Fault) → IsCertifying (answers.cert_of solved.outcome) from to (Err fault)
      → Keeps old new → IsToldOf IsFoundSo IsLackingFor wanted from to old new (Refused fault)
  uncertified solved is asked Memory kept keeps = ((can.memory, kept), keeps)
  uncertified solved is asked (Unwritten sink.Certificate) part keeps = (record { is_wanted = asked; solved = solved; is = is; part = part }, keeps)
  uncertified solved is asked fault never keeps = absurd never

  -- there is none
  untold : (fault : Fault) → IsLackingFor fault → Keeps from to → Keeps old new → IsToldOf IsFoundSo IsLackingFor wanted from to old new (Refused fault)
  untold (Unwritten s) why kept keeps = absurd (can.writers s why)
  untold fault why kept keeps = ((why, kept), keeps)

  pub found_told : (found : Result Solved Fault) → MatchResult found IsFoundSo IsLackingFor → (end : End) → IsTellingOf found wanted from to old new end
      → IsToldOf IsFoundSo IsLackingFor wanted from to old new end
  found_told (Err fault) why end telling = rw telling.0 (untold fault why telling.1 telling.2)
  found_told (Ok solved) is end telling = elim telling [
    | inl written ↦ told solved is written.0 end written.1
    | inr failed ↦ rw failed.3 (uncertified solved is failed.1 failed.0 failed.2 failed.4)
  ]

-- so it is of what readers give, where they tell
pub told_of_reader : (a : Option (List ℕ)) (found : Result Solved Fault) (options : Options) (enough : Enough) (Ends : Type 0) (wanted : Bool) (from to old new : Option (List ℕ)) (end : End)
    → IfSome a (λ bytes. MatchResult found (IsSolved bytes options enough Ends) (IsUnsolved bytes)) → IsTellingOf found wanted from to old new end
    → IfSome a (λ bytes. IsSolveAnswer bytes options enough Ends wanted from to old new end)
unfolding IsSolveAnswer
told_of_reader None found options enough Ends wanted from to old new end is telling = tt
told_of_reader (Some bytes) found options enough Ends wanted from to old new end is telling =
    found_told (IsSolved bytes options enough Ends) (IsUnsolved bytes) (record { memory = tt; writers = λ s never. absurd never }) wanted from to old new found is end telling

pub told_of_readers : (a b : Option (List ℕ)) (found : Result Solved Fault) (options : Options) (enough : Enough) (Ends : Type 0) (wanted : Bool) (from to old new : Option (List ℕ)) (end : End)
    → IfSome a (λ bytes. IfSome b (λ plan. MatchResult found (IsSolvedFrom bytes plan options enough Ends) (IsUnsolvedFrom bytes plan)))
    → IsTellingOf found wanted from to old new end → IfSome a (λ bytes. IfSome b (λ plan. IsStartedAnswer bytes plan options enough Ends wanted from to old new end))
unfolding IsStartedAnswer
told_of_readers None b found options enough Ends wanted from to old new end is telling = tt
told_of_readers (Some bytes) None found options enough Ends wanted from to old new end is telling = tt
told_of_readers (Some bytes) (Some plan) found options enough Ends wanted from to old new end is telling =
    found_told (IsSolvedFrom bytes plan options enough Ends) (IsUnsolvedFrom bytes plan) (record { memory = tt; writers = λ s never. absurd never }) wanted from to old new found is end telling

-- what is found of an instance is found of the bytes that state it
solved_bytes : (bytes : List ℕ) (i : Instance) (start : Option Table) (options : Options) (enough : Enough) (Ends : Type 0) (solved : Solved)
    → HasInstance bytes i → IsSearchOf i start options enough Ends solved → IsSolved bytes options enough Ends solved
solved_bytes bytes i start options enough Ends solved has_instance is = record {
  has_instance = rw is.of has_instance;
  is_answer = rw is.of is.is_answer;
  shows = rw is.of is.shows;
  tells = rw is.of is.tells;
  called_off = is.called_off;
}

unsolved_bytes : (bytes : List ℕ) (i : Instance) (fault : Fault) → HasInstance bytes i → IsNoSearch fault → IsUnsolved bytes fault
unsolved_bytes bytes i Memory has_instance is = tt
unsolved_bytes bytes i (Search search.Memory) has_instance is = record { problem = i; has_instance = has_instance }
unsolved_bytes bytes i (Search search.Thread) has_instance is = record { problem = i; has_instance = has_instance }
unsolved_bytes bytes i fault has_instance is = absurd is

pub solved_of_bytes : (a : Option (List ℕ)) (i : Instance) (start : Option Table) (options : Options) (enough : Enough) (Ends : Type 0) (found : Result Solved Fault)
    → IfSome a (λ bytes. HasInstance bytes i) → MatchResult found (IsSearchOf i start options enough Ends) IsNoSearch
    → IfSome a (λ bytes. MatchResult found (IsSolved bytes options enough Ends) (IsUnsolved bytes))
solved_of_bytes None i start options enough Ends found has_instance is = tt
solved_of_bytes (Some bytes) i start options enough Ends (Ok solved) has_instance is = solved_bytes bytes i start options enough Ends solved has_instance is
solved_of_bytes (Some bytes) i start options enough Ends (Err fault) has_instance is = unsolved_bytes bytes i fault has_instance is

-- and where it began with a plan, of the bytes that have printed that one
solved_texts : (bytes plan : List ℕ) (v : Verified) (options : Options) (enough : Enough) (Ends : Type 0) (solved : Solved)
    → IsPrinted bytes plan v → IsSearchOf v.instance (Some v.plan) options enough Ends solved → IsSolvedFrom bytes plan options enough Ends solved
solved_texts bytes plan v options enough Ends solved verified is = record {
  is = solved_bytes bytes v.instance (Some v.plan) options enough Ends solved verified.has_instance is;
  first = v.plan;
  ticks = v.delay;
  begins = rw is.of verified.has_plan;
  no_later = rw (is.of, ← delay_of_printed v.instance plan v.plan v.delay verified.has_plan) is.no_later;
}

-- or why these have no answer
unsolved_texts : (bytes plan : List ℕ) (v : Verified) (fault : Fault) → IsPrinted bytes plan v → IsNoSearch fault → IsUnsolvedFrom bytes plan fault
unsolved_texts bytes plan v Memory verified is = tt
unsolved_texts bytes plan v (Search fault) verified is = record { verified = v; is = verified }
unsolved_texts bytes plan v fault verified is = absurd is

pub solved_of_texts : (a b : Option (List ℕ)) (v : Verified) (options : Options) (enough : Enough) (Ends : Type 0) (found : Result Solved Fault)
    → IfSome a (λ bytes. IfSome b (λ plan. IsPrinted bytes plan v)) → MatchResult found (IsSearchOf v.instance (Some v.plan) options enough Ends) IsNoSearch
    → IfSome a (λ bytes. IfSome b (λ plan. MatchResult found (IsSolvedFrom bytes plan options enough Ends) (IsUnsolvedFrom bytes plan)))
solved_of_texts None b v options enough Ends found verified is = tt
solved_of_texts (Some bytes) None v options enough Ends found verified is = tt
solved_of_texts (Some bytes) (Some plan) v options enough Ends (Ok solved) verified is = solved_texts bytes plan v options enough Ends solved verified is
solved_of_texts (Some bytes) (Some plan) v options enough Ends (Err fault) verified is = unsolved_texts bytes plan v fault verified is

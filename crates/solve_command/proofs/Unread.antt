-- Where the instance is refused, the plan to begin with is left unread: no fault of the instance comes of a search or of a writer.
use Rattle.std.proofs.Common.{ℕ, Bool, List, Option, Result, Ok, Err, IfErr, MatchResult, inl, inr}
use Rattle.ttp_model.specs.declared.plan.Plan.{Plan as Table}
use Rattle.ttp_model.specs.Instance.{Instance}
use Rattle.certificate.specs.Cert.{Cert}
use Rattle.instance_text.specs.declared.error.TextError.{TextError}
use Rattle.planner.specs.outcome.Options.{Options}
use Rattle.planner.specs.outcome.Outcome.{Outcome}
use Rattle.planner.specs.outcome.Outcome.TheVariants as answer
use Rattle.planner.specs.Answers as answers
use Rattle.command_streams.specs.declared.ending.Source.TheVariants as source
use Rattle.command_streams.specs.declared.ending.Fault.{Fault}
use Rattle.command_streams.specs.declared.ending.Fault.TheVariants.{InstanceText, TooLong, Unread}
use Rattle.command_streams.specs.declared.ending.End.{End}
use Rattle.command_streams.specs.Instances.{IsOfInstance}
use Rattle.command_streams.specs.Outcomes.{IfRefused}
use Rattle.solve_command.specs.declared.solve.Enough.{Enough}
use Rattle.solve_command.specs.declared.solve.Solved.{Solved}
use Rattle.solve_command.specs.Solved.{IsNoSearch, IsSearchOf}
use Rattle.solve_command.specs.Telling.{end_told, IsCertifying, IsTellingOf}

-- what holds of each fault of the instance
by_instance : (Holds : Fault → Type 0) → ((error : TextError) → Holds (InstanceText error)) → Holds (Unread source.Instance)
    → Holds (TooLong source.Instance) → (fault : Fault) → IsOfInstance fault → Holds fault
by_instance Holds text unread long (InstanceText error) is = text error
by_instance Holds text unread long (Unread source.Instance) is = unread
by_instance Holds text unread long (TooLong source.Instance) is = long
by_instance Holds text unread long fault is = absurd is

module _ (Kept : Type 0) where
  of_search : (fault : Fault) → IsNoSearch fault → IsOfInstance fault → Kept
  of_search fault is of = absurd (by_instance (λ fault. IsNoSearch fault → ⊥) (λ error never. never) (λ never. never) (λ never. never) fault of is)

  -- the search of an instance that is read has none
  pub unread_searched : (i : Instance) (start : Option Table) (options : Options) (enough : Enough) (Ends : Type 0) (found : Result Solved Fault)
      → MatchResult found (IsSearchOf i start options enough Ends) IsNoSearch → IfErr found (λ fault. IsOfInstance fault → Kept)
  unread_searched i start options enough Ends (Ok solved) is = tt
  unread_searched i start options enough Ends (Err fault) is = of_search fault is

  answered : (outcome : Outcome) → IfRefused (end_told outcome) (λ fault. IsOfInstance fault → Kept)
  answered (answer.Optimal plan ticks cert) = tt
  answered (answer.Infeasible cert) = tt
  answered (answer.Stopped why low best cert) = tt

  module _ (from to old new : Option (List ℕ)) where
    certified : (cert : Cert) (fault : Fault) → IsCertifying cert from to (Err fault) → IsOfInstance fault → Kept
    certified cert fault is of =
        absurd (by_instance (λ fault. IsCertifying cert from to (Err fault) → ⊥) (λ error never. never) (λ never. never) (λ never. never) fault of is)

    -- and so has what is told of it
    pub unread_told : (found : Result Solved Fault) (wanted : Bool) (end : End) → IfErr found (λ fault. IsOfInstance fault → Kept)
        → IsTellingOf found wanted from to old new end → IfRefused end (λ fault. IsOfInstance fault → Kept)
    unread_told (Err fault) wanted end kept telling = rw telling.0 kept
    unread_told (Ok solved) wanted end kept telling = elim telling [
      | inl written ↦ elim written.1 [ inl whole ↦ rw whole.0 (answered solved.outcome) | inr part ↦ rw part.0 (λ is. absurd is) ]
      | inr failed ↦ rw failed.3 (certified (answers.cert_of solved.outcome) failed.0 failed.2)
    ]

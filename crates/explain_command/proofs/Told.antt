-- What is told of a text for an instance, once both are read; and a text that is told and written is a command's outcome.
use Rattle.std.proofs.Common.{◌≡◌, ℕ, List, Option, None, Some, Result, Ok, Err, IfErr, IfOk, IfSome, inr, subst}
use Rattle.ttp_model.specs.Instance.{Instance}
use Rattle.command_streams.specs.Instances.{HasInstance, StatesSome}
use Rattle.command_streams.specs.Outcomes.{IsCommandAnswer, IsWriting, OnDone}
use Rattle.command_streams.specs.Streams.{IsReadFault}
use Rattle.command_streams.proofs.StatedOnce.{by_read_fault}
use Rattle.plan_commands.specs.Printed.{printed_limit}
use Rattle.plan_commands.proofs.Prints.{long_text}
use Rattle.command_streams.specs.declared.ending.End.{End}
use Rattle.command_streams.specs.declared.ending.End.TheVariants.{Refused}
use Rattle.command_streams.specs.declared.ending.Sink.TheVariants.{Out}
use Rattle.command_streams.specs.declared.ending.Source.TheVariants as source
use Rattle.command_streams.specs.declared.ending.Fault.{Fault}
use Rattle.command_streams.specs.declared.ending.Fault.TheVariants.{Memory, TooLong, Unread, Unwritten}
use Rattle.command_streams.proofs.Outcomes.{written_outcome}
use Rattle.plan_commands.proofs.Tellings.{refused_outcome}
use Rattle.explain_command.specs.declared.instances.Stated.{Stated}
use Rattle.explain_command.specs.declared.instances.Stated.TheVariants.{Instance as Of}
use Rattle.explain_command.specs.Instances.{IsStatedOf, TellsInstance, TellsSizes}
use Rattle.explain_command.specs.Certificates.{IsUnreadable}
use Rattle.explain_command.specs.Explained.{IsCertificateUntold, IsPlanUntold, TellsBoth}
use Rattle.explain_command.specs.Plans.{IsPlanUnread}

-- of one reader
pub told_of_one : (Tells : List ℕ → List ℕ → Type 0) (RefusedBy : List ℕ → Fault → Type 0) (a : Option (List ℕ)) (text : List ℕ) (old new : Option (List ℕ))
    (end : End) → IfSome a (λ i. Tells i text) → IsWriting text old new end → IfSome a (λ i. IsCommandAnswer (OnDone (Tells i)) (RefusedBy i) old new end)
told_of_one Tells RefusedBy None text old new end is writing = tt
told_of_one Tells RefusedBy (Some i) text old new end is writing = written_outcome (Tells i) (RefusedBy i) text is old new end writing

-- and of two
pub told_of_two : (Tells : List ℕ → List ℕ → List ℕ → Type 0) (RefusedBy : List ℕ → List ℕ → Fault → Type 0) (a b : Option (List ℕ)) (text : List ℕ)
    (old new : Option (List ℕ)) (end : End) → IfSome a (λ i. IfSome b (λ p. Tells i p text)) → IsWriting text old new end
    → IfSome a (λ i. IfSome b (λ p. IsCommandAnswer (OnDone (Tells i p)) (RefusedBy i p) old new end))
told_of_two Tells RefusedBy None b text old new end is writing = tt
told_of_two Tells RefusedBy (Some i) None text old new end is writing = tt
told_of_two Tells RefusedBy (Some i) (Some p) text old new end is writing = written_outcome (Tells i p) (RefusedBy i p) text is old new end writing

-- of two nothing is told, for this fault
pub untold_of_two : (Tells : List ℕ → List ℕ → List ℕ → Type 0) (RefusedBy : List ℕ → List ℕ → Fault → Type 0) (a b old : Option (List ℕ)) (fault : Fault)
    → ((i p : List ℕ) → ¬ RefusedBy i p (Unwritten Out)) → IfSome a (λ i. IfSome b (λ p. RefusedBy i p fault))
    → IfSome a (λ i. IfSome b (λ p. IsCommandAnswer (OnDone (Tells i p)) (RefusedBy i p) old old (Refused fault)))
untold_of_two Tells RefusedBy None b old fault never is = tt
untold_of_two Tells RefusedBy (Some i) None old fault never is = tt
untold_of_two Tells RefusedBy (Some i) (Some p) old fault never is = refused_outcome (OnDone (Tells i p)) (RefusedBy i p) (never i p) old fault is

-- a text that is told behind the instance
pub behind : (Tells : Instance → List ℕ → List ℕ → Type 0) (a b : Option (List ℕ)) (problem : Instance) (text : List ℕ) → IfSome a (λ i. HasInstance i problem)
    → IfSome b (λ p. Tells problem p text) → IfSome a (λ i. IfSome b (λ p. TellsBoth Tells i p text))
behind Tells None b problem text has told = tt
behind Tells (Some i) None problem text has told = tt
behind Tells (Some i) (Some p) problem text has told = inr (record { problem = problem; has_instance = has; tells = told })

plan_untold : (i p : List ℕ) (problem : Instance) (fault : Fault) → HasInstance i problem → IsPlanUnread p fault → IsPlanUntold i p fault
plan_untold i p problem Memory has is = tt
plan_untold i p problem (Unread source.Plan) has is = record { problem = problem; has_instance = has }
plan_untold i p problem (TooLong source.Plan) has is = (record { problem = problem; has_instance = has }, is)
plan_untold i p problem fault has is = absurd is

-- why a printed plan isn't read
pub plan_unread : (b : Option (List ℕ)) (fault : Fault) → IsReadFault source.Plan printed_limit b fault → IfSome b (λ p. IsPlanUnread p fault)
plan_unread None fault is = tt
plan_unread (Some p) fault is = by_read_fault (IsPlanUnread p) source.Plan printed_limit (Some p) tt tt (λ long. long_text p long) fault is

-- what is said of the bytes that were read is said of those that the reader had
pub said_of_reader : {S : Type 0} (Says : List ℕ → Result S Fault → Type 0) (b : Option (List ℕ)) (bytes : List ℕ) (result : Result S Fault)
    → IfSome b (λ p. bytes ≡ p) → Says bytes result → IfSome b (λ p. Says p result)
said_of_reader Says None bytes result is said = tt
said_of_reader Says (Some p) bytes result is said = subst (λ (read : List ℕ). Says read result) is said

pub plans_untold : (a b : Option (List ℕ)) (problem : Instance) (fault : Fault) → IfSome a (λ i. HasInstance i problem) → IfSome b (λ p. IsPlanUnread p fault)
    → IfSome a (λ i. IfSome b (λ p. IsPlanUntold i p fault))
plans_untold None b problem fault has is = tt
plans_untold (Some i) None problem fault has is = tt
plans_untold (Some i) (Some p) problem fault has is = plan_untold i p problem fault has is

certificate_untold : (i c : List ℕ) (problem : Instance) (fault : Fault) → HasInstance i problem → IsUnreadable c fault → IsCertificateUntold i c fault
certificate_untold i c problem Memory has is = tt
certificate_untold i c problem (Unread source.Certificate) has is = record { problem = problem; has_instance = has }
certificate_untold i c problem (TooLong source.Certificate) has is = (record { problem = problem; has_instance = has }, is)
certificate_untold i c problem fault has is = absurd is

pub certificates_untold : (a b : Option (List ℕ)) (problem : Instance) (fault : Fault) → IfSome a (λ i. HasInstance i problem)
    → IfSome b (λ c. IsUnreadable c fault) → IfSome a (λ i. IfSome b (λ c. IsCertificateUntold i c fault))
certificates_untold None b problem fault has is = tt
certificates_untold (Some i) None problem fault has is = tt
certificates_untold (Some i) (Some c) problem fault has is = certificate_untold i c problem fault has is

always : (a b : Option (List ℕ)) → IfSome a (λ i. IfSome b (λ p. Unit {0}))
always None b = tt
always (Some i) None = tt
always (Some i) (Some p) = tt

-- what a second reader's bytes tell, or why they tell nothing
module _ (a b : Option (List ℕ)) (problem : Instance) (has : IfSome a (λ i. HasInstance i problem)) where
  pub both_told : {S : Type 0} (Tells : Instance → List ℕ → List ℕ → Type 0) (text_of : S → List ℕ) (result : Result S Fault)
      → IfSome b (λ p. IfOk result (λ text. Tells problem p (text_of text)))
      → IfSome a (λ i. IfSome b (λ p. IfOk result (λ text. TellsBoth Tells i p (text_of text))))
  both_told Tells text_of (Ok text) told = behind Tells a b problem (text_of text) has told
  both_told Tells text_of (Err fault) told = always a b

  pub no_plan_told : {S : Type 0} (result : Result S Fault) → IfSome b (λ p. IfErr result (IsPlanUnread p))
      → IfSome a (λ i. IfSome b (λ p. IfErr result (IsPlanUntold i p)))
  no_plan_told (Ok text) why = always a b
  no_plan_told (Err fault) why = plans_untold a b problem fault has why

  pub no_certificate_told : {S : Type 0} (result : Result S Fault) → IfSome b (λ c. IfErr result (IsUnreadable c))
      → IfSome a (λ i. IfSome b (λ c. IfErr result (IsCertificateUntold i c)))
  no_certificate_told (Ok text) why = always a b
  no_certificate_told (Err fault) why = certificates_untold a b problem fault has why

-- the instance that was read
pub stated_at : (a : Option (List ℕ)) (stated : Stated) (problem : Instance) → stated ≡ Of problem → IfSome a (λ bytes. IsStatedOf bytes stated)
    → IfSome a (λ bytes. HasInstance bytes problem)
stated_at None stated problem is of = tt
stated_at (Some bytes) stated problem is of = subst (IsStatedOf bytes) is of

-- where the instance was read its bytes state one, so nothing is asked of those that state none
pub never_asked : (Asked : Type 0) (a : Option (List ℕ)) (problem : Instance) → IfSome a (λ i. HasInstance i problem) → IfSome a (λ i. ¬ StatesSome i → Asked)
never_asked Asked None problem has = tt
never_asked Asked (Some i) problem has = λ none. absurd (none (record { problem = problem; has_instance = has }))

-- what is told of the instance that was read
pub good_told : {S : Type 0} (a : Option (List ℕ)) (problem : Instance) (text_of : S → List ℕ) (result : Result S Fault) → IfSome a (λ i. HasInstance i problem)
    → IfOk result (λ text. TellsSizes problem (text_of text)) → IfSome a (λ i. IfOk result (λ text. TellsInstance i (text_of text)))
good_told None problem text_of result has told = tt
good_told (Some i) problem text_of (Ok text) has told = inr (record { problem = problem; has_instance = has; tells = told })
good_told (Some i) problem text_of (Err fault) has told = tt

-- What is told of two plans is an answer of what four readers tell, where they do.
use Rattle.std.proofs.Common.{List, ℕ, Option, None, Some, IfSome, refl}
use Rattle.command_streams.specs.declared.ending.Sink.TheVariants.{Out}
use Rattle.command_streams.specs.declared.ending.Fault.{Fault}
use Rattle.command_streams.specs.declared.ending.Fault.TheVariants.{Memory, Unwritten}
use Rattle.command_streams.specs.declared.ending.Release.TheVariants.{New}
use Rattle.command_streams.specs.declared.ending.End.{End}
use Rattle.command_streams.specs.declared.ending.End.TheVariants.{Different, Done, Refused, RefusedOf}
use Rattle.command_streams.proofs.Outcomes.{keeps}
use Rattle.plan_changes.specs.Changes.{changes_text}
use Rattle.plan_commands.specs.declared.verdict.Verified.{Verified}
use Rattle.plan_commands.specs.Printed.{IsPrinted, IsUnprinted}
use Rattle.plan_commands.specs.Comparisons.{AreVerified, IsCompareAnswer, IsTelling, SayVerified, Texts, planned_of}

module _ (old new : Texts) (before after : Verified) (says_before : SayVerified old before) (says_after : SayVerified new after) where
  abbrev both : AreVerified old new
  both = record { before = before; says_before = says_before; after = after; says_after = says_after }

  answered : (out written : Option (List ℕ)) (end : End) → IsTelling (planned_of before) (planned_of after) out written end
      → IsCompareAnswer old new out written end
  answered out written Done told =
      record { text = changes_text (planned_of before) (planned_of after); is = record { both = both; told = refl; holds = told.0 }; appends = told.1 }
  answered out written Different told =
      record { text = changes_text (planned_of before) (planned_of after); is = record { both = both; told = refl; holds = told.0 }; appends = told.1 }
  answered out written (Refused (Unwritten Out)) told =
      record { text = changes_text (planned_of before) (planned_of after); is = record { both = both; told = refl; holds = tt }; part = told }
  answered out written (Refused Memory) told = (both, told)
  answered out written end told = absurd told

-- the new release is verified
pub new_told : (a b : Option (List ℕ)) (old new : Verified) (out written : Option (List ℕ)) (end : End)
    → IfSome a (λ i. IfSome b (λ p. IsPrinted i p new)) → IsTelling (planned_of old) (planned_of new) out written end
    → (texts : Texts) → SayVerified texts old → IfSome a (λ i. IfSome b (λ p. IsCompareAnswer texts (record { instance = i; plan = p }) out written end))
new_told None b old new out written end verified told texts says = tt
new_told (Some i) None old new out written end verified told texts says = tt
new_told (Some i) (Some p) old new out written end verified told texts says =
    answered texts (record { instance = i; plan = p }) old new says verified out written end told

-- it is refused
pub new_refused : (a b : Option (List ℕ)) (old : Verified) (out : Option (List ℕ)) (fault : Fault) → IfSome a (λ i. IfSome b (λ p. IsUnprinted i p fault))
    → (texts : Texts) → SayVerified texts old
    → IfSome a (λ i. IfSome b (λ p. IsCompareAnswer texts (record { instance = i; plan = p }) out out (RefusedOf New fault)))
new_refused None b old out fault refused texts says = tt
new_refused (Some i) None old out fault refused texts says = tt
new_refused (Some i) (Some p) old out fault refused texts says = (record { verified = old; says = says; refused = refused }, keeps out)

-- the old one is verified, and what is answered then is known
pub old_told : (a b c d : Option (List ℕ)) (old : Verified) (out written : Option (List ℕ)) (end : End)
    → IfSome a (λ i. IfSome b (λ p. IsPrinted i p old))
    → ((texts : Texts) → SayVerified texts old → IfSome c (λ j. IfSome d (λ q. IsCompareAnswer texts (record { instance = j; plan = q }) out written end)))
    → IfSome a (λ i. IfSome b (λ p. IfSome c (λ j. IfSome d (λ q.
    IsCompareAnswer (record { instance = i; plan = p }) (record { instance = j; plan = q }) out written end))))
old_told None b c d old out written end verified answers = tt
old_told (Some i) None c d old out written end verified answers = tt
old_told (Some i) (Some p) c d old out written end verified answers = answers (record { instance = i; plan = p }) verified

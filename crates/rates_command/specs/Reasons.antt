-- Why bytes state no cluster of several rates. Own profile.
use Rattle.std.specs.Prelude.{◌≡◌, ℕ, List, Err, Ok}
use Rattle.toml.specs.Data.{Members}
use Rattle.toml.specs.View.{table_view}
use Rattle.instance_text.specs.Faults.{IsDocument, IsNoDocument}
use Rattle.instance_reasons.specs.declared.texts.TextReason.{TextReason}
use Rattle.rates_model.specs.declared.error.RatesError.{RatesError}
use Rattle.rates_model.specs.Parts.{rates_of}
use Rattle.rates_model.specs.Rates.{Rates}
use Rattle.rates_model.specs.Refusals.{IsRatesRefusal}
use Rattle.rates_text.specs.declared.error.RatesTextError.{RatesTextError}
use Rattle.rates_text.specs.declared.error.RatesTextError.TheVariants as fault
use Rattle.rates_text.specs.Faults.{StatesRates}
use Rattle.rates_text.specs.Stated.{stated}
use Rattle.rates_command.specs.declared.reason.RatesAgain.{RatesAgain}
use Rattle.rates_command.specs.declared.reason.RatesAgain.TheVariants as again
use Rattle.rates_command.specs.declared.reason.RatesReason.{RatesReason}
use Rattle.rates_command.specs.declared.reason.RatesReason.TheVariants as reason
use Rattle.rates_command.specs.declared.rules.RatesRuleReason.{RatesRuleReason}
use Rattle.rates_command.specs.Rules.{IsRatesRuleReason}
use Rattle.rates_command.specs.Texts.{IsOfTable, IsRatesTextReason}

-- what was read again has this fault
abbrev pub HasFault : RatesAgain → RatesTextError → Type 0
HasFault (again.NotToml said) e = e ≡ fault.NotToml
HasFault (again.Table table) e = IsOfTable e
HasFault (again.Parts parts) (fault.Refused e) = IsRatesRefusal (rates_of parts) e
HasFault (again.Parts parts) _ = ⊥

-- and this is the reason in it
abbrev pub IsReasonIn : RatesAgain → RatesTextError → RatesReason → Type 0
IsReasonIn (again.NotToml said) e (reason.NotToml r) = e ≡ fault.NotToml
IsReasonIn (again.Table table) e (reason.Text r) = IsRatesTextReason (table_view table) e r
IsReasonIn (again.Parts parts) (fault.Refused e) (reason.Rule r) = IsRatesRuleReason (rates_of parts) e r
IsReasonIn _ _ _ = ⊥

-- of the table that the bytes are, whose first fault this is
pub record IsOfText (bytes : List ℕ) (e : RatesTextError) (r : TextReason) : Type 0 where
  pub table : Members
  pub document : IsDocument bytes table
  pub first : stated table ≡ Err e
  pub told : IsRatesTextReason table e r

-- of the cluster that the bytes state, which breaks a rule
pub record IsOfRule (bytes : List ℕ) (e : RatesError) (r : RatesRuleReason) : Type 0 where
  pub rates : Rates
  pub states : StatesRates bytes (Ok rates)
  pub refusal : IsRatesRefusal rates e
  pub told : IsRatesRuleReason rates e r

-- the reason of just that fault of bytes; of those that are no TOML nothing is known of what their reader says
abbrev pub IsRatesReason : List ℕ → RatesTextError → RatesReason → Type 0
IsRatesReason bytes fault.NotToml (reason.NotToml said) = IsNoDocument bytes
IsRatesReason bytes (fault.Refused e) (reason.Rule r) = IsOfRule bytes e r
IsRatesReason bytes e (reason.Text r) = IsOfText bytes e r
IsRatesReason bytes _ _ = ⊥

-- bytes that were read again: what is a reason in what came of them is one of the bytes
pub record IsReadAgain (bytes : List ℕ) (e : RatesTextError) (again : RatesAgain) : Type 0 where
  pub has_fault : HasFault again e
  pub tells : (r : RatesReason) → IsReasonIn again e r → IsRatesReason bytes e r

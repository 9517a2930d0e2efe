-- How a fault of a part is the fault of the whole.
use Rattle.std.proofs.Common.{◌≡◌, ◌≢◌, ℕ, List, refl, Result, Ok, Err, IfErr, IsErrAnd}
use Rattle.std.proofs.lemmas.Result.{IfErr-at_err}
use Rattle.toml.specs.Data.{Members}
use Rattle.instance_text.specs.Faults.{IsDocument, IsNoDocument, IsTextFault as IsOldTextFault}
use Rattle.instance_text.specs.declared.error.TextError.{TextError}
use Rattle.instance_text.specs.declared.error.TextError.TheVariants as old
use Rattle.rates_model.specs.Rates.{Rates}
use Rattle.rates_text.specs.declared.error.RatesTextError.{RatesTextError}
use Rattle.rates_text.specs.declared.error.RatesTextError.TheVariants.{NotToml, Refused, OutOfMemory}
use Rattle.rates_text.specs.Kinds.{Stated}
use Rattle.rates_text.specs.Faults.{IsFaultOfPart, StatesRates, IsFirstRatesFault}
use Rattle.rates_text.specs.Stated.{stated}
use Rattle.rates_text.proofs.TableFaults.{IsTableFault, HasTableFault-stated}

-- what is true of an error is true of it at the exit of a `?`
pub handed : {A : Type 0} (P : RatesTextError → Type 0) (r : Result A RatesTextError) (e : RatesTextError) → IsErrAnd r (λ d. d ≡ e) → P e → IfErr r P
handed P (Ok x) e from holds = tt
handed P (Err d) e from holds = rw from holds

-- a fault that is handed on
pub handed_on : {A B : Type 0} (r : Result A RatesTextError) (s : Stated B) (e : RatesTextError) → IsErrAnd r (λ d. d ≡ e) → IsFaultOfPart s e → IfErr r (IsFaultOfPart s)
handed_on r s e from fault = handed (IsFaultOfPart s) r e from fault

-- a fault of a text that isn't want of memory is that it is no TOML
pub no_document : (bytes : List ℕ) (e : TextError) → IsOldTextFault bytes e → e ≢ old.OutOfMemory → IsNoDocument bytes
no_document bytes old.NotToml fault other = fault
no_document bytes old.OutOfMemory fault other = absurd (other refl)
no_document bytes e fault other = absurd fault

module _ (bytes : List ℕ) where
  -- what the table states, the bytes state
  pub states_by : (table : Members) (part : Stated Rates) → IsDocument bytes table → stated table ≡ part → StatesRates bytes part
  states_by table part document reading = record { table = table; document = document; reading = reading }

  -- a fault of the table is one of the bytes, and none of the other three
  pub table_fault : (table : Members) (e : RatesTextError) → IsDocument bytes table → IsFaultOfPart (stated table) e → IsFirstRatesFault bytes e
  table_fault table NotToml document fault = absurd (IfErr-at_err IsTableFault (fault (λ same. cc)) (HasTableFault-stated table))
  table_fault table (Refused e) document fault = absurd (IfErr-at_err IsTableFault (fault (λ same. cc)) (HasTableFault-stated table))
  table_fault table OutOfMemory document fault = document.utf8
  table_fault table e document fault = states_by table (Err e) document (fault (λ same. cc))

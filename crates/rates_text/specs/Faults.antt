-- When a fault is the first of a text, or of a part of it.
use Rattle.std.specs.Prelude.{◌≡◌, ◌≢◌, ℕ, List, Ok, Err, IsUtf8}
use Rattle.toml.specs.Data.{Members}
use Rattle.instance_text.specs.Faults.{IsDocument, IsNoDocument}
use Rattle.rates_model.specs.Rates.{Rates}
use Rattle.rates_model.specs.Refusals.{IsRatesRefusal}
use Rattle.rates_model.specs.declared.error.RatesError.{RatesError}
use Rattle.rates_text.specs.declared.error.RatesTextError.{RatesTextError}
use Rattle.rates_text.specs.declared.error.RatesTextError.TheVariants.{NotToml, Refused, OutOfMemory}
use Rattle.rates_text.specs.Kinds.{Stated}
use Rattle.rates_text.specs.Stated.{stated}

-- the fault is the first of this part, unless it is that memory ran out
abbrev pub IsFaultOfPart : {A : Type 0} → Stated A → RatesTextError → Type 0
IsFaultOfPart part e = e ≢ OutOfMemory → part ≡ Err e

-- the only fault that bytes can have before their table is judged
abbrev pub IsTextFault : List ℕ → RatesTextError → Type 0
IsTextFault bytes NotToml = IsNoDocument bytes
IsTextFault bytes OutOfMemory = IsUtf8 bytes
IsTextFault bytes _ = ⊥

-- the bytes are a TOML text, and this is the cluster of several rates that it states, or its first fault
pub record StatesRates (bytes : List ℕ) (part : Stated Rates) : Type 0 where
  pub table : Members
  pub document : IsDocument bytes table
  pub reading : stated table ≡ part

-- The bytes state a cluster that breaks a rule.
pub record AreRefused (bytes : List ℕ) (e : RatesError) : Type 0 where
  pub rates : Rates
  pub states : StatesRates bytes (Ok rates)
  pub refusal : IsRatesRefusal rates e

-- The first fault of the bytes: that they are no TOML, then one that the table has, then a rule that is broken. Want of
-- memory may come in place of any answer but that they are no UTF-8.
abbrev pub IsFirstRatesFault : List ℕ → RatesTextError → Type 0
IsFirstRatesFault bytes NotToml = IsNoDocument bytes
IsFirstRatesFault bytes (Refused e) = AreRefused bytes e
IsFirstRatesFault bytes OutOfMemory = IsUtf8 bytes
IsFirstRatesFault bytes e = StatesRates bytes (Err e)

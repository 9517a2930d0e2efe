-- A refused text that is read again has the same fault, and what is a reason in it is one of its bytes.
use Rattle.std.proofs.Common.{◌≡◌, ◌≢◌, ℕ, String, Global, List, Ok, Err, refl}
use Rattle.std.specs.BTreeMap.{BTreeMap}
use Rattle.toml.specs.Data.{Members}
use Rattle.toml.specs.View.{table_view}
use Rattle.toml.specs.declared.value.Value.{Value}
use Rattle.instance_text.specs.Faults.{IsDocument, IsNoDocument}
use Rattle.instance_reasons.specs.declared.grammar.NotToml.{NotToml as Unparsed}
use Rattle.rates_model.specs.declared.error.RatesError.{RatesError}
use Rattle.rates_model.specs.declared.parts.RatesParts.{RatesParts}
use Rattle.rates_model.specs.Parts.{rates_of}
use Rattle.rates_model.specs.Rates.{Rates}
use Rattle.rates_text.specs.declared.error.RatesTextError.{RatesTextError}
use Rattle.rates_text.specs.declared.error.RatesTextError.TheVariants.{NotToml, OutOfMemory, Refused}
use Rattle.rates_text.specs.Faults.{AreRefused, IsFirstRatesFault, StatesRates}
use Rattle.rates_text.specs.Kinds.{Stated}
use Rattle.rates_text.specs.Stated.{stated}
use Rattle.rates_command.specs.declared.reason.RatesReason.{RatesReason}
use Rattle.rates_command.specs.declared.reason.RatesReason.TheVariants as reason
use Rattle.rates_command.specs.declared.reason.RatesAgain.TheVariants as again
use Rattle.rates_command.specs.Reasons.{IsRatesReason, IsReadAgain, IsReasonIn}
use Rattle.rates_command.specs.Texts.{IsOfTable}

module _ (bytes : List ℕ) where
  said : (e : RatesTextError) (r : RatesReason) (x : Unparsed) → IsNoDocument bytes → e ≡ NotToml → IsReasonIn (again.NotToml x) e r
      → IsRatesReason bytes NotToml r
  said e (reason.NotToml r) x none is _ = none
  said e (reason.Text r) x none is never = absurd never
  said e (reason.Rule r) x none is never = absurd never

  pub no_toml : (e : RatesTextError) (x : Unparsed) → IsFirstRatesFault bytes e → e ≢ OutOfMemory → IsNoDocument bytes → IsReadAgain bytes e (again.NotToml x)
  no_toml NotToml x first other none = record { has_fault = refl; tells = λ r is. said NotToml r x none refl is }
  no_toml (Refused e) x first other none = absurd (none first.states.table first.states.document)
  no_toml OutOfMemory x first other none = absurd (other refl)
  no_toml e x first other none = absurd (none first.table first.document)

  -- the table that the bytes are states what they state
  same_stated : (part : Stated Rates) (ms : Members) → StatesRates bytes part → IsDocument bytes ms → stated ms ≡ part
  same_stated part ms states document =
      let one = states.document.parsed in
      let two = document.parsed in
      let table : states.table ≡ ms = cc in
      rw table at states.reading

  text_told : (e : RatesTextError) (t : BTreeMap (String Global) Value) (r : RatesReason) → IsOfTable e → IsDocument bytes (table_view t)
      → stated (table_view t) ≡ Err e → IsReasonIn (again.Table t) e r → IsRatesReason bytes e r
  text_told NotToml t r never document first told = absurd never
  text_told (Refused e) t r never document first told = absurd never
  text_told OutOfMemory t r never document first told = absurd never
  text_told e t (reason.Text r) of_table document first told = record { table = table_view t; document = document; first = first; told = told }
  text_told e t r of_table document first never = absurd never

  pub of_table : (e : RatesTextError) (t : BTreeMap (String Global) Value) → IsFirstRatesFault bytes e → e ≢ OutOfMemory
      → ((m : RatesError) → e ≢ Refused m) → IsDocument bytes (table_view t) → IsReadAgain bytes e (again.Table t)
  of_table NotToml t first other text document = absurd (first (table_view t) document)
  of_table (Refused e) t first other text document = absurd (text e refl)
  of_table OutOfMemory t first other text document = absurd (other refl)
  of_table e t first other text document =
      record { has_fault = tt; tells = λ r is. text_told e t r tt document (same_stated (Err e) (table_view t) first document) is }

  rule_told : (e : RatesError) (ps : RatesParts) (refused : AreRefused bytes e) (r : RatesReason) → rates_of ps ≡ refused.rates
      → IsReasonIn (again.Parts ps) (Refused e) r → IsRatesReason bytes (Refused e) r
  rule_told e ps refused (reason.Rule r) same told =
      record { rates = refused.rates; states = refused.states; refusal = refused.refusal; told = rw same at told }
  rule_told e ps refused r same never = absurd never

  pub of_parts : (e : RatesError) (ps : RatesParts) (ms : Members) → AreRefused bytes e → IsDocument bytes ms → stated ms ≡ Ok (rates_of ps)
      → IsReadAgain bytes (Refused e) (again.Parts ps)
  of_parts e ps ms refused document cut =
      let whole = same_stated (Ok refused.rates) ms refused.states document in
      let same : rates_of ps ≡ refused.rates = cc in
      record { has_fault = rw (← same) at refused.refusal; tells = λ r is. rule_told e ps refused r same is }

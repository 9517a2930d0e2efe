-- How a fault of a part is the fault of the whole.
use Rattle.std.proofs.Common.{◌≡◌, ◌≢◌, ℕ, List, refl, Result, Ok, Err, IfErr, IsErrAnd}
use Rattle.std.proofs.lemmas.Result.{IfErr-at_err}
use Rattle.toml.specs.Data.{Members}
use Rattle.ttp_model.specs.Instance.{Instance}
use Rattle.ttp_model.specs.Refusals.{IsRefusal}
use Rattle.ttp_model.specs.declared.error.ModelError.{ModelError}
use Rattle.ttp_model.specs.declared.error.ModelError.TheVariants as model
use Rattle.instance_text.specs.declared.error.TextError.{TextError}
use Rattle.instance_text.specs.declared.error.TextError.TheVariants.{NotToml, Model, OutOfMemory}
use Rattle.instance_text.specs.Kinds.{Stated}
use Rattle.instance_text.specs.Faults.{IsFaultOfPart, IsDocument, States, IsFirstTextFault}
use Rattle.instance_text.specs.Stated.{stated}
use Rattle.instance_text.specs.Told.{told}
use Rattle.instance_text.proofs.TableFaults.{IsTableFault, HasTableFault-stated}

-- what is true of an error is true of it at the exit of a `?`
pub handed : {A : Type 0} (P : TextError → Type 0) (r : Result A TextError) (e : TextError) → IsErrAnd r (λ d. d ≡ e) → P e → IfErr r P
handed P (Ok x) e from holds = tt
handed P (Err d) e from holds = rw from holds

-- a fault that is handed on
pub handed_on : {A B : Type 0} (r : Result A TextError) (s : Stated B) (e : TextError) → IsErrAnd r (λ d. d ≡ e) → IsFaultOfPart s e → IfErr r (IsFaultOfPart s)
handed_on r s e from fault = handed (IsFaultOfPart s) r e from fault

module _ (bytes : List ℕ) where
  -- what the table states, the bytes state
  pub states_by : (table : Members) (part : Stated Instance) → IsDocument bytes table → stated table ≡ part → States bytes part
  states_by table part document reading = record { table = table; document = document; reading = reading }

  -- a fault of the table is one of the bytes, and none of the other three
  pub table_fault : (table : Members) (e : TextError) → IsDocument bytes table → IsFaultOfPart (stated table) e → IsFirstTextFault bytes e
  table_fault table NotToml document fault = absurd (IfErr-at_err IsTableFault (fault (λ same. cc)) (HasTableFault-stated table))
  table_fault table (Model e) document fault = absurd (IfErr-at_err IsTableFault (fault (λ same. cc)) (HasTableFault-stated table))
  table_fault table OutOfMemory document fault = document.utf8
  table_fault table e document fault = states_by table (Err e) document (fault (λ same. cc))

  -- a refusal of the stated instance is a fault of the bytes
  pub refusal_told : (i : Instance) (e : ModelError) → States bytes (Ok i) → IsRefusal i e → IsFirstTextFault bytes (told e)
  refusal_told i model.OutOfMemory states refusal = states.document.utf8
  refusal_told i e states refusal = record { problem = i; states = states; refusal = refusal; other = λ same. cc }

  -- where the bytes state an instance, their table has no fault
  no_fault : (table : Members) (i : Instance) (e : TextError) → IsDocument bytes table → States bytes (Ok i) → stated table ≢ Err e
  no_fault table i e document given fault =
      let one = given.document.parsed in
      let other = document.parsed in
      let reads = given.reading in
      cc

  pub only_memory : (table : Members) (i : Instance) (e : TextError) → IsDocument bytes table → States bytes (Ok i) → IsFaultOfPart (stated table) e → e ≡ OutOfMemory
  only_memory table i OutOfMemory document given fault = refl
  only_memory table i e document given fault = absurd (no_fault table i e document given (fault (λ same. cc)))

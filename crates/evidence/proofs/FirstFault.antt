-- A fault of a text's table is the one that is told of the text, unless memory ran out.
use Rattle.std.proofs.Common.{◌≡◌, ◌≢◌, ℕ, List, Result, Ok, Err, IfOk, IfErr, IsErrAnd, refl}
use Rattle.toml.specs.Data.{Members}
use Rattle.ttp_model.specs.Instance.{Instance}
use Rattle.instance_text.specs.declared.error.TextError.{TextError}
use Rattle.instance_text.specs.declared.error.TextError.TheVariants.{NotToml, Model, OutOfMemory}
use Rattle.instance_text.specs.Kinds.{Stated}
use Rattle.instance_text.specs.Faults.{IsDocument, States, IsFirstTextFault}
use Rattle.instance_text.specs.Stated.{stated}

module _ (bytes : List ℕ) (table : Members) (fault : TextError) (document : IsDocument bytes table) (has : stated table ≡ Err fault) where
  -- the bytes state that fault and nothing else
  states_fault : (part : Stated Instance) → States bytes part → part ≡ Err fault
  states_fault part given =
      let one = given.document.parsed in
      let other = document.parsed in
      let reads = given.reading in
      cc

  same_fault : (e : TextError) → States bytes (Err e) → e ≡ fault
  same_fault e given = let same = states_fault (Err e) given in cc

  no_instance_stated : (i : Instance) → ¬ States bytes (Ok i)
  no_instance_stated i given = let same = states_fault (Ok i) given in cc

  told_fault : (e : TextError) → IsFirstTextFault bytes e → e ≢ OutOfMemory → e ≡ fault
  told_fault NotToml told other = absurd (told table document)
  told_fault (Model e) told other = absurd (no_instance_stated told.problem told.states)
  told_fault OutOfMemory told other = absurd (other refl)
  told_fault e told other = same_fault e told

  pub first_fault : (result : Result Instance TextError) → IfOk result (λ i. States bytes (Ok i)) → IfErr result (IsFirstTextFault bytes)
      → IsErrAnd result (λ e. e ≢ OutOfMemory → e ≡ fault)
  first_fault (Ok i) ok err = absurd (no_instance_stated i ok)
  first_fault (Err e) ok err = told_fault e err

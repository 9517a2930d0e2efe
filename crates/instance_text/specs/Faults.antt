-- When a fault is the first of a text, or of a part of it.
use Rattle.std.specs.Prelude.{◌≡◌, ◌≢◌, ℕ, List, Some, Ok, Err, IsUtf8}
use Rattle.toml.specs.Data.{Members}
use Rattle.toml.specs.Parse.{parse_document}
use Rattle.ttp_model.specs.Instance.{Instance}
use Rattle.ttp_model.specs.Refusals.{IsRefusal}
use Rattle.ttp_model.specs.declared.error.ModelError.{ModelError}
use Rattle.ttp_model.specs.declared.error.ModelError.TheVariants as model
use Rattle.instance_text.specs.declared.error.TextError.{TextError}
use Rattle.instance_text.specs.declared.error.TextError.TheVariants.{NotToml, Model, OutOfMemory}
use Rattle.instance_text.specs.Kinds.{Stated}
use Rattle.instance_text.specs.Stated.{stated}

-- the fault is the first of this part, unless it is that memory ran out
abbrev pub IsFaultOfPart : {A : Type 0} → Stated A → TextError → Type 0
IsFaultOfPart part e = e ≢ OutOfMemory → part ≡ Err e

-- the bytes are UTF-8, and by the grammar of TOML 1.1 they are this top table
pub record IsDocument (bytes : List ℕ) (table : Members) : Type 0 where
  pub utf8 : IsUtf8 bytes
  pub parsed : parse_document bytes ≡ Some table

-- the bytes are no TOML text
abbrev pub IsNoDocument : List ℕ → Type 0
IsNoDocument bytes = (table : Members) → ¬ IsDocument bytes table

-- the only fault that bytes can have before their table is judged
abbrev pub IsTextFault : List ℕ → TextError → Type 0
IsTextFault bytes NotToml = IsNoDocument bytes
IsTextFault bytes OutOfMemory = IsUtf8 bytes
IsTextFault bytes _ = ⊥

-- the bytes are a TOML text, and this is the instance that it states, or its first fault
pub record States (bytes : List ℕ) (part : Stated Instance) : Type 0 where
  pub table : Members
  pub document : IsDocument bytes table
  pub reading : stated table ≡ part

-- The model refuses the instance that the bytes state.
pub record IsRefusedBy (bytes : List ℕ) (e : ModelError) : Type 0 where
  pub problem : Instance
  pub states : States bytes (Ok problem)
  pub refusal : IsRefusal problem e
  pub other : e ≢ model.OutOfMemory

-- The first fault of the bytes: that they are no TOML, then one that the table has, then a rule of
-- the model that is broken. Want of memory may come in place of any answer but that they are no UTF-8.
abbrev pub IsFirstTextFault : List ℕ → TextError → Type 0
IsFirstTextFault bytes NotToml = IsNoDocument bytes
IsFirstTextFault bytes (Model e) = IsRefusedBy bytes e
IsFirstTextFault bytes OutOfMemory = IsUtf8 bytes
IsFirstTextFault bytes e = States bytes (Err e)

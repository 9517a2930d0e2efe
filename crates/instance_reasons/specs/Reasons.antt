-- Why bytes state no instance that can be built. Own profile.
use Rattle.std.specs.Prelude.{◌≡◌, ◌≢◌, ℕ, List, Err}
use Rattle.toml.specs.Data.{Members}
use Rattle.toml.specs.View.{table_view}
use Rattle.ttp_model.specs.declared.error.ModelError.{ModelError}
use Rattle.ttp_model.specs.declared.error.ModelError.TheVariants as model
use Rattle.ttp_model.specs.Refusals.{IsRefusal}
use Rattle.instance_text.specs.declared.error.TextError.{TextError}
use Rattle.instance_text.specs.declared.error.TextError.TheVariants as fault
use Rattle.instance_text.specs.Faults.{IsDocument, IsNoDocument, IsRefusedBy}
use Rattle.instance_text.specs.Stated.{stated}
use Rattle.ttp_model.specs.Parts.{instance_of}
use Rattle.instance_reasons.specs.declared.reason.InstanceReason.{InstanceReason}
use Rattle.instance_reasons.specs.declared.reason.InstanceReason.TheVariants as reason
use Rattle.instance_reasons.specs.declared.reason.ReadAgain.{ReadAgain}
use Rattle.instance_reasons.specs.declared.reason.ReadAgain.TheVariants as again
use Rattle.instance_reasons.specs.declared.rules.RuleReason.{RuleReason}
use Rattle.instance_reasons.specs.declared.texts.TextReason.{TextReason}
use Rattle.instance_reasons.specs.Rules.{IsRuleReason}
use Rattle.instance_reasons.specs.Texts.{IsOfTable, IsTextReason}

-- what was read again has this fault
abbrev pub HasFault : ReadAgain → TextError → Type 0
HasFault (again.NotToml said) e = e ≡ fault.NotToml
HasFault (again.Table table) e = IsOfTable e
HasFault (again.Parts parts) (fault.Model e) = IsRefusal (instance_of parts) e × (e ≢ model.OutOfMemory)
HasFault (again.Parts parts) _ = ⊥

-- and this is the reason in it
abbrev pub IsReasonIn : ReadAgain → TextError → InstanceReason → Type 0
IsReasonIn (again.NotToml said) e (reason.NotToml r) = e ≡ fault.NotToml
IsReasonIn (again.Table table) e (reason.Text r) = IsTextReason (table_view table) e r
IsReasonIn (again.Parts parts) (fault.Model e) (reason.Rule r) = IsRuleReason (instance_of parts) e r
IsReasonIn _ _ _ = ⊥

-- of the table that the bytes are, whose first fault this is
pub record IsOfText (bytes : List ℕ) (e : TextError) (r : TextReason) : Type 0 where
  pub table : Members
  pub document : IsDocument bytes table
  pub first : stated table ≡ Err e
  pub told : IsTextReason table e r

-- of the instance that the bytes state, which the model refuses so
pub record IsOfRule (bytes : List ℕ) (e : ModelError) (r : RuleReason) : Type 0 where
  pub refused : IsRefusedBy bytes e
  pub told : IsRuleReason refused.problem e r

-- the reason of just that fault of bytes; of those that are no TOML nothing is known of what their reader says
abbrev pub IsInstanceReason : List ℕ → TextError → InstanceReason → Type 0
IsInstanceReason bytes fault.NotToml (reason.NotToml said) = IsNoDocument bytes
IsInstanceReason bytes (fault.Model e) (reason.Rule r) = IsOfRule bytes e r
IsInstanceReason bytes e (reason.Text r) = IsOfText bytes e r
IsInstanceReason bytes _ _ = ⊥

-- bytes that were read again: what is a reason in what came of them is one of the bytes
pub record IsReadAgain (bytes : List ℕ) (e : TextError) (again : ReadAgain) : Type 0 where
  pub has_fault : HasFault again e
  pub tells : (r : InstanceReason) → IsReasonIn again e r → IsInstanceReason bytes e r

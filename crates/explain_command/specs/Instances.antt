-- What is told of an instance's bytes.
use Rattle.std.specs.Prelude.{◌≡◌, ◌⊎◌, ℕ, List, ◌++◌, string_bytes}
use Rattle.ttp_model.specs.Instance.{Instance}
use Rattle.instance_text.specs.declared.error.TextError.{TextError}
use Rattle.instance_reasons.specs.declared.described.Sizes.{Sizes}
use Rattle.instance_reasons.specs.declared.reason.InstanceReason.{InstanceReason}
use Rattle.instance_reasons.specs.Described.{AreSizes}
use Rattle.instance_reasons.specs.Reasons.{IsInstanceReason}
use Rattle.plan_reasons.specs.declared.late_lines.LateProcesses.{LateProcesses}
use Rattle.plan_reasons.specs.declared.path_lines.PathChain.{PathChain}
use Rattle.plan_reasons.specs.LateLines.{AreLate}
use Rattle.plan_reasons.specs.PathLines.{IsPathChain}
use Rattle.sentences.specs.Shown.{Gains, IsShown}
use Rattle.command_streams.specs.Endings.{fault_status}
use Rattle.command_streams.specs.Instances.{HasInstance, IsInstanceFault}
use Rattle.command_streams.specs.declared.ending.Fault.TheVariants as fault
use Rattle.explain_command.specs.declared.instances.Stated.{Stated}
use Rattle.explain_command.specs.declared.instances.Stated.TheVariants.{Instance as Of, Refused}
use Rattle.explain_command.specs.Mistaken.{in_place_of_instance}
use Rattle.explain_command.specs.Telling.{line_of}

-- bytes that state none: the line of their first fault, which is no want of memory, sentences on the reason, and what they are like
pub record TellsRefused (bytes text : List ℕ) : Type 0 where
  pub wrong : TextError
  pub first : IsInstanceFault bytes (fault.InstanceText wrong)
  pub status : fault_status (fault.InstanceText wrong) ≡ 3
  pub reason : InstanceReason
  pub is : IsInstanceReason bytes wrong reason
  pub words : List ℕ
  pub are : Gains IsShown (line_of (fault.InstanceText wrong)) words
  pub told : text ≡ words ++ in_place_of_instance bytes

-- an instance that keeps its rules: how large it is, which messages fit into no frame, why no plan ends before its path bound, and which
-- processes end too late whatever the plan
pub record TellsSizes (i : Instance) (text : List ℕ) : Type 0 where
  pub sizes : Sizes
  pub are_sizes : AreSizes i sizes
  pub chain : PathChain
  pub is_chain : IsPathChain i chain
  pub late : LateProcesses
  pub are_late : AreLate i late
  pub shown : IsShown text

-- bytes that state one
pub record TellsGood (bytes text : List ℕ) : Type 0 where
  pub problem : Instance
  pub has_instance : HasInstance bytes problem
  pub tells : TellsSizes problem text

-- the bytes of an instance
abbrev pub TellsInstance : List ℕ → List ℕ → Type 0
TellsInstance bytes text = TellsRefused bytes text ⊎ TellsGood bytes text

-- what came of bytes: the instance that they state, or what is told of them
abbrev pub IsStatedOf : List ℕ → Stated → Type 0
IsStatedOf bytes (Of i) = HasInstance bytes i
IsStatedOf bytes (Refused text) = TellsRefused bytes (string_bytes text)

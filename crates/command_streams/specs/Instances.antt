-- Which instance the bytes of a reader state, and why they give none.
use Rattle.std.specs.Prelude.{ℕ, ◌<◌, ◌≤◌, List, length, Ok}
use Rattle.ttp_model.specs.Instance.{Instance}
use Rattle.ttp_model.specs.Rules.{IsInstance}
use Rattle.instance_text.specs.Faults as text_faults
use Rattle.command_streams.specs.declared.limits.TheConstants.{INSTANCE_LIMIT}
use Rattle.command_streams.specs.declared.ending.Source.TheVariants as source
use Rattle.command_streams.specs.declared.ending.Fault.{Fault}
use Rattle.command_streams.specs.declared.ending.Fault.TheVariants.{InstanceText, Memory, TooLong, Unread}

-- the bytes are within their limit, and state this instance
pub record HasInstance (bytes : List ℕ) (i : Instance) : Type 0 where
  pub within : length bytes ≤ INSTANCE_LIMIT
  pub states : text_faults.States bytes (Ok i)
  pub instance : IsInstance i

-- the bytes state some instance
pub record StatesSome (instance : List ℕ) : Type 0 where
  pub problem : Instance
  pub has_instance : HasInstance instance problem

-- why bytes give no instance
abbrev pub IsInstanceFault : List ℕ → Fault → Type 0
IsInstanceFault bytes Memory = Unit {0}
IsInstanceFault bytes (Unread source.Instance) = Unit {0}
IsInstanceFault bytes (TooLong source.Instance) = INSTANCE_LIMIT < length bytes
IsInstanceFault bytes (InstanceText error) = (length bytes ≤ INSTANCE_LIMIT) × text_faults.IsFirstTextFault bytes error
IsInstanceFault bytes _ = ⊥

-- the fault is one of the instance, or of its reader
abbrev pub IsOfInstance : Fault → Type 0
IsOfInstance (InstanceText error) = Unit {0}
IsOfInstance (Unread source.Instance) = Unit {0}
IsOfInstance (TooLong source.Instance) = Unit {0}
IsOfInstance _ = ⊥

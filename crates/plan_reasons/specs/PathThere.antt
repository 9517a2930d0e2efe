-- Whether what the parts of a chain name is there: private contracts ask for it.
use Rattle.std.specs.Prelude.{◌<◌, length}
use Rattle.ttp_model.specs.Instance.{Instance}
use Rattle.plan_reasons.specs.declared.path_parts.ChainPart.{ChainPart}
use Rattle.plan_reasons.specs.Runs.{HasCause}

-- a part's process, and what it waits for
abbrev pub IsPartThere : Instance → ChainPart → Type 0
IsPartThere i part = (part.process < length i.processes) × HasCause i part.cause

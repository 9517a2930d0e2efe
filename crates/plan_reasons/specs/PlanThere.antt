-- Whether what the parts of a chain name is there: private contracts ask for it.
use Rattle.std.specs.Prelude.{◌<◌, length}
use Rattle.ttp_model.specs.Instance.{Instance}
use Rattle.plan_reasons.specs.declared.plan_links.ChainLink.{ChainLink}
use Rattle.plan_reasons.specs.declared.plan_links.ChainLink.TheVariants.{Run, Sending}
use Rattle.plan_reasons.specs.declared.plan_links.Subject.{Subject}
use Rattle.plan_reasons.specs.declared.plan_links.Subject.TheVariants.{Message, Process}
use Rattle.plan_reasons.specs.Runs.{HasCause}

-- the process or message
abbrev pub IsThere : Instance → Subject → Type 0
IsThere i (Process p) = p < length i.processes
IsThere i (Message m) = m < length i.messages

-- what a link is about, and what its cause names
abbrev pub IsLinkThere : Instance → ChainLink → Type 0
IsLinkThere i (Run p from until cause) = (p < length i.processes) × HasCause i cause
IsLinkThere i (Sending m from until cause) = m < length i.messages

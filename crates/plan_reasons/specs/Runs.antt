-- What is told of a process that runs: names in place of indices. Own profile.
use Rattle.std.specs.Prelude.{◌≡◌, ℕ, ◌<◌, length}
use Rattle.ttp_model.specs.Instance.{Instance, link_at}
use Rattle.ttp_model.specs.Names.{message_name, place_name, process_name}
use Rattle.plan_reasons.specs.declared.runs.RunLine.{RunLine}
use Rattle.plan_reasons.specs.declared.runs.StartCause.{StartCause}
use Rattle.plan_reasons.specs.declared.runs.StartCause.TheVariants as cause
use Rattle.plan_reasons.specs.declared.runs.StartReason.{StartReason}
use Rattle.plan_reasons.specs.declared.runs.StartReason.TheVariants as reason

-- what a process starts behind is there
abbrev pub HasCause : Instance → StartCause → Type 0
HasCause i cause.Release = Unit {0}
HasCause i (cause.Link l) = l < length i.links
HasCause i (cause.Behind q) = q < length i.processes
HasCause i (cause.Arrival m) = m < length i.messages
HasCause i (cause.CouldStart time) = Unit {0}

-- a cause with the names that it has
abbrev pub IsStartReason : Instance → StartCause → StartReason → Type 0
IsStartReason i cause.Release reason.Release = Unit {0}
IsStartReason i (cause.Link l) (reason.Link before number) = (before.now ≡ process_name i (link_at i l).before) × (number ≡ l)
IsStartReason i (cause.Behind q) (reason.Behind name) = name.now ≡ process_name i q
IsStartReason i (cause.Arrival m) (reason.Arrival name) = name.now ≡ message_name i m
IsStartReason i (cause.CouldStart time) (reason.CouldStart tick) = tick ≡ time
IsStartReason i _ _ = ⊥

-- process p from this tick to that one, for this cause
pub record IsRunLine (i : Instance) (p from until : ℕ) (cause : StartCause) (x : RunLine) : Type 0 where
  pub from_is : x.from ≡ from
  pub until_is : x.until ≡ until
  pub process_is : x.process.now ≡ process_name i p
  pub node_is : x.node.now ≡ place_name i p
  pub why_is : IsStartReason i cause x.why

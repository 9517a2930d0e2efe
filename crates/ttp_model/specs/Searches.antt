-- The answers of the private searches for the first place that breaks a rule; no public clause cites these.
use Rattle.std.specs.Prelude.{Option, None, Some}
use Rattle.ttp_model.specs.declared.error.Place.{Place}
use Rattle.ttp_model.specs.Refusals.{FailsFirst}

-- none means that P holds everywhere
abbrev pub FindsPlace : (Place → Type 0) → Option Place → Type 0
FindsPlace P None = (at : Place) → P at
FindsPlace P (Some at) = FailsFirst P at

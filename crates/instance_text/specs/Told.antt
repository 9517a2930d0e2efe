-- How a refusal of the model is told.
use Rattle.ttp_model.specs.declared.error.ModelError.{ModelError}
use Rattle.ttp_model.specs.declared.error.ModelError.TheVariants as model
use Rattle.instance_text.specs.declared.error.TextError.{TextError}
use Rattle.instance_text.specs.declared.error.TextError.TheVariants.{Model, OutOfMemory}

-- want of memory as such, and a broken rule whole
abbrev pub told : ModelError → TextError
told model.OutOfMemory = OutOfMemory
told e = Model e

use Rattle.std.proofs.Common.{ℕ, List, ◌∙◌, ap}
use Rattle.ttp_model.specs.declared.error.Part.TheVariants.{Processes}
use Rattle.ttp_model.specs.Names.{index_named}
use Rattle.question_commands.proofs.Naming.{told_by}
use Rattle.question_commands.proofs.names.process_of.Goals as goal

pub returns : goal.returns
returns c =
    let named = ap (λ (name : List ℕ). index_named c.args.instance.now Processes name) c.as_bytes.ensures.value in
    told_by c.args.instance.now c.args.name.now c.index_named.result (c.index_named.ensures.value ∙ named)

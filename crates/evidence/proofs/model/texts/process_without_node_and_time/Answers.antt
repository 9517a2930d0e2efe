use Rattle.std.proofs.Common.{◌∙◌, refl, sym}
use Rattle.instance_text.specs.declared.error.TextError.TheVariants.{MissingKey}
use Rattle.instance_text.specs.declared.error.Place.TheVariants.{Process}
use Rattle.instance_text.specs.declared.error.Key.TheVariants.{Node}
use Rattle.instance_text.specs.Kinds.{index_in}
use Rattle.instance_text.proofs.StatedLaws.{stated-tables, stated-processes}
use Rattle.evidence.proofs.FirstFault.{first_fault}
use Rattle.evidence.proofs.model.texts.process_without_node_and_time.Goals as goal

pub returns : goal.returns
returns c = λ table tables cluster nodes name others document reads reads_cluster reads_nodes processes.
    let fault = MissingKey (Process 0) Node in
    first_fault _ table fault document
    (stated-tables index_in table tables reads ∙ stated-processes index_in tables cluster nodes (sym reads_cluster) reads_nodes fault (rw processes refl))
    _ c.read.ensures.ok c.read.ensures.err

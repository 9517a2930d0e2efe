use Rattle.search_trees.proofs.Proving.{gathered_proves}
use Rattle.search_trees.proofs.Sound.{whole_trees_are_sound}
use Rattle.search_trees.proofs.tree_laws.whole_trees_prove.Goals as goal

pub returns-clause-proves : goal.returns-clause-proves
returns-clause-proves c = λ i pieces low cert whole right short is. gathered_proves i pieces low cert right short is

pub returns-clause-sound : goal.returns-clause-sound
returns-clause-sound c = whole_trees_are_sound

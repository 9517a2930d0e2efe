use Rattle.search_trees.proofs.Gathered.{gathered_allows}
use Rattle.search_trees.proofs.tree_laws.gathered_certificates_have_texts.Goals as goal

pub returns : goal.returns
returns c = gathered_allows

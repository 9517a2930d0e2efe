use Rattle.certificate.proofs.Versions.{two_allows_all, version_allows, version_is_first}
use Rattle.certificate.proofs.laws.versions_allow_their_trees.Goals as goal

pub returns-clause-second : goal.returns-clause-second
returns-clause-second c = two_allows_all

pub returns-clause-allowed : goal.returns-clause-allowed
returns-clause-allowed c = version_allows

pub returns-clause-first : goal.returns-clause-first
returns-clause-first c = version_is_first

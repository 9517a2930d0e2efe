use Rattle.instance_variants.proofs.Keeps.{kept_among, kept_listed, listed_kept}
use Rattle.instance_variants.proofs.kept.laws.kept_constraints_are_listed.Goals as goal

pub returns-clause-listed : goal.returns-clause-listed
returns-clause-listed c = listed_kept

pub returns-clause-kept : goal.returns-clause-kept
returns-clause-kept c = kept_listed

pub returns-clause-among : goal.returns-clause-among
returns-clause-among c = kept_among

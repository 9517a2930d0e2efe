use Rattle.instance_variants.proofs.Leaving.{left_out, all_left_out, fewer_left}
use Rattle.instance_variants.proofs.Keeps.{all_gone}
use Rattle.instance_variants.proofs.kept.laws.what_is_left_is_fewer.Goals as goal

pub returns-clause-one : goal.returns-clause-one
returns-clause-one c = left_out

pub returns-clause-many : goal.returns-clause-many
returns-clause-many c = all_left_out

pub returns-clause-more : goal.returns-clause-more
returns-clause-more c = fewer_left

pub returns-clause-gone : goal.returns-clause-gone
returns-clause-gone c = all_gone

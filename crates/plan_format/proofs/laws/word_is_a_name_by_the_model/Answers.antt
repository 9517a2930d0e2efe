use Rattle.plan_format.proofs.NameForm.{is_name-IsName}
use Rattle.plan_format.proofs.laws.word_is_a_name_by_the_model.Goals as goal

pub returns : goal.returns
returns c = is_name-IsName

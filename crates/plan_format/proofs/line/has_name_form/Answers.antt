use Rattle.ttp_model.specs.Rules.{IsName}
use Rattle.plan_format.specs.Names.{is_name}
use Rattle.plan_format.proofs.NameForm.{is_name-IsName, same_test}
use Rattle.plan_format.proofs.line.has_name_form.Goals as goal

pub returns : goal.returns
returns c =
    same_test c.is_name.result (is_name c.args.word.now) (IsName c.args.word.now) c.is_name.ensures (is_name-IsName c.args.word.now)

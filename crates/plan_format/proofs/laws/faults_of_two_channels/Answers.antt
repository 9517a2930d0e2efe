use Rattle.std.proofs.Common.{refl}
use Rattle.line_text.specs.Parts.{cut, after_keyword}
use Rattle.plan_format.specs.Channels.{first_line}
use Rattle.plan_format.specs.Reading.{head_at, named_number}
use Rattle.plan_format.proofs.laws.faults_of_two_channels.Goals as goal

pub returns-clause-form : goal.returns-clause-form
unfolding named_number cut after_keyword
returns-clause-form c = refl

pub returns-clause-name : goal.returns-clause-name
unfolding named_number cut after_keyword
returns-clause-name c = refl

pub returns-clause-first : goal.returns-clause-first
unfolding head_at first_line cut
returns-clause-first c = refl

pub returns-clause-second : goal.returns-clause-second
unfolding head_at first_line cut
returns-clause-second c = refl

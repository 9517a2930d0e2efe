use Rattle.instance_variants.proofs.LongerRuns.{lacks_room, longer_lawful, none_beyond}
use Rattle.instance_variants.proofs.longer_laws.windows_bound_margins.Goals as goal

pub returns-clause-rules : goal.returns-clause-rules
returns-clause-rules c = λ i ps scale x wi le. longer_lawful i ps scale wi x le

pub returns-clause-none : goal.returns-clause-none
returns-clause-none c = λ i ps scale x wi are some beyond. none_beyond i ps scale wi x are some beyond

pub returns-clause-room : goal.returns-clause-room
returns-clause-room c = λ i ps scale x wi are some beyond. lacks_room i ps scale wi x are some beyond

use Rattle.toml.specs.View.{table_view}
use Rattle.instance_reasons.proofs.Again.{of_parts}
use Rattle.instance_reasons.proofs.reason.reread.Goals as goal

pub returns-in-Ok-stated_parts : goal.returns-in-Ok-stated_parts
returns-in-Ok-stated_parts c =
    rw c.in-Model.is
    (of_parts c.args.bytes.now c.in-Model.field-0 c.in-Ok-stated_parts.parts (table_view c.in-Ok.table) (rw c.in-Model.is at c.requires.first)
    c.in-Ok.ensures.ok c.in-Ok-stated_parts.ensures.ok)

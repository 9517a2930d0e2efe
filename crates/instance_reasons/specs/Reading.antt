-- What is wanted at a key, and the kind that is read there.
use Rattle.instance_text.specs.Rows.{Kind as ReadKind, one_table, tables, number, numbers, truth, text, node, process, processes}
use Rattle.instance_reasons.specs.declared.values.Kind.TheVariants as kind
use Rattle.instance_reasons.specs.declared.values.Shape.{Shape}
use Rattle.instance_reasons.specs.declared.values.Shape.TheVariants.{One, Many}

-- what a value of a kind that is read looks like
abbrev pub shape_of : ReadKind → Shape
shape_of one_table = One kind.Table
shape_of tables = Many kind.Table
shape_of number = One kind.Number
shape_of numbers = Many kind.Number
shape_of truth = One kind.Truth
shape_of text = One kind.Text
shape_of node = One kind.Text
shape_of process = One kind.Text
shape_of processes = Many kind.Text

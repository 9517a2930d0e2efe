-- What kind a value is, which has to stand, and which item or number is at fault. Own profile.
use Rattle.std.specs.Prelude.{◌^◌, ℤ, pos, negsuc, List, [], ◌∷◌, Bool, true, is_some, nat_lt, if◌then◌else◌, Option, None, Some}
use Rattle.toml.specs.Data.{Data, string, integer, float, boolean, datetime, array, table, as_array, as_integer, as_str, as_table}
use Rattle.instance_text.specs.declared.error.Key.{Key}
use Rattle.instance_text.specs.declared.error.Key.TheVariants as key
use Rattle.instance_text.specs.declared.error.Place.{Place}
use Rattle.instance_text.specs.declared.error.Place.TheVariants.{Top, Cluster, Node, Process, Link, Message}
use Rattle.instance_reasons.specs.Tables.{of_items}
use Rattle.instance_reasons.specs.declared.values.Found.{Found}
use Rattle.instance_reasons.specs.declared.values.Found.TheVariants.{Whole, Item}
use Rattle.instance_reasons.specs.declared.values.Kind.{Kind}
use Rattle.instance_reasons.specs.declared.values.Kind.TheVariants as kind
use Rattle.instance_reasons.specs.declared.values.Shape.{Shape}
use Rattle.instance_reasons.specs.declared.values.Shape.TheVariants.{One, Many}

-- what a value is
abbrev pub kind_of : Data → Kind
kind_of (string s) = kind.Text
kind_of (integer z) = kind.Number
kind_of (float x) = kind.Fraction
kind_of (boolean b) = kind.Truth
kind_of (datetime dt) = kind.Time
kind_of (array ds) = kind.Array
kind_of (table ms) = kind.Table

-- what has to stand at the key `node`, and at the key `to`
abbrev pub wanted_node : Place → Shape
wanted_node Top = Many kind.Table
wanted_node Cluster = Many kind.Table
wanted_node (Node n) = Many kind.Table
wanted_node (Process p) = One kind.Text
wanted_node (Link l) = Many kind.Table
wanted_node (Message m) = Many kind.Table

abbrev pub wanted_to : Place → Shape
wanted_to Top = One kind.Text
wanted_to Cluster = One kind.Text
wanted_to (Node n) = One kind.Text
wanted_to (Process p) = One kind.Text
wanted_to (Link l) = One kind.Text
wanted_to (Message m) = Many kind.Text

-- what has to stand at a key: one value, or a list
abbrev pub wanted : Place → Key → Shape
wanted place key.Cluster = One kind.Table
wanted place key.Node = wanted_node place
wanted place key.Process = Many kind.Table
wanted place key.Link = Many kind.Table
wanted place key.Message = Many kind.Table
wanted place key.Precision = One kind.Number
wanted place key.Lead = One kind.Number
wanted place key.Trail = One kind.Number
wanted place key.Head = One kind.Number
wanted place key.PerByte = One kind.Number
wanted place key.CopyOut = One kind.Number
wanted place key.CopyIn = One kind.Number
wanted place key.Horizon = One kind.Number
wanted place key.Channels = One kind.Number
wanted place key.Name = One kind.Text
wanted place key.Capacities = Many kind.Number
wanted place key.Wcet = One kind.Number
wanted place key.Release = One kind.Number
wanted place key.Deadline = One kind.Number
wanted place key.From = One kind.Text
wanted place key.To = wanted_to place
wanted place key.Bytes = One kind.Number
wanted place key.Both = One kind.Truth

-- an item may stand in a list of this kind
abbrev pub may_stand : Kind → Data → Bool
may_stand kind.Text d = is_some (as_str d)
may_stand kind.Number d = is_some (as_integer d)
may_stand kind.Fraction d = true
may_stand kind.Truth d = true
may_stand kind.Time d = true
may_stand kind.Array d = true
may_stand kind.Table d = is_some (as_table d)

-- the kind of the first item that may not
abbrev pub first_wrong : Kind → List Data → Option Kind
first_wrong k [] = None
first_wrong k (d ∷ ds) = if may_stand k d then first_wrong k ds else Some (kind_of d)

-- a list, or the item of it that is at fault
abbrev pub found_in : Option Kind → Found
found_in None = Whole kind.Array
found_in (Some k) = Item k

-- what stands in place of what has to
abbrev pub found_many : Kind → Data → Found
found_many k d = of_items (as_array d) (Whole (kind_of d)) (λ ds. found_in (first_wrong k ds))

abbrev pub found_of : Shape → Data → Found
found_of (One k) d = Whole (kind_of d)
found_of (Many k) d = found_many k d

-- a whole number that isn't from 0 to 4,294,967,295
abbrev pub unfit : ℤ → Option ℤ
unfit (pos n) = if nat_lt n (2 ^ 32) then None else Some (pos n)
unfit (negsuc n) = Some (negsuc n)

abbrev pub unfit_in : Data → Option ℤ
unfit_in (integer z) = unfit z
unfit_in _ = None

-- the first of some items that is one
abbrev pub or_else : Option ℤ → Option ℤ → Option ℤ
or_else (Some z) other = Some z
or_else None other = other

abbrev pub first_unfit : List Data → Option ℤ
first_unfit [] = None
first_unfit (d ∷ ds) = or_else (unfit_in d) (first_unfit ds)

-- the number at fault of a value, or of a list
abbrev pub unfit_of : Data → Option ℤ
unfit_of d = of_items (as_array d) (unfit_in d) first_unfit

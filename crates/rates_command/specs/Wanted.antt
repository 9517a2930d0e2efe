-- What has to stand at a key of a text of several rates. Own profile.
use Rattle.instance_reasons.specs.declared.values.Kind.TheVariants as kind
use Rattle.instance_reasons.specs.declared.values.Shape.{Shape}
use Rattle.instance_reasons.specs.declared.values.Shape.TheVariants.{One, Many}
use Rattle.instance_reasons.specs.Values as values
use Rattle.rates_text.specs.declared.error.RatesKey.{RatesKey}
use Rattle.rates_text.specs.declared.error.RatesKey.TheVariants as key
use Rattle.rates_text.specs.declared.error.RatesTable.{RatesTable}
use Rattle.rates_text.specs.declared.error.RatesTable.TheVariants.{Of, Chain}

-- at the key `node`: a process names its node, and the top table has them all
abbrev pub wanted_node : RatesTable → Shape
wanted_node (Of place) = values.wanted_node place
wanted_node (Chain c) = Many kind.Table

-- and at the key `to`: a message has receivers, and a link one end
abbrev pub wanted_to : RatesTable → Shape
wanted_to (Of place) = values.wanted_to place
wanted_to (Chain c) = One kind.Text

-- at each key one value, or a list
abbrev pub wanted : RatesTable → RatesKey → Shape
wanted place key.Cluster = One kind.Table
wanted place key.Node = wanted_node place
wanted place key.Process = Many kind.Table
wanted place key.Link = Many kind.Table
wanted place key.Message = Many kind.Table
wanted place key.Chain = Many kind.Table
wanted place key.Name = One kind.Text
wanted place key.From = One kind.Text
wanted place key.To = wanted_to place
wanted place key.Through = Many kind.Text
wanted place key.Both = One kind.Truth
wanted place _ = One kind.Number

use Rattle.std.proofs.Common.{◌∙◌, sym}
use Rattle.ttp_model.specs.Parts.{instance_of}
use Rattle.instance_reasons.proofs.Missing.{out_told, some_out}
use Rattle.instance_reasons.proofs.ranges.outside_range.Goals as goal

pub unwrap-number-requires : goal.unwrap-number-requires
unwrap-number-requires c = some_out (instance_of c.args.parts.now) c.args.place c.outside_at.result c.requires c.outside_at.ensures

pub missed-by-requires : goal.missed-by-requires
missed-by-requires c =
    out_told (instance_of c.args.parts.now) c.args.place c.unwrap-number.result c.requires (sym c.outside_at.ensures ∙ c.unwrap-number.ensures)

pub returns : goal.returns
returns c = record {
  spot_is = c.spot_at.ensures;
  number_is = sym c.outside_at.ensures ∙ c.unwrap-number.ensures;
  some = c.missed-by.ensures.0;
  misses = c.missed-by.ensures.1;
}

use Rattle.std.proofs.Common.{rules, tests, lit<}
use Rattle.std.proofs.lemmas.Iterator.Consumers.{map_from_collect, YieldsList-from_filter}
use Rattle.std.proofs.lemmas.Iterator.Splits.{YieldsList-from_str_split}
use Rattle.command_line.specs.Names.{is_part}
use Rattle.command_line.proofs.names.parts.Goals as goal

pub returns : goal.returns
returns c =
    map_from_collect _ c.collect.ensures.ran
    (YieldsList-from_filter _ is_part (YieldsList-from_str_split 47 c.args.name.now (lit< tt) (cc) (cc) (cc)) c.filter.ensures.closure (λ x r q k. search (rules, tests)))

use Rattle.std.proofs.Common.{rules}
use Rattle.command_line.proofs.Texts.{same_file}
use Rattle.command_line.proofs.names.name_one_file.Goals as goal

pub returns : goal.returns
returns c = same_file c.args.a.now c.args.b.now _ _ c.eq.result (search rules) c.in_ok-parts.ensures c.in_ok-parts-2.ensures c.eq.ensures

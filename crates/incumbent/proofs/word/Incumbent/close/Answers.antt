use Rattle.incumbent.proofs.Ends.{ends}
use Rattle.incumbent.proofs.word.Incumbent.close.Goals as goal

pub returns-clause-least : goal.returns-clause-least
returns-clause-least c = ends _ _ _ _ _ _ c.requires.opening.1 c.args.watch.live c.requires.joined c.close_with-closed.ensures.values.2 c.word-word.ensures

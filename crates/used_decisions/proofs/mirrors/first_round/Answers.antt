use Rattle.std.proofs.Common.{sym, ◌∙◌}
use Rattle.tt_choice.specs.Kept.{sets_least}
use Rattle.used_decisions.specs.Turns.{last_of}
use Rattle.used_decisions.proofs.Rounds.{said_cut, said_no_cut}
use Rattle.used_decisions.proofs.mirrors.first_round.Goals as goal

pub returns-in-Some : goal.returns-in-Some
returns-in-Some c = λ there. said_cut (last_of (sets_least c.args.m) c.args.path.now.turns) c.in-Some.cut (sym c.in-Some.is ∙ c.least.ensures there)

pub returns-in-None : goal.returns-in-None
returns-in-None c = λ there. said_no_cut (last_of (sets_least c.args.m) c.args.path.now.turns) (sym c.in-None.is ∙ c.least.ensures there)

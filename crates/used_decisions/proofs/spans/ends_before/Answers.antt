use Rattle.std.proofs.Common.{sym, ◌∙◌}
use Rattle.tt_choice.specs.Kept.{sets_greatest}
use Rattle.used_decisions.specs.Turns.{last_of}
use Rattle.used_decisions.proofs.Rounds.{below_cut, below_none}
use Rattle.used_decisions.proofs.spans.ends_before.Goals as goal

pub returns-in-Some : goal.returns-in-Some
returns-in-Some c =
    λ there. below_cut c.args.r (last_of (sets_greatest c.args.m) c.args.path.now.turns) c.in-Some.cut (sym c.in-Some.is ∙ c.greatest.ensures there)

pub returns-in-None : goal.returns-in-None
returns-in-None c = λ there. below_none c.args.r (last_of (sets_greatest c.args.m) c.args.path.now.turns) (sym c.in-None.is ∙ c.greatest.ensures there)

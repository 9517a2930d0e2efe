use Rattle.std.proofs.Common.{inr, sym, ◌∙◌}
use Rattle.tt_choice.specs.Kept.{sets_order}
use Rattle.used_decisions.specs.Turns.{last_of}
use Rattle.used_decisions.proofs.Rounds.{none_told}
use Rattle.used_decisions.proofs.Tells.{more_none}
use Rattle.used_decisions.proofs.orders.rival.Goals as goal

pub returns-in-Some : goal.returns-in-Some
returns-in-Some c = record { more = c.unlinked.ensures.more; told = c.unlinked.ensures.told }

pub returns-in-None : goal.returns-in-None
returns-in-None c = record {
  more = more_none c.args.uses.now;
  told =
      λ read row column never. inr (none_told c.args.uses.now.levels (last_of (sets_order c.args.p c.args.x) c.args.path.now.turns)
      (sym c.in-None.is ∙ c.before-2.ensures row column));
}

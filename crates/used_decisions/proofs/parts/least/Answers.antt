use Rattle.std.proofs.Common.{length, inl, inr, sym, ◌∙◌}
use Rattle.tt_choice.specs.Kept.{sets_least}
use Rattle.used_decisions.proofs.Marked.{told_cut}
use Rattle.used_decisions.proofs.Tells.{more_none}
use Rattle.used_decisions.proofs.parts.least.Goals as goal

pub returns-then-has_least : goal.returns-then-has_least
returns-then-has_least c = record { more = more_none c.args.uses.now; told = λ read there. inl (sym c.has_least.ensures ∙ c.if-has_least.true) }

pub returns : goal.returns
returns c = record {
  more = c.cut.ensures.more;
  told =
      λ read there. inr (told_cut c.cut.new.self.levels (length c.args.uses.now.levels) (sets_least c.args.m) c.args.path.now.turns read.room
      c.least.result (c.least.ensures there) c.cut.ensures.told);
}

use Rattle.std.proofs.Common.{length, inl, inr, sym, ◌∙◌}
use Rattle.tt_choice.specs.Kept.{sets_greatest}
use Rattle.used_decisions.proofs.Marked.{told_cut}
use Rattle.used_decisions.proofs.Tells.{more_none}
use Rattle.used_decisions.proofs.parts.greatest.Goals as goal

pub returns-then-has_greatest : goal.returns-then-has_greatest
returns-then-has_greatest c = record { more = more_none c.args.uses.now; told = λ read there. inl (sym c.has_greatest.ensures ∙ c.if-has_greatest.true) }

pub returns : goal.returns
returns c = record {
  more = c.cut.ensures.more;
  told =
      λ read there. inr (told_cut c.cut.new.self.levels (length c.args.uses.now.levels) (sets_greatest c.args.m) c.args.path.now.turns read.room
      c.greatest.result (c.greatest.ensures there) c.cut.ensures.told);
}

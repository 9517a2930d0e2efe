use Rattle.std.proofs.Common.{length, inl, inr, sym, ◌∙◌}
use Rattle.tt_choice.specs.Kept.{sets_order}
use Rattle.used_decisions.proofs.Marked.{told_level}
use Rattle.used_decisions.proofs.Tells.{more_none}
use Rattle.used_decisions.proofs.parts.order.Goals as goal

pub returns-then-has_before : goal.returns-then-has_before
returns-then-has_before c = record { more = more_none c.args.uses.now; told = λ read first second. inl (sym c.has_before.ensures ∙ c.if-has_before.true) }

pub returns : goal.returns
returns c = record {
  more = c.branch-uses.ensures.more;
  told =
      λ read first second. inr (told_level c.branch-uses.new.self.levels (length c.args.uses.now.levels) (sets_order c.args.p c.args.q)
      c.args.path.now.turns read.room c.before-2.result (c.before-2.ensures first second) c.branch-uses.ensures.told);
}

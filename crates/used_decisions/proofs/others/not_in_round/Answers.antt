use Rattle.std.proofs.Common.{sym, ◌∙◌}
use Rattle.used_decisions.proofs.KeptOut.{later_told, earlier_told, neither_told}
use Rattle.used_decisions.proofs.Tells.{more_none}
use Rattle.used_decisions.proofs.others.not_in_round.Goals as goal

pub returns-then-is_later : goal.returns-then-is_later
returns-then-is_later c = record {
  more = c.least.ensures.more;
  told =
      λ read there. later_told c.args.path.now c.args.given.now c.least.new.uses c.args.m c.args.r there
      (c.is_later.ensures.given c.if-is_later.true) (c.is_later.ensures.behind c.if-is_later.true there) (c.least.ensures.told read there);
}

pub returns-then-ends_before : goal.returns-then-ends_before
returns-then-ends_before c = record {
  more = c.greatest.ensures.more;
  told =
      λ read there. earlier_told c.args.path.now c.args.given.now c.greatest.new.uses c.args.m c.args.r there
      (c.is_later.ensures.no c.if-is_later.false there) (c.greatest.ensures.told read there);
}

pub returns-else-ends_before : goal.returns-else-ends_before
returns-else-ends_before c = record {
  more = more_none c.args.uses.now;
  told =
      λ read there. neither_told c.args.path.now c.args.given.now c.args.uses.now c.args.m c.args.r there
      (c.is_later.ensures.no c.if-is_later.false there) (sym (c.ends_before.ensures there) ∙ c.if-ends_before.false);
}

use Rattle.step_logs.proofs.Logs.{advances_pushed}
use Rattle.step_logs.proofs.journal.Journal.append.Goals as goal

pub returns-then-sharpens-clause-advances : goal.returns-then-sharpens-clause-advances
returns-then-sharpens-clause-advances c =
    rw (c.in_ok-push.ensures.items, c.in_ok-try_reserve.ensures.items, ← c.self.view_is) (advances_pushed c.self.inside.facts c.sharpens.new.facts c.self.inside.steps.items c.args.step c.sharpens.ensures.others (c.sharpens.ensures.sharper c.if-sharpens.true))

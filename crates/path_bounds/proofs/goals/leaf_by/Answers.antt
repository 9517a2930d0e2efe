use Rattle.std.proofs.Common.{refl, ◌∙◌}
use Rattle.step_logs.proofs.Counts.{closes_of}
use Rattle.path_bounds.proofs.goals.leaf_by.Goals as goal

pub new-requires-in-Some : goal.new-requires-in-Some
new-requires-in-Some c =
    (closes_of c.args.instance.now c.args.choice.now c.processes-processes.ensures.instance c.requires c.args.goal c.in-Some.kept.items
    c.new-journal.result c.sweep.new.self c.sweep.new.self.facts (c.new-journal.ensures ∙ rw (c.in_ok-first.ensures, c.new-2.ensures.items) refl)
    c.sweep.ensures.advances refl c.in-Some.ensures.1 c.in-Some.ensures.0).1

pub returns-in-Some-clause-closes : goal.returns-in-Some-clause-closes
returns-in-Some-clause-closes c =
    rw c.new-in-Some.ensures (closes_of c.args.instance.now c.args.choice.now c.processes-processes.ensures.instance c.requires c.args.goal
    c.in-Some.kept.items c.new-journal.result c.sweep.new.self c.sweep.new.self.facts
    (c.new-journal.ensures ∙ rw (c.in_ok-first.ensures, c.new-2.ensures.items) refl)
    c.sweep.ensures.advances refl c.in-Some.ensures.1 c.in-Some.ensures.0).0

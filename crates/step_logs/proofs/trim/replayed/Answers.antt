use Rattle.std.proofs.Common.{refl, ◌∙◌}
use Rattle.step_logs.proofs.Counts.{closes_of}
use Rattle.step_logs.proofs.trim.replayed.Goals as goal

pub returns-in-Some : goal.returns-in-Some
returns-in-Some c =
    let done = closes_of c.args.instance.now c.args.choice.now c.processes-processes.ensures.instance c.requires c.args.goal c.in-Some.kept.items c.new-journal.result c.try_marked.new.journal c.try_marked.new.journal.facts (c.new-journal.ensures ∙ rw (c.in_ok-first.ensures, c.new-2.ensures.items) refl) c.try_marked.ensures refl c.in-Some.ensures.1 c.in-Some.ensures.0 in
    record { closes = done.0; few = done.1 }

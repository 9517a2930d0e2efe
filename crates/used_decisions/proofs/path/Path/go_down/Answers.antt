use Rattle.std.proofs.Common.{ap, List}
use Rattle.used_decisions.specs.declared.turn.Turn.{Turn}
use Rattle.used_decisions.specs.Tables.{turns_of}
use Rattle.used_decisions.proofs.Paths.{path_more, path_of, turns_more}
use Rattle.used_decisions.proofs.path.Path.go_down.Goals as goal

pub invariant_of-self-2 : goal.invariant_of-self-2
invariant_of-self-2 c =
    let old = c.self.inside in
    let turn : Turn = record { decision = c.args.decision; level = c.args.level } in
    rw (c.push_reserved.ensures.items, c.in_ok-reserve.ensures.items)
    (path_more old.instance.now old.tables c.tell.new.self old.taken.items turn c.in_ok-stood.stood c.self.invariant (c.in_ok-stood.ensures.ok (turns_of old.taken.items) c.self.invariant.tables))

pub returns : goal.returns
returns c =
    let old = c.self.inside in
    let turn : Turn = record { decision = c.args.decision; level = c.args.level } in record {
      ok =
          rw (← c.self.view_is, c.push_reserved.ensures.items, c.in_ok-reserve.ensures.items)
          (ap (λ (turns : List Turn). path_of old.instance.now turns) (turns_more old.taken.items (record { turn = turn; stood = c.in_ok-stood.stood })));
      err = tt;
    }

use Rattle.std.proofs.Common.{List, Ok, arith, subst}
use Rattle.std.proofs.lemmas.List.Elements.{All-push}
use Rattle.cert_check.specs.declared.leaves.HeldLeaf.{HeldLeaf}
use Rattle.cert_check.specs.Waiting.{Judges, RunCloses, Waits}
use Rattle.cert_check.proofs.Runs.{run_of}
use Rattle.cert_check.proofs.judge.Judge.closed_runs_in.Goals as goal

pub run-requires-clause-waits : goal.run-requires-clause-waits
run-requires-clause-waits g c = rw c.run_at.ensures (run_of (Waits c.args.self.now.instance.now) c.fetch_add-place.result c.args.leaves.now c.requires.waits)

pub returns-in-Err : goal.returns-in-Err
returns-in-Err g c = rw c.reserve.ensures.items c.loop.invariant.closed

pub loop-preserved : goal.loop-preserved
loop-preserved g c =
    let i = c.args.self.now.instance.now in
    let low = c.args.self.now.low in
    let place = c.fetch_add-place.result in
    let closes : RunCloses i low c.args.leaves.now place = subst (λ (run : List HeldLeaf). Judges i low run (Ok tt)) c.run_at.ensures c.in-Ok.ensures.ok in
    record {
      of = c.in-Ok.ensures.of;
      closed =
          rw (c.push_reserved.ensures.items, c.reserve.ensures.items) (All-push (RunCloses i low c.args.leaves.now)
          c.loop.closed.items place c.loop.invariant.closed closes);
    }

pub returns-then-place-leaves : goal.returns-then-place-leaves
returns-then-place-leaves g c = c.loop.invariant.closed

pub returns-then-is_err : goal.returns-then-is_err
returns-then-is_err g c = rw c.reserve.ensures.items c.loop.invariant.closed

pub run_at-requires : goal.run_at-requires
run_at-requires g c = omega arith

pub run-requires-clause-of : goal.run-requires-clause-of
run-requires-clause-of g c = c.loop.invariant.of

pub returns : goal.returns
returns g c = c.loop.invariant.closed

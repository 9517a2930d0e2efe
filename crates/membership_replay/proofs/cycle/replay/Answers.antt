use Rattle.std.proofs.Common.{◌≤◌, length, ap, arith}
use Rattle.std.proofs.lemmas.Result.{err_from_is_err_and}
use Rattle.medl_tables.proofs.TableParts.{tables-length}
use Rattle.membership_replay.proofs.Arrivals.{each_message_arrives}
use Rattle.membership_replay.proofs.Delivered.{all_arrive, all_stay}
use Rattle.membership_replay.proofs.SenderLeaving.{lost_sender_leaves}
use Rattle.membership_replay.proofs.cycle.replay.Goals as goal

pub returns-in-Some-clause-err : goal.returns-in-Some-clause-err
returns-in-Some-clause-err c =
    (omega (arith, tables-length c.args.instance.now c.args.medl.now c.requires, ap length c.nodes.ensures.value), c.in-Some.ensures)

pub returns-in-Some-clause-only : goal.returns-in-Some-clause-only
returns-in-Some-clause-only c =
    λ able. absurd (c.in-Some.ensures.fails (able.losses_of c.in-Some.k c.in-Some.ensures.within))

pub returns-clause-able : goal.returns-clause-able
returns-clause-able c = record {
  nodes = omega (arith, tables-length c.args.instance.now c.args.medl.now c.requires, ap length c.nodes.ensures.value);
  losses_of = c.in_default.ensures;
}

pub returns-clause-stay : goal.returns-clause-stay
returns-clause-stay c = λ none.
    all_stay c.args.instance.now c.args.medl.now c.args.losses.now c.in_ok-trace.trace c.nodes.ensures.instance c.requires c.in_ok-trace.ensures none

pub returns-clause-arrive : goal.returns-clause-arrive
returns-clause-arrive c = λ plan valid tables none.
    each_message_arrives c.args.instance.now plan c.args.medl.now c.args.losses.now c.in_ok-trace.trace c.nodes.ensures.instance valid tables c.in_ok-trace.ensures none

pub returns-clause-entries : goal.returns-clause-entries
returns-clause-entries c = λ none.
    all_arrive c.args.instance.now c.args.medl.now c.args.losses.now c.in_ok-trace.trace c.nodes.ensures.instance c.requires c.in_ok-trace.ensures none

pub returns-clause-leave : goal.returns-clause-leave
returns-clause-leave c = λ slot lost room.
    let enough : 3 ≤ length c.args.instance.now.nodes = omega (arith, ap length c.nodes.ensures.value) in
    lost_sender_leaves c.args.instance.now c.args.medl.now c.args.losses.now slot c.nodes.ensures.instance c.requires enough lost room

pub returns-in_err-trace-clause-err : goal.returns-in_err-trace-clause-err
returns-in_err-trace-clause-err c =
    let p = err_from_is_err_and c.from_residual.result c.from_residual.ensures.1 in
    rw (p.1, p.2) (record {
      nodes = omega (arith, tables-length c.args.instance.now c.args.medl.now c.requires, ap length c.nodes.ensures.value);
      losses_of = c.in_default.ensures;
    })

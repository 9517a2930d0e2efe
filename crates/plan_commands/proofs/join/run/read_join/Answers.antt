use Rattle.std.proofs.lemmas.Result.{err_from_is_err_and}
use Rattle.plan_commands.proofs.Ends.{unread_not_joined, wrong_not_joined}
use Rattle.plan_commands.proofs.join.run.read_join.Goals as goal

-- a text gives no certificate
pub returns-in_err-certs-clause-joined : goal.returns-in_err-certs-clause-joined
returns-in_err-certs-clause-joined g c = λ texts is.
    let handed = err_from_is_err_and c.from_residual.result c.from_residual.ensures.1 in
    rw (handed.1, handed.2) (unread_not_joined c.args.instance.now texts c.in_err-certs.field-0.0 (c.in_err-certs.ensures.read texts is))

-- all do, and are joined
pub returns-in-Ok-clause-joined : goal.returns-in-Ok-clause-joined
returns-in-Ok-clause-joined g c = λ texts is.
    let told = c.in-Ok.ensures in
    record {
      certs = c.as_slice.result.now;
      are = rw c.as_slice.ensures.value (c.in_ok-certs.ensures.read texts is);
      joins = record { tree = told.tree; low = told.low; version = told.version; bound = told.bound };
    }

-- one of them is wrong
pub returns-clause-joined : goal.returns-clause-joined
returns-clause-joined g c = λ texts is.
    let are = c.in_ok-certs.ensures.read texts is in
    rw c.end_of.ensures (wrong_not_joined c.args.instance.now texts c.as_slice.result.now c.in-Err.fault (rw c.as_slice.ensures.value are) c.in-Err.ensures.fault)

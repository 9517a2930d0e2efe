use Rattle.std.proofs.Common.{◌≡◌, ℕ, List}
use Rattle.std.proofs.lemmas.Result.{err_from_is_err_and}
use Rattle.sha2.specs.Sha256.{sha256}
use Rattle.command_streams.specs.Instances.{HasInstance, IsInstanceFault}
use Rattle.command_streams.proofs.StatedOnce.{unread_judged}
use Rattle.plan_commands.proofs.Exporting.{of_all}
use Rattle.plan_commands.proofs.exports.stated_of_reader.Goals as goal

pub returns-in_err-text-clause-judged : goal.returns-in_err-text-clause-judged
returns-in_err-text-clause-judged g c =
    let p = err_from_is_err_and c.from_residual.result c.from_residual.ensures.1 in
    rw (p.1, p.2) (unread_judged (g.I.Read.remaining c.args.reader.now) c.in_err-text.field-0.0 c.in_err-text.ensures.err)

pub returns-in_err-instance-clause-judged : goal.returns-in_err-instance-clause-judged
returns-in_err-instance-clause-judged g c =
    let p = err_from_is_err_and c.from_residual-in_err-instance.result c.from_residual-in_err-instance.ensures.1 in
    let judged = rw c.as_slice.ensures.value at c.in_err-instance.ensures.judged in
    rw (p.1, p.2) (of_all (λ (bytes : List ℕ). IsInstanceFault bytes c.in_err-instance.field-0.0) (g.I.Read.remaining c.args.reader.now)
    c.in_ok-text.text.items c.in_ok-text.ensures.read judged)

pub returns-clause-judged : goal.returns-clause-judged
returns-clause-judged g c =
    of_all (λ (bytes : List ℕ). HasInstance bytes c.in_ok-instance.instance) (g.I.Read.remaining c.args.reader.now)
    c.in_ok-text.text.items c.in_ok-text.ensures.read (rw c.as_slice.ensures.value at c.in_ok-instance.ensures.judged)

pub returns-clause-sum : goal.returns-clause-sum
returns-clause-sum g c =
    of_all (λ (bytes : List ℕ). c.sum_of-sum.result ≡ sha256 bytes) (g.I.Read.remaining c.args.reader.now)
    c.in_ok-text.text.items c.in_ok-text.ensures.read (rw c.as_slice-2.ensures.value at c.sum_of-sum.ensures)

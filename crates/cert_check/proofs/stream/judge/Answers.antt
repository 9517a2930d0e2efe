use Rattle.std.proofs.Common.{ℕ, Err, subst}
use Rattle.std.proofs.lemmas.Result.{err_from_is_err_and}
use Rattle.ttp_model.specs.Instance.{Instance}
use Rattle.certificate.specs.Streams.{bytes_taken, LeavesCert}
use Rattle.cert_check.specs.UnderWay.{AnswersAll}
use Rattle.cert_check.proofs.Accepted.{answer_of_rest, answer_of_fault, proof_of_all, bound_of_all, none_of_all, too_great}
use Rattle.cert_check.proofs.stream.judge.Goals as goal

pub returns-in_err-pass_nodes-clause-answer : goal.returns-in_err-pass_nodes-clause-answer
returns-in_err-pass_nodes-clause-answer g c =
    let remaining = g.R.Read.remaining in
    let p = err_from_is_err_and c.from_residual-in_err-pass_nodes.result c.from_residual-in_err-pass_nodes.ensures.1 in
    rw (p.1, p.2)
    (answer_of_rest c.args.instance.now c.in_ok-low.low remaining c.low.new.self (LeavesCert remaining c.args.stream.now) c.in_ok-low.ensures.low
    (bytes_taken c.pass_nodes.new.stream) c.in_err-pass_nodes.field-0.0 c.in_err-pass_nodes.ensures.err).0

pub returns-in_err-pass_nodes-clause-from : goal.returns-in_err-pass_nodes-clause-from
returns-in_err-pass_nodes-clause-from g c = λ origin is. c.in_err-pass_nodes.ensures.from origin (c.in_ok-low.ensures.from origin is)

pub returns-then-low-past_horizon-clause-answer : goal.returns-then-low-past_horizon-clause-answer
returns-then-low-past_horizon-clause-answer g c =
    let remaining = g.R.Read.remaining in
    let rest = c.in_ok-pass_nodes.ensures.rest in
    too_great c.args.instance.now c.in_ok-low.low remaining c.low.new.self (LeavesCert remaining c.args.stream.now) c.in_ok-low.ensures.low
    (bytes_taken c.pass_nodes.new.stream) rest.0 rest.1 (rw c.past_horizon.ensures.value at c.if-low-past_horizon.true)

pub returns-then-low-past_horizon-clause-from : goal.returns-then-low-past_horizon-clause-from
returns-then-low-past_horizon-clause-from g c = λ origin is. c.in_ok-pass_nodes.ensures.from origin (c.in_ok-low.ensures.from origin is)

pub returns-in_err-go_through-clause-answer : goal.returns-in_err-go_through-clause-answer
returns-in_err-go_through-clause-answer g c =
    let remaining = g.R.Read.remaining in
    let next = c.low.new.self in
    let taken = bytes_taken c.go_through.new.stream in
    let fault = c.in_err-go_through.field-0.0 in
    let within = rw c.past_horizon.ensures.value at c.if-low-past_horizon.false in
    let of = subst (λ (i : Instance). AnswersAll i c.new.result.low remaining next taken (Err fault))
    c.new.ensures.instance c.in_err-go_through.ensures.answers in
    let answers = subst (λ (low : ℕ). AnswersAll c.args.instance.now low remaining next taken (Err fault)) c.new.ensures.low of in
    let p = err_from_is_err_and c.from_residual-in_err-go_through.result c.from_residual-in_err-go_through.ensures.1 in
    rw (p.1, p.2) (answer_of_fault c.args.instance.now c.in_ok-low.low remaining next (LeavesCert remaining c.args.stream.now)
    c.in_ok-low.ensures.low taken within fault answers).0

pub returns-in_err-go_through-clause-from : goal.returns-in_err-go_through-clause-from
returns-in_err-go_through-clause-from g c = λ origin is. c.in_err-go_through.ensures.from origin (c.in_ok-low.ensures.from origin is)

pub returns-clause-answer : goal.returns-clause-answer
returns-clause-answer g c =
    let remaining = g.R.Read.remaining in
    let within = rw c.past_horizon.ensures.value at c.if-low-past_horizon.false in
    let answers = rw (c.new.ensures.instance, c.new.ensures.low) at c.in_ok-go_through.ensures.answers in
    proof_of_all c.args.instance.now c.in_ok-low.low remaining c.low.new.self (LeavesCert remaining c.args.stream.now) c.in_ok-low.ensures.low
    (bytes_taken c.go_through.new.stream) within answers

pub returns-clause-bound : goal.returns-clause-bound
returns-clause-bound g c =
    let remaining = g.R.Read.remaining in
    let within = rw c.past_horizon.ensures.value at c.if-low-past_horizon.false in
    let answers = rw (c.new.ensures.instance, c.new.ensures.low) at c.in_ok-go_through.ensures.answers in
    bound_of_all c.args.instance.now c.in_ok-low.low remaining c.low.new.self (LeavesCert remaining c.args.stream.now) c.in_ok-low.ensures.low
    (bytes_taken c.go_through.new.stream) within c.past_horizon.ensures.instance answers

pub returns-clause-none : goal.returns-clause-none
returns-clause-none g c = λ past.
    let remaining = g.R.Read.remaining in
    let within = rw c.past_horizon.ensures.value at c.if-low-past_horizon.false in
    let answers = rw (c.new.ensures.instance, c.new.ensures.low) at c.in_ok-go_through.ensures.answers in
    none_of_all c.args.instance.now c.in_ok-low.low remaining c.low.new.self (LeavesCert remaining c.args.stream.now) c.in_ok-low.ensures.low
    (bytes_taken c.go_through.new.stream) within c.past_horizon.ensures.instance answers past

pub returns-clause-from : goal.returns-clause-from
returns-clause-from g c = λ origin is. c.in_ok-go_through.ensures.from origin (c.in_ok-low.ensures.from origin is)

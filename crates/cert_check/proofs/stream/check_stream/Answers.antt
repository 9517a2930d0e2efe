use Rattle.std.proofs.Common.{refl, rules}
use Rattle.certificate.specs.Sources.{Origin}
use Rattle.certificate.specs.Streams.{BytesRead, LeavesCert, bytes_taken}
use Rattle.cert_check.proofs.Accepted.{answer_by, bound_of_proof}
use Rattle.cert_check.proofs.Streams.{taken_from}
use Rattle.cert_check.proofs.stream.check_stream.Goals as goal

pub returns-clause-taken : goal.returns-clause-taken
returns-clause-taken g c =
    let remaining = g.R.Read.remaining in
    let first = c.new-stream.result in
    let last = c.judge_all-answer.new.stream in
    let origin : Origin = record { reader = first.lines.reader.ghost_name; bytes = remaining c.args.reader.now } in
    let from = c.judge_all-answer.ensures.from origin (refl, c.new-stream.ensures.from.1) in
    taken_from remaining last _ origin c.judge_all-answer.result (search (rules, from.0, c.new-stream.ensures.from.0, c.into_reader-reader.ensures))
    from c.judge_all-answer.ensures.all

pub returns-clause-only : goal.returns-clause-only
returns-clause-only g c =
    let remaining = g.R.Read.remaining in
    let i = c.args.instance.now in
    let known = remaining c.args.reader.now in
    let first = c.new-stream.result in
    let last = c.judge_all-answer.new.stream in
    let answer = c.judge_all-answer.result in
    let origin : Origin = record { reader = first.lines.reader.ghost_name; bytes = known } in
    let from = c.judge_all-answer.ensures.from origin (refl, c.new-stream.ensures.from.1) in
    let judged = answer_by i (LeavesCert remaining first) (BytesRead known) answer c.new-stream.ensures.text c.judge_all-answer.ensures.answer in
    bound_of_proof i known (remaining last.lines.reader.now) answer judged
    (record { taken = bytes_taken last; from = from.1; all = c.judge_all-answer.ensures.all })

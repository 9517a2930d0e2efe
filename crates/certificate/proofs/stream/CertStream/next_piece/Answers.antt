use Rattle.std.proofs.Common.{◌≡◌, ◌+◌, ◌-◌, ◌++◌, ◌∷◌, [], length, refl, arith}
use Rattle.std.proofs.lemmas.Result.{err_from_is_err_and}
use Rattle.certificate.specs.Words.{head_children, count_of}
use Rattle.certificate.specs.Blocks.{held, MayLeave, Stops}
use Rattle.certificate.specs.Reading.{end_at, text_node}
use Rattle.certificate.specs.RawLines.{SaysPiece}
use Rattle.certificate.specs.Sources.{IsFaultOn, OrMemory}
use Rattle.certificate.proofs.Opened.{no_more, more_fails, node_fails, rest_of_part}
use Rattle.certificate.proofs.Sources.{or_memory}
use Rattle.certificate.proofs.StreamLaws.{node_fault}
use Rattle.certificate.proofs.RawNodes.{piece_next, takes_piece}
use Rattle.certificate.proofs.stream.CertStream.next_piece.Goals as goal

pub returns-in_err-end-clause-err : goal.returns-in_err-end-clause-err
returns-in_err-end-clause-err g c =
    let p = err_from_is_err_and c.from_residual.result c.from_residual.ensures.1 in
    let line = c.args.self.now.lines.block.passed + 1 in
    let left = MayLeave (g.R.Read.remaining c.args.self.now.lines.reader.now) (held c.args.self.now.lines.block) in
    let taken = c.end.new.self.block.taken in
    rw (p.1, p.2)
    (node_fault c.args.self.now.version left c.args.self.now.due.items line taken c.in_err-end.field-0.0
    (rest_of_part c.args.self.now.version c.in_err-end.field-0.0 (Stops taken) (OrMemory (Stops taken)) left (end_at line) c.args.self.now.due.items line (or_memory (Stops taken))
    (more_fails c.args.self.now.version left c.args.self.now.due.items line c.in_default.ensures.none) c.in_err-end.ensures.err))

pub returns-in_default-clause-next : goal.returns-in_default-clause-next
returns-in_default-clause-next g c =
    let left = MayLeave (g.R.Read.remaining c.args.self.now.lines.reader.now) (held c.args.self.now.lines.block) in
    no_more c.args.self.now.version left c.args.self.now.due.items (c.args.self.now.lines.block.passed + 1) c.in_default.ensures.none c.in_ok-end.ensures.end

pub returns-in_err-head-clause-err : goal.returns-in_err-head-clause-err
returns-in_err-head-clause-err g c =
    let p = err_from_is_err_and c.from_residual-in_err-head.result c.from_residual-in_err-head.ensures.1 in
    let line = c.args.self.now.lines.block.passed + 1 in
    let left = MayLeave (g.R.Read.remaining c.args.self.now.lines.reader.now) (held c.args.self.now.lines.block) in
    let taken = c.piece_of.new.lines.block.taken in
    let h : IsFaultOn (OrMemory (Stops c.piece_of.new.lines.block.taken)) (MayLeave (g.R.Read.remaining c.args.self.now.lines.reader.now) (held c.args.self.now.lines.block)) (text_node c.args.self.now.version (length c.take_due.new.due.items) (c.args.self.now.lines.block.passed + 1)) c.in_err-head.field-0.0 =
    rw (← c.as_slice-above.ensures.value) c.in_err-head.ensures.err in
    rw (p.1, p.2)
    (node_fault c.args.self.now.version left c.args.self.now.due.items line taken c.in_err-head.field-0.0
    (rest_of_part c.args.self.now.version c.in_err-head.field-0.0 (OrMemory (Stops taken)) (OrMemory (Stops taken)) left (text_node c.args.self.now.version (length c.take_due.new.due.items) line) c.args.self.now.due.items line (λ x h. h)
    (node_fails c.args.self.now.version left c.args.self.now.due.items c.take_due.new.due.items c.in-Some.count line c.in-Some.ensures.some.0 c.in-Some.ensures.some.1) h))

pub returns-clause-due : goal.returns-clause-due
returns-clause-due g c steps =
    let is : c.push-2.new.self.items ≡ (c.take_due.new.due.items ++ (c.in-Some.count - 1) ∷ []) ++ head_children c.in_ok-head.head ∷ [] = rw (c.in_ok-push-2.ensures.items, c.in_ok-push.ensures.items, c.children.ensures) refl in
    takes_piece c.args.self.now.due.items c.take_due.new.due.items c.push-2.new.self.items c.in-Some.count c.in_ok-head.head c.in-Some.ensures.some.0 c.in-Some.ensures.some.1 is steps

pub returns-clause-next : goal.returns-clause-next
returns-clause-next g c read gives =
    let left = MayLeave (g.R.Read.remaining c.args.self.now.lines.reader.now) (held c.args.self.now.lines.block) in
    let after = MayLeave (g.R.Read.remaining c.piece_of.new.lines.reader.now) (held c.piece_of.new.lines.block) in
    let is : c.push-2.new.self.items ≡ (c.take_due.new.due.items ++ (c.in-Some.count - 1) ∷ []) ++ head_children c.in_ok-head.head ∷ [] = rw (c.in_ok-push-2.ensures.items, c.in_ok-push.ensures.items, c.children.ensures) refl in
    let said : SaysPiece c.args.self.now.version (MayLeave (g.R.Read.remaining c.args.self.now.lines.reader.now) (held c.args.self.now.lines.block)) (MayLeave (g.R.Read.remaining c.piece_of.new.lines.reader.now) (held c.piece_of.new.lines.block)) (length c.take_due.new.due.items) (c.args.self.now.lines.block.passed + 1) c.in_ok-head.head c.piece_of.new.text.items =
    rw (← c.as_slice-above.ensures.value) c.in_ok-head.ensures.said in
    let moved : c.piece_of.new.lines.block.passed + 1 ≡ c.args.self.now.lines.block.passed + 1 + 1 + count_of c.in_ok-head.head = omega (arith, c.in_ok-head.ensures.passed) in
    rw c.number-line.ensures
    (piece_next c.args.self.now.version left after c.args.self.now.due.items c.take_due.new.due.items c.push-2.new.self.items c.in-Some.count (c.args.self.now.lines.block.passed + 1) (c.piece_of.new.lines.block.passed + 1) c.in_ok-head.head
    c.piece_of.new.text.items c.in-Some.ensures.some.0 c.in-Some.ensures.some.1 is moved said read gives)

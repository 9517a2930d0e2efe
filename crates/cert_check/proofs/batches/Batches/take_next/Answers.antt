use Rattle.std.proofs.Common.{◌++◌}
use Rattle.cert_check.proofs.Pieces.{is_piece, lines_fail, lines_end, next_there, taken_on, not_taken}
use Rattle.cert_check.proofs.batches.Batches.take_next.Goals as goal

pub returns-in-Err-clause-stands : goal.returns-in-Err-clause-stands
returns-in-Err-clause-stands g c = λ low first front s.
    let e = c.in-Err.ensures in
    let own = c.args.self.now in
    let open_here = rw c.requires.open at s in
    rw c.from.ensures
    (lines_fail c.args.instance.now low g.R.Read.remaining first c.args.stream.now own.walk (front ++ own.held.leaves.items)
    open_here c.next_piece.new.self e.from own.walk c.in-Err.fault e.err)

pub returns-in_default-clause-stands : goal.returns-in_default-clause-stands
returns-in_default-clause-stands g c = λ low first front s.
    let e = c.in-Ok.ensures in
    let own = c.args.self.now in
    let open_here = rw c.requires.open at s in
    let ends = rw c.in_default.is at e.next in
    let closed = rw c.in_default.is at e.closed in
    lines_end c.args.instance.now low g.R.Read.remaining first c.args.stream.now own.walk (front ++ own.held.leaves.items)
    open_here c.next_piece.new.self e.from own.walk ends closed

pub take-requires-clause-walk : goal.take-requires-clause-walk
take-requires-clause-walk g c =
    let e = c.in-Ok.ensures in
    let own = c.args.self.now in
    let said = c.in-Some.said in
    let now = c.args.stream.now in
    let next = c.next_piece.new.self in
    let piece = is_piece g.R.Read.remaining now next c.next_piece.new.steps.items c.in-Ok.next said c.in-Some.is e.next e.line e.low e.due e.passed e.from in
    let there = c.requires.somewhere in
    let open_here = rw c.requires.open at there.3 in
    next_there c.args.instance.now there.0 g.R.Read.remaining there.1 now own.walk (there.2 ++ own.held.leaves.items)
    open_here next said.0 said.1 c.next_piece.new.steps piece

pub returns-in-Ok-take-clause-stands : goal.returns-in-Ok-take-clause-stands
returns-in-Ok-take-clause-stands g c = λ low first front s.
    let e = c.in-Ok.ensures in
    let own = c.args.self.now in
    let said = c.in-Some.said in
    let now = c.args.stream.now in
    let next = c.next_piece.new.self in
    let piece = is_piece g.R.Read.remaining now next c.next_piece.new.steps.items c.in-Ok.next said c.in-Some.is e.next e.line e.low e.due e.passed e.from in
    let open_here = rw c.requires.open at s in
    let new = c.take.new.self in
    taken_on c.args.instance.now low g.R.Read.remaining first now own.walk front own.held.leaves.items open_here next new.walk new.held.leaves.items
    said.0 said.1 c.next_piece.new.steps piece (rw c.version.ensures at c.in-Ok-take.ensures.takes)

pub returns-in-Err-take-clause-stands : goal.returns-in-Err-take-clause-stands
returns-in-Err-take-clause-stands g c = λ low first front s.
    let e = c.in-Ok.ensures in
    let own = c.args.self.now in
    let said = c.in-Some.said in
    let now = c.args.stream.now in
    let next = c.next_piece.new.self in
    let piece = is_piece g.R.Read.remaining now next c.next_piece.new.steps.items c.in-Ok.next said c.in-Some.is e.next e.line e.low e.due e.passed e.from in
    let open_here = rw c.requires.open at s in
    let new = c.take.new.self in
    not_taken c.args.instance.now low g.R.Read.remaining first now own.walk front own.held.leaves.items open_here next new.walk new.held.leaves.items
    said.0 said.1 c.next_piece.new.steps piece c.in-Err-take.fault c.in-Err-take.ensures.kept c.in-Err-take.ensures.err

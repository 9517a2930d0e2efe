use Rattle.std.proofs.Common.{rules, ◌++◌, arith, get_or, refl, subst}
use Rattle.std.specs.Fmt.{HasWritten}
use Rattle.std.proofs.lemmas.Grind.{put_two}
use Rattle.line_text.specs.Told.{told_byte}
use Rattle.line_text.proofs.Tellings.{ends, goes_on, stops}
use Rattle.line_text.proofs.told.ToldDisplay.fmt.Goals as goal

pub returns-then-room-length-clause-writes : goal.returns-then-room-length-clause-writes
returns-then-room-length-clause-writes g c plain _ =
    let i = c.loop-byte.invariant plain in
    let bytes = c.args.self.now.bytes.now in
    subst (λ t. HasWritten g.W.Write.write_str_gives c.args.f.now t c.loop-byte.f)
    (stops i.0 bytes c.loop-byte.room c.loop-byte.byte-index c.loop-byte-test.true (omega (arith, c.if-room-length.true, c.told_length-length.ensures)) i.2) i.1

pub loop-byte-preserved : goal.loop-byte-preserved
loop-byte-preserved g c plain =
    let i = c.loop-byte.invariant plain in
    let bytes = c.args.self.now.bytes.now in
    let b = told_byte (get_or bytes c.loop-byte.byte-index 0) in
    (i.0 ++ b, put_two _ _ _ _ i.0 b _ i.1 (search rules) refl, goes_on i.0 bytes _ c.loop-byte.room c.loop-byte.byte-index _ c.told_length-length.ensures c.loop-byte-test.true c.if-room-length.false i.2)

pub returns-clause-writes : goal.returns-clause-writes
returns-clause-writes g c plain _ =
    let i = c.loop-byte.invariant plain in
    subst (λ t. HasWritten g.W.Write.write_str_gives c.args.f.now t c.loop-byte.f)
    (ends i.0 c.args.self.now.bytes.now c.loop-byte.room c.loop-byte.byte-index c.loop-byte-test.false i.2) i.1

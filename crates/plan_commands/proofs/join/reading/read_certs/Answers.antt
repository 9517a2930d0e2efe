use Rattle.std.proofs.Common.{◌≡◌, ◌++◌, ◌∷◌, [], ap, arith, length, length-append}
use Rattle.plan_commands.proofs.Readers.{certificates_next, rest_next, unread_next}
use Rattle.plan_commands.proofs.join.reading.read_certs.Goals as goal

-- the certificates before this one are read, and this one's reader is as it was
pub returns-in-Err-clause-read : goal.returns-in-Err-clause-read
returns-in-Err-clause-read g c = λ texts is.
    let l = c.loop-k in
    let before = l.invariant.certs texts is in
    rw c.end_at.ensures (unread_next g.R.Read.remaining c.args.readers.now l.readers texts l.k c.index-readers-k.result l.certs.items c.in-Err.fault
    is c.loop-k-test.true l.invariant.rest before c.in-Err.ensures)

-- one certificate more, and only its reader has changed
pub loop-k-preserved : goal.loop-k-preserved
loop-k-preserved g c =
    let l = c.loop-k in
    let old = c.args.readers.now in
    let more : c.push.new.self.items ≡ l.certs.items ++ c.in-Ok.cert ∷ [] =
    rw (c.is_err.ensures.negation, c.if-is_err.false) at c.push.ensures.items in
    record {
      rest = rest_next l.readers old l.k c.read_cert.new.reader c.loop-k-test.true l.auto.readers l.invariant.rest;
      count = omega (arith, ap length more, length-append l.certs.items (c.in-Ok.cert ∷ []));
      certs = λ texts is. certificates_next g.R.Read.remaining old l.readers texts l.k c.index-readers-k.result l.certs.items c.push.new.self.items
          c.in-Ok.cert is c.loop-k-test.true l.invariant.rest (l.invariant.certs texts is) c.in-Ok.ensures more;
    }

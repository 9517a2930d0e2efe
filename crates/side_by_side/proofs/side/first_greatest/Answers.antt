use Rattle.std.proofs.Common.{◌≡◌, ◌<◌, length, arith, refl, sym, ◌∙◌}
use Rattle.side_by_side.specs.Found.{number_at}
use Rattle.side_by_side.proofs.Found.{found_none, found_more, found_all}
use Rattle.side_by_side.proofs.OneRead.{certificate_read}
use Rattle.side_by_side.proofs.side.first_greatest.Goals as goal

pub loop-k-init : goal.loop-k-init
loop-k-init c = found_none (number_at c.args.certs.now c.args.sides.now c.args.depth c.args.wanted) c.args.above

pub loop-k-preserved : goal.loop-k-preserved
loop-k-preserved c =
    let certs = c.args.certs.now in
    let sides = c.args.sides.now in
    let has = number_at certs sides c.args.depth c.args.wanted in
    let k = c.loop-k.k in
    let inside : k < length certs = omega (arith, c.loop-k-test.true) in
    let cert = certificate_read certs k c.index-certs-k.result inside c.index-certs-k.is in
    let own : has k ≡ c.number_of-own.result =
    sym (c.number_of-own.ensures ∙ rw (c.low.ensures, c.top_of-top.ensures, c.nodes.ensures.nodes, c.side_of.ensures, cert) refl) in
    rw c.better-best.ensures (found_more k has c.args.above c.loop-k.best c.number_of-own.result own c.loop-k.invariant)

pub returns : goal.returns
returns c =
    let has = number_at c.args.certs.now c.args.sides.now c.args.depth c.args.wanted in
    let all : c.loop-k.k ≡ length c.args.certs.now = omega (arith, c.loop-k-test.false, c.loop-k.auto.k-end) in
    rw all at (found_all c.loop-k.k has c.args.above c.loop-k.best.number c.loop-k.best.most c.loop-k.invariant)

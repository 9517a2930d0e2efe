-- A round is left for each message to the process so far.
use Rattle.std.proofs.Common.{◌≡◌, ◌≤◌, arith, below_more, length, refl}
use Rattle.sought_plans.specs.Dominance.{IsSentTo}
use Rattle.sought_plans.specs.Known.{top_of}
use Rattle.certificate_reasons.proofs.FirstLacking.{message_at, round_left}
use Rattle.certificate_reasons.proofs.time_lacks.no_round_to.Goals as goal

pub loop-m-preserved : goal.loop-m-preserved
loop-m-preserved c =
    let s = c.args.facts.now in
    below_more (λ m. IsSentTo s.instance c.args.p m → 1 ≤ top_of s.known m) c.loop-m.m c.loop-m.invariant
    (round_left s.instance s.known c.args.p c.loop-m.m c.has_no_round.result c.has_no_round.ensures c.if-has_no_round.false)

pub no_round-requires-clause-lacks : goal.no_round-requires-clause-lacks
no_round-requires-clause-lacks c = let none = (c.has_no_round.ensures.0 c.if-has_no_round.true).1 in λ some. omega (arith, none, some)

pub returns-then-has_no_round : goal.returns-then-has_no_round
returns-then-has_no_round c =
    let s = c.args.facts.now in
    message_at s.instance s.known c.args.p c.loop-m.m c.no_round.result (c.has_no_round.ensures.0 c.if-has_no_round.true).0 c.loop-m.invariant c.no_round.ensures

pub unreachable-requires : goal.unreachable-requires
unreachable-requires c =
    let s = c.args.facts.now in
    let size : length c.messages-count.result.now ≡ length s.instance.messages = rw (c.messages-count.ensures.value, c.instance.ensures.value) refl in
    c.requires (λ m sent. c.loop-m.invariant m (omega (arith, sent.0, size, c.loop-m-test.false)) sent)

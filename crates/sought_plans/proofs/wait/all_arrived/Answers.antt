use Rattle.std.proofs.Common.{◌≤◌, ℕ, length, slice_index, arith, below_more}
use Rattle.ttp_model.specs.Network.{is_received_by}
use Rattle.ttp_model.proofs.Raising.{raised_none, raised_more}
use Rattle.ttp_model.proofs.Indices.{raised_listed}
use Rattle.sought_plans.specs.Known.{top_of}
use Rattle.sought_plans.specs.Dominance.{IsSentTo, last_arrival}
use Rattle.sought_plans.proofs.Elsewhere.{among_received, listed_is_sent, rounds_listed}
use Rattle.sought_plans.proofs.wait.all_arrived.Goals as goal

pub returns-then-top-eq0-clause-none : goal.returns-then-top-eq0-clause-none
returns-then-top-eq0-clause-none c = λ rounds.
    let list = rw c.instance-instance.ensures at c.received_by-m-items.ensures.value in
    let sent = listed_is_sent c.args.setting.now.instance c.args.p c.loop-m.m-index _ list c.loop-m-test.true in
    let round = rounds (slice_index c.received_by-m-items.result.now c.loop-m.m-index) sent in
    omega (arith, round, c.top.ensures, c.if-top-eq0.true)

pub loop-m-preserved : goal.loop-m-preserved
loop-m-preserved c =
    let i = c.args.setting.now.instance in
    let xs = c.received_by-m-items.result.now in
    let list = rw c.instance-instance.ensures at c.received_by-m-items.ensures.value in
    let is = λ (j : ℕ). IsSentTo i c.args.p (slice_index xs j) in
    let value = λ (j : ℕ). last_arrival i c.args.setting.now.choice c.args.known.now (slice_index xs j) in
    let sent = listed_is_sent i c.args.p c.loop-m.m-index xs list c.loop-m-test.true in
    record {
      within = omega (arith, c.loop-m-test.true);
      rounds = below_more (λ (j : ℕ). 1 ≤ top_of c.args.known.now (slice_index xs j)) c.loop-m.m-index c.loop-m.invariant.rounds (omega (arith, c.top.ensures, c.if-top-eq0.false));
      last = rw (c.max-time.ensures, c.last_arrival.ensures.value) (raised_more is value c.args.ended c.loop-m.m-index c.loop-m.time c.loop-m.invariant.last sent);
      bound = omega (arith, c.max-time.ensures, c.last_arrival.ensures.bound, c.loop-m.invariant.bound);
    }

pub loop-m-init : goal.loop-m-init
loop-m-init c = record { within = omega arith; rounds = λ k lt. absurd (omega (arith, lt)); last = raised_none _ _ _; bound = c.requires.short }

pub returns-clause-last : goal.returns-clause-last
returns-clause-last c =
    let i = c.args.setting.now.instance in
    let list = rw c.instance-instance.ensures at c.received_by-m-items.ensures.value in
    raised_listed (IsSentTo i c.args.p) (last_arrival i c.args.setting.now.choice c.args.known.now) c.args.ended (is_received_by i c.args.p) (length i.messages) c.loop-m.time c.loop-m.m-index _ (among_received i c.args.p) list c.loop-m.invariant.within c.loop-m-test.false c.loop-m.invariant.last

pub returns-clause-rounds : goal.returns-clause-rounds
returns-clause-rounds c =
    let list = rw c.instance-instance.ensures at c.received_by-m-items.ensures.value in
    rounds_listed c.args.setting.now.instance c.args.known.now c.args.p c.loop-m.m-index _ list c.loop-m-test.false c.loop-m.invariant.rounds

pub last_arrival-requires-clause-message : goal.last_arrival-requires-clause-message
last_arrival-requires-clause-message c =
    let list = rw c.instance-instance.ensures at c.received_by-m-items.ensures.value in
    (listed_is_sent c.args.setting.now.instance c.args.p c.loop-m.m-index _ list c.loop-m-test.true).0

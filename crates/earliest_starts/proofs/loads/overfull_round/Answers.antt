use Rattle.std.proofs.Common.{◌≡◌, ◌+◌, ◌≤◌, true, false, length, arith, ap, sym, ◌∙◌}
use Rattle.ttp_model.specs.declared.parts.Message.{Message}
use Rattle.ttp_model.proofs.Totals.{total_longer}
use Rattle.earliest_starts.specs.Fixed.{fixed_bytes}
use Rattle.earliest_starts.proofs.FrameLoads.{is_sent, load_more, AreCounted-more, AreCounted-same}
use Rattle.earliest_starts.proofs.loads.overfull_round.Goals as goal
use Rattle.earliest_starts.proofs.loads.overfull_round.Goals.{then-is_sent_on+else-capacity-load+in_ok-insert, else-is_sent_on}

pub returns-then-capacity-load-clause-found : goal.returns-then-capacity-load-clause-found
returns-then-capacity-load-clause-found c =
    let before = c.load_in-before.ensures ∙ c.loop-m.invariant.counted c.lo-r.result in
    let over = rw c.message_at.ensures.value at c.if-capacity-load.true in
    let inside : c.loop-m.m + 1 ≤ length c.args.instance.now.messages = omega (arith, ap length c.messages.ensures.value, c.loop-m-test.true) in
    let sent : is_sent c.args.instance.now c.args.choice.now c.args.n c.args.k c.loop-m.m ≡ true = rw c.requires.channels at (sym c.is_sent_on.ensures ∙ c.if-is_sent_on.true) in
    let more = load_more c.args.instance.now c.args.choice.now c.args.n c.args.k c.loop-m.m sent c.lo-r.result (sym c.lo-r.ensures) in
    omega (arith, before, over, more, total_longer (fixed_bytes c.args.instance.now c.args.choice.now c.args.n c.lo-r.result c.args.k) (c.loop-m.m + 1) (length c.args.instance.now.messages) inside)

pub loop-m-preserved : goal.loop-m-preserved
loop-m-preserved c = elim c.if-is_sent_on.branch [
  | then-is_sent_on+else-capacity-load+in_ok-insert w ↦
      let before = w.load_in-before.ensures ∙ c.loop-m.invariant.counted w.lo-r.result in
      let message = rw w.message_at.ensures.value at w.message_at.ensures.bytes in
      let sent : is_sent c.args.instance.now c.args.choice.now c.args.n c.args.k c.loop-m.m ≡ true = rw c.requires.channels at (sym c.is_sent_on.ensures ∙ w.if-is_sent_on.true) in
      rw w.loads-is (AreCounted-more c.args.instance.now c.args.choice.now c.args.n c.args.k c.loop-m.m sent w.lo-r.result (w.load_in-before.result + w.message_at.result.now.bytes) (sym w.lo-r.ensures) (omega (arith, before, ap (λ (m : Message). m.bytes) w.message_at.ensures.value)) c.args.capacity c.loop-m.loads w.insert.new.self c.loop-m.invariant w.if-capacity-load.false message w.in_ok-insert.ensures.updates)
  | else-is_sent_on w ↦
      let other : is_sent c.args.instance.now c.args.choice.now c.args.n c.args.k c.loop-m.m ≡ false = rw c.requires.channels at (sym c.is_sent_on.ensures ∙ w.if-is_sent_on.false) in
      rw w.loads-is (AreCounted-same c.args.instance.now c.args.choice.now c.args.n c.args.k c.loop-m.m c.args.capacity c.loop-m.loads other c.loop-m.invariant)
]

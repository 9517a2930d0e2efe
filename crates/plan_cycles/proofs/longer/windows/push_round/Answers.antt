use Rattle.std.proofs.Common.{◌≡◌, ◌<◌, ◌∙◌, length, map, take, ap, arith}
use Rattle.std.proofs.lemmas.List.{length-append}
use Rattle.ttp_model.specs.declared.limits.TheConstants.{MOST_ROUND}
use Rattle.plan_cycles.specs.Rounds.{later_window}
use Rattle.plan_cycles.proofs.LaterWindows.{next_window, window_copied, window_early}
use Rattle.plan_cycles.proofs.longer.windows.push_round.Goals as goal

pub index-requires : goal.index-requires
index-requires c =
    let before = c.args.windows.now.items in
    let copied = map (later_window c.args.round c.args.ticks) (take c.loop-k.k before) in
    omega (arith, ap length c.loop-k.invariant, length-append before copied, c.loop-k-test.true, c.requires.inside)

pub later-window-requires : goal.later-window-requires
later-window-requires c =
    let before = c.args.windows.now.items in
    let inside : c.loop-k.k < length before = omega (arith, c.loop-k-test.true, c.requires.inside) in
    let first = c.index.ensures ∙ next_window (later_window c.args.round c.args.ticks) before c.loop-k.windows.items c.loop-k.k c.index.result.now inside c.loop-k.invariant in
    record {
      early = window_early MOST_ROUND c.args.slots c.loop-k.k before c.index.result.now c.loop-k-test.true c.requires.inside c.requires.early first;
      ticks = c.requires.ticks;
    }

pub loop-k-preserved : goal.loop-k-preserved
loop-k-preserved c =
    let before = c.args.windows.now.items in
    let inside : c.loop-k.k < length before = omega (arith, c.loop-k-test.true, c.requires.inside) in
    window_copied (later_window c.args.round c.args.ticks) before c.loop-k.windows.items c.push.new.self.items c.loop-k.k c.index.result.now inside c.loop-k.invariant
    c.index.ensures (rw c.later-window.ensures at c.in_ok-push.ensures.items)

pub returns : goal.returns
returns c =
    let all : c.loop-k.k ≡ c.args.slots = omega (arith, c.loop-k-test.false, c.loop-k.auto.k-end) in
    rw all at c.loop-k.invariant

-- No channel has a lawful closer where there is one channel alone, or none of all was found to have one.
use Rattle.std.proofs.Common.{◌<◌, ◌≤◌, arith, inl, inr, ap}
use Rattle.std.proofs.lemmas.Bool.{cases_eq, cases_lt}
use Rattle.ttp_model.specs.Instance.{Instance}
use Rattle.load_bounds.proofs.Closing.{no_closer_past, no_closer_alone}
use Rattle.load_bounds.proofs.loads.channel_load.Goals as goal

pub returns-then-channels-lt2 : goal.returns-then-channels-lt2
returns-then-channels-lt2 c = λ k a b.
    let channels = ap (λ (x : Instance). x.cluster.channels) c.instance.ensures.value in
    let alone : c.args.facts.now.instance.cluster.channels < 2 = rw (c.cluster.ensures.value, channels) at c.if-channels-lt2.true in
    no_closer_alone c.args.facts.now k c.args.node a b alone

pub returns : goal.returns
returns c = λ k a b.
    let channels = ap (λ (x : Instance). x.cluster.channels) c.instance.ensures.value in
    elim (cases_lt k c.loop-channel.channel) [
      | inl below ↦ c.loop-channel.invariant k a b below
      | inr past ↦
          let all : c.args.facts.now.instance.cluster.channels ≤ c.loop-channel.channel = rw (c.cluster.ensures.value, channels) at c.loop-channel-test.false in
          no_closer_past c.args.facts.now k c.args.node a b (omega (arith, all, past))
    ]

pub loop-channel-preserved : goal.loop-channel-preserved
loop-channel-preserved c = λ k a b below. elim (cases_eq k c.loop-channel.channel) [
  | inl same ↦ rw same (c.in_default.ensures a b)
  | inr other ↦ c.loop-channel.invariant k a b (omega (arith, below, other))
]

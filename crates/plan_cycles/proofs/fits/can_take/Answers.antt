use Rattle.std.proofs.Common.{◌∙◌, le-ltb, sym}
use Rattle.std.proofs.lemmas.Bool.{false≢true}
use Rattle.ttp_model.specs.declared.error.Place.TheVariants.{AtCluster}
use Rattle.plan_cycles.proofs.TakenRounds.{no_bytes_taken, past_sums, sums_tell}
use Rattle.plan_cycles.proofs.fits.can_take.Goals as goal

pub bytes_of_round-requires-clause-ranges : goal.bytes_of_round-requires-clause-ranges
bytes_of_round-requires-clause-ranges c = rw c.cluster.ensures.value (c.cluster.ensures.instance.ranges AtCluster)

pub returns-then-bytes : goal.returns-then-bytes
returns-then-bytes c =
    let is = rw (c.cluster.ensures.value, c.nodes-count.ensures.value) at c.in-Some.ensures in
    sums_tell c.args.instance.now c.args.trail c.args.round c.nodes-count.ensures.instance c.in-Some.bytes is c.args.sums.now c.requires.sums c.if-bytes.true

pub returns-else-bytes : goal.returns-else-bytes
returns-else-bytes c =
    let is = rw (c.cluster.ensures.value, c.nodes-count.ensures.value) at c.in-Some.ensures in
    let none = past_sums c.args.instance.now c.args.trail c.args.round c.nodes-count.ensures.instance c.in-Some.bytes is c.if-bytes.false in
    (λ is. absurd (false≢true (sym (le-ltb c.in-Some.bytes 32001 c.if-bytes.false) ∙ is)), λ can. absurd (none can))

pub returns-in-None : goal.returns-in-None
returns-in-None c =
    let none = rw (c.cluster.ensures.value, c.nodes-count.ensures.value) at c.in-None.ensures in
    (λ is. absurd (false≢true is), λ can. absurd (no_bytes_taken c.args.instance.now c.args.trail c.args.round none can))

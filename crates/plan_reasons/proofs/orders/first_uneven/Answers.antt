use Rattle.std.proofs.Common.{◌≡◌, ◌∙◌, ◌≢◌, ℕ, ◌<◌, ◌≤◌, Bool, List, true, false, length, not, ap, eq-eqb}
use Rattle.std.specs.Prelude.{◌==◌}
use Rattle.std.proofs.lemmas.Bool.{ne_eqb}
use Rattle.plan_reasons.specs.Orders.{times_named}
use Rattle.ttp_model.proofs.Named.{node_name_is}
use Rattle.plan_reasons.proofs.Words.{node_absent, node_found, one_more}
use Rattle.plan_reasons.proofs.orders.first_uneven.Goals as goal

-- whether a node isn't named just once
abbrev uneven : List ℕ → List ℕ → Bool
uneven line name = not (times_named line name == 1)

passes : (line name : List ℕ) (times : ℕ) → times ≡ times_named line name → times ≢ 1 → uneven line name ≡ true
passes line name times is other = rw (← is) (ap not (ne_eqb times 1 other))

fails : (line name : List ℕ) (times : ℕ) → times ≡ times_named line name → times ≡ 1 → uneven line name ≡ false
fails line name times is once = rw (← is) (ap not (eq-eqb times 1 once))

pub returns-then-times_named-ne1-clause-value : goal.returns-then-times_named-ne1-clause-value
returns-then-times_named-ne1-clause-value c =
    let inside : c.loop-n.n < length c.args.instance.now.nodes = rw c.nodes-n-end.ensures.value at c.loop-n-test.true in
    node_found c.args.instance.now (uneven c.args.line.now) c.loop-n.n c.loop-n.invariant c.as_bytes.result.now inside
    (c.as_bytes.ensures.value ∙ (c.node_name.ensures ∙ node_name_is c.args.instance.now c.loop-n.n)) (passes c.args.line.now c.as_bytes.result.now _ c.times_named.ensures c.if-times_named-ne1.true)

pub loop-n-preserved : goal.loop-n-preserved
loop-n-preserved c =
    one_more c.args.instance.now (uneven c.args.line.now) c.loop-n.n c.loop-n.invariant c.as_bytes.result.now
    (c.as_bytes.ensures.value ∙ (c.node_name.ensures ∙ node_name_is c.args.instance.now c.loop-n.n)) (fails c.args.line.now c.as_bytes.result.now _ c.times_named.ensures c.if-times_named-ne1.false)

pub returns-clause-value : goal.returns-clause-value
returns-clause-value c =
    let past : length c.args.instance.now.nodes ≤ c.loop-n.n = rw c.nodes-n-end.ensures.value at c.loop-n-test.false in
    node_absent c.args.instance.now (uneven c.args.line.now) c.loop-n.n c.loop-n.invariant past

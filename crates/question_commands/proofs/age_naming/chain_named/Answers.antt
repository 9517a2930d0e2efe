use Rattle.std.proofs.Common.{◌≢◌, ◌∙◌, length, arith, sym, ap, below_more}
use Rattle.std.specs.Cmp.Lexicographic.{other_text, same_text}
use Rattle.rates_model.specs.declared.parts.Chain.{Chain}
use Rattle.rates_model.specs.Rates.{chain_at}
use Rattle.question_commands.proofs.age_naming.chain_named.Goals as goal

pub returns-then-eq : goal.returns-then-eq
returns-then-eq c =
    let read = same_text _ _ (sym c.if-eq.true ∙ c.eq.ensures) in
    let named = ap (λ (chain : Chain). chain.name) c.chain_at.ensures.value in
    record {
      there = omega (arith, c.loop-x-test.true, ap length c.chains-x-end.ensures.value);
      same = sym named ∙ sym c.as_bytes.ensures ∙ read ∙ c.as_bytes-in-loop-x.ensures.value;
    }

pub loop-x-preserved : goal.loop-x-preserved
loop-x-preserved c =
    let read = other_text _ _ (sym c.if-eq.false ∙ c.eq.ensures) in
    let named = ap (λ (chain : Chain). chain.name) c.chain_at.ensures.value in
    below_more (λ x. (chain_at c.args.rates.now x).name ≢ c.args.name.now) _ c.loop-x.invariant
    (λ same. read (c.as_bytes.ensures ∙ named ∙ same ∙ sym c.as_bytes-in-loop-x.ensures.value))

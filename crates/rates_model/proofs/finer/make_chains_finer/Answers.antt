use Rattle.std.proofs.Common.{◌≡◌, slice_index_or, sym}
use Rattle.std.proofs.lemmas.List.Edits.{map_over_more}
use Rattle.rates_model.specs.Finer.{finer_chain}
use Rattle.rates_model.proofs.finer.make_chains_finer.Goals as goal

pub loop-chain-preserved : goal.loop-chain-preserved
unfolding finer_chain
loop-chain-preserved c =
    let item = c.chain-item.result in
    let same : slice_index_or c.loop-chain.chains c.loop-chain.chain-index item ≡ item = sym c.chain-item.is in
    rw (c.saturating_mul-chain.ensures, same)
    (map_over_more (finer_chain c.args.finer) c.args.chains.now c.loop-chain.chains c.loop-chain.chain-index item c.loop-chain-test.true
    c.loop-chain.invariant c.chain-item.is)

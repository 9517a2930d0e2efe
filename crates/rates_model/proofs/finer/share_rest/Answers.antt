use Rattle.std.proofs.Common.{◌≡◌, ◌∙◌, ◌*◌, ◌/◌, ℕ, ap₂, arith, map, rules}
use Rattle.std.proofs.lemmas.List.{with_items_is, places}
use Rattle.rates_model.specs.Cycles.{least_times}
use Rattle.rates_model.specs.Finer.{finer_chain, finer_process, finer_ticks, rest_of, share_of, sharing_slots}
use Rattle.rates_model.specs.Parts.{rates_of}
use Rattle.rates_model.proofs.FinerParts.{all_finer}
use Rattle.rates_model.proofs.finer.share_rest.Goals as goal

pub returns : goal.returns
returns c =
    let rho = rates_of c.args.parts.now in
    let slots : c.max-slots.result ≡ sharing_slots rho = grind (arith, c.len.ensures, c.min.ensures, c.max-slots.ensures) in
    let rest : c.rest_of-rest.result ≡ rest_of rho c.args.round = rw c.deref.ensures.value at c.rest_of-rest.ensures in
    let ticks : c.finer_ticks-finer.result ≡ finer_ticks rho c.args.round = c.finer_ticks-finer.ensures.value ∙ ap₂ least_times rest slots in
    let share : c.share_of-share.result ≡ share_of rho c.args.round =
    c.share_of-share.ensures ∙ ap₂ (λ (n d : ℕ). n / d) (ap₂ (λ (f r : ℕ). f * r) ticks rest) slots in
    let processes = with_items_is c.args.parts.now.processes c.make_processes_finer.new.processes (search (rules, places)) in
    let chains = with_items_is c.args.parts.now.chains c.make_chains_finer.new.chains (search (rules, places)) in
    let new_processes : c.make_processes_finer.new.processes ≡ map (finer_process c.finer_ticks-finer.result) rho.processes =
    rw c.as_mut_slice.ensures.value at c.make_processes_finer.ensures in
    let new_chains : c.make_chains_finer.new.chains ≡ map (finer_chain c.finer_ticks-finer.result) rho.chains =
    rw c.as_mut_slice-2.ensures.value at c.make_chains_finer.ensures in
    all_finer rho _ _ _ _ _ _ _ ticks share c.finer_cluster-parts.ensures (processes ∙ new_processes) (chains ∙ new_chains)

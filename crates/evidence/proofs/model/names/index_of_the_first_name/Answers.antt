use Rattle.std.proofs.Common.{◌≡◌, ◌<◌, ◌∙◌, ℕ, [], length, get_or, refl, arith}
use Rattle.std.specs.Prelude.{bytes_eq}
use Rattle.std.proofs.lemmas.List.{length-map}
use Rattle.std.proofs.lemmas.Slice.Eq.{bytes_eq-Decides}
use Rattle.ttp_model.specs.declared.error.Part.TheVariants.{Processes}
use Rattle.ttp_model.specs.Names.{names_in}
use Rattle.ttp_model.proofs.Named.{found_at}
use Rattle.evidence.proofs.model.names.index_of_the_first_name.Goals as goal

pub name_in-name-requires : goal.name_in-name-requires
name_in-name-requires c =
    omega (arith, c.processes-processes.ensures.instance.limits.processes_least, length-map c.args.instance.now.processes (λ p. p.name))

pub returns : goal.returns
returns c =
    let names = names_in c.args.instance.now Processes in
    let some : 0 < length names = omega (arith, c.processes-processes.ensures.instance.limits.processes_least, length-map c.args.instance.now.processes (λ p. p.name)) in
    let same = (bytes_eq-Decides (get_or names 0 []) (get_or names 0 [])).1 refl in
    c.index_named.ensures.value ∙ (rw c.name_in-name.ensures (found_at (λ n. bytes_eq n (get_or names 0 [])) names 0 some (λ j below. absurd (omega (arith, below))) same))

use Rattle.std.proofs.Common.{rules}
use Rattle.rates_model.specs.Rates.{no_node, no_process, no_message, no_chain}
use Rattle.rates_model.proofs.rules.names.repeated.Goals as goal

pub returns-in-Some : goal.returns-in-Some
returns-in-Some c = let nodes = c.in-Some.ensures no_node in search rules

pub returns-in-Some-first_repeated : goal.returns-in-Some-first_repeated
returns-in-Some-first_repeated c =
    let nodes = c.in_default.ensures no_node in
    let processes = c.in-Some-first_repeated.ensures no_process in
    search rules

pub returns-in-Some-first_repeated-2 : goal.returns-in-Some-first_repeated-2
returns-in-Some-first_repeated-2 c =
    let nodes = c.in_default.ensures no_node in
    let processes = c.in_default-first_repeated.ensures no_process in
    let messages = c.in-Some-first_repeated-2.ensures no_message in
    search rules

pub returns-in-Some-first_repeated-3 : goal.returns-in-Some-first_repeated-3
returns-in-Some-first_repeated-3 c =
    let nodes = c.in_default.ensures no_node in
    let processes = c.in_default-first_repeated.ensures no_process in
    let messages = c.in_default-first_repeated-2.ensures no_message in
    let chains = c.in-Some-first_repeated-3.ensures no_chain in
    search rules

use Rattle.std.proofs.Common.{◌≡◌, arith}
use Rattle.std.proofs.lemmas.Grind.{common_steps}
use Rattle.rates_model.specs.Rates.{chain_at}
use Rattle.rates_model.proofs.Elements.{age_inside, through_inside, through_least, through_most}
use Rattle.rates_model.proofs.rates.Rates.chain_at.Goals as goal

pub returns-clause-least : goal.returns-clause-least
returns-clause-least c =
    let is : c.index-chains-c.result ≡ chain_at c.args.self.now c.args.c = grind (arith, common_steps) in
    through_least _ c.chains.ensures.keeps c.args.c c.index-chains-c.result c.requires is

pub returns-clause-most : goal.returns-clause-most
returns-clause-most c =
    let is : c.index-chains-c.result ≡ chain_at c.args.self.now c.args.c = grind (arith, common_steps) in
    through_most _ c.chains.ensures.keeps c.args.c c.index-chains-c.result c.requires is

pub returns-clause-through : goal.returns-clause-through
returns-clause-through c =
    let is : c.index-chains-c.result ≡ chain_at c.args.self.now c.args.c = grind (arith, common_steps) in
    through_inside _ c.chains.ensures.keeps c.args.c c.index-chains-c.result c.requires is

pub returns-clause-age : goal.returns-clause-age
returns-clause-age c =
    let is : c.index-chains-c.result ≡ chain_at c.args.self.now c.args.c = grind (arith, common_steps) in
    age_inside _ c.chains.ensures.keeps c.args.c c.index-chains-c.result c.requires is

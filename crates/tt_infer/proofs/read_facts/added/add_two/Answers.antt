use Rattle.std.proofs.Common.{◌≡◌}
use Rattle.std.proofs.lemmas.Result.{on_ok_weaker}
use Rattle.tt_infer.proofs.AddedFacts.{adds_both}
use Rattle.tt_infer.proofs.read_facts.added.add_two.Goals as goal

pub returns : goal.returns
returns c = on_ok_weaker c.add-2.result (adds_both (λ fact. fact ≡ c.args.one) (λ fact. fact ≡ c.args.other) _ _ _ c.in_ok-add.ensures) c.add-2.ensures

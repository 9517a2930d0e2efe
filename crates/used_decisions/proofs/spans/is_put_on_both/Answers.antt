use Rattle.std.proofs.Common.{ℕ, ◌==◌, sym, ◌∙◌}
use Rattle.ttp_model.specs.Limits.{both_channels}
use Rattle.used_decisions.specs.Turns.{last_of, fixes_any}
use Rattle.used_decisions.proofs.Rounds.{on_test, on_no_test}
use Rattle.used_decisions.proofs.spans.is_put_on_both.Goals as goal

pub returns-in-Some : goal.returns-in-Some
returns-in-Some c =
    λ there. on_test (λ (k : ℕ). k == both_channels) (last_of (fixes_any c.args.m) c.args.path.now.turns) c.in-Some.on
    (sym c.in-Some.is ∙ c.channel.ensures there)

pub returns-in-None : goal.returns-in-None
returns-in-None c =
    λ there. on_no_test (λ (k : ℕ). k == both_channels) (last_of (fixes_any c.args.m) c.args.path.now.turns) (sym c.in-None.is ∙ c.channel.ensures there)

use Rattle.std.proofs.Common.{◌≡◌, length, arith, ap}
use Rattle.std.proofs.lemmas.Bool.{false≢true}
use Rattle.tt_choice.specs.Choice.{Choice}
use Rattle.tt_choice.proofs.Completes.{IsComplete-from, unordered-IsComplete}
use Rattle.tt_choice.proofs.choice.Choice.is_complete.Goals as goal

pub returns-then-self-gt0 : goal.returns-then-self-gt0
returns-then-self-gt0 c =
    let same = ap (λ (s : Choice). s.unordered) c.self.view_is in
    (λ e. absurd (false≢true e), λ is. absurd (omega (arith, same, unordered-IsComplete _ _ c.requires.of is)))

pub returns : goal.returns
returns c =
    let ok = c.requires.of in
    let same = ap (λ (s : Choice). s.unordered) c.self.view_is in
    let count = ap length c.nodes.ensures.value in
    let all_placed : length c.args.self.now.prefix ≡ length c.args.instance.now.nodes = omega (arith, count, ap length c.prefix.ensures) in (
      λ rounds. IsComplete-from _ _ ok all_placed (omega (arith, same)) (c.all_fixed.ensures.0 c.if-not-all_fixed.false)
          (c.all_on_channels.ensures.0 c.if-not-all_on_channels.false) (c.all_rounds.ensures.0 rounds),
      λ is. c.all_rounds.ensures.1 (λ m h. is.rounds m (omega (arith, h, ok.hi_length))),
    )

use Rattle.std.proofs.Common.{◌≡◌, ◌∙◌, ◌++◌, refl}
use Rattle.std.proofs.lemmas.Fmt.{contents_after_writes}
use Rattle.plan_commands.proofs.join.ending.line_of.Goals as goal

pub returns : goal.returns
returns c =
    contents_after_writes (λ s bytes t. t.bytes ≡ s.bytes ++ bytes) (λ line. line.bytes) (λ s bytes t is. is) _ _ _ c.in_ok-writeln.ensures.writes
    ∙ rw c.new-line.ensures refl

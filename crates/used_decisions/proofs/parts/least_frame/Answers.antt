use Rattle.std.proofs.Common.{ℕ, length, subst}
use Rattle.tt_choice.specs.Kept.{fixes_above}
use Rattle.used_decisions.specs.Marks.{IsTold}
use Rattle.used_decisions.specs.Turns.{last_of}
use Rattle.used_decisions.proofs.Marked.{told_level}
use Rattle.used_decisions.proofs.parts.least_frame.Goals as goal

pub returns : goal.returns
returns c = record {
  more = c.branch-uses.ensures.more;
  told = λ read there.
      let is = rw c.instance.ensures at c.source-n.ensures.value in
      let inside = rw c.instance.ensures at c.source-n.ensures.inside in
      let new = c.branch-uses.new.self.levels in
      subst (λ (n : ℕ). IsTold new (last_of (fixes_above n) c.args.path.now.turns)) (is there)
      (told_level new (length c.args.uses.now.levels) (fixes_above c.source-n.result) c.args.path.now.turns read.room c.above_least.result
      (c.above_least.ensures (inside there)) c.branch-uses.ensures.told);
}

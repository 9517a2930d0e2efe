use Rattle.std.proofs.Common.{length}
use Rattle.tt_choice.specs.Kept.{fixes_below}
use Rattle.used_decisions.specs.Turns.{last_of}
use Rattle.used_decisions.proofs.Marked.{told_level, told_grown}
use Rattle.used_decisions.proofs.SpansRead.{halves_read}
use Rattle.used_decisions.proofs.Tells.{more_twice, read_more}
use Rattle.used_decisions.proofs.spans.halves.Goals as goal

pub returns : goal.returns
returns c =
    let path = c.args.path.now in
    let one = c.branch-uses.new.self in
    let two = c.each_half.new.uses in
    let picks = fixes_below path.instance c.args.n in record {
      more = more_twice c.args.uses.now one two c.branch-uses.ensures.more c.each_half.ensures.more;
      told = λ read. halves_read path c.args.given.now two c.args.k c.args.n c.args.a c.args.b
          (λ there. told_grown one.levels two.levels (last_of picks path.turns) c.each_half.ensures.more.levels
          (told_level one.levels (length c.args.uses.now.levels) picks path.turns read.room c.below_most.result (c.below_most.ensures there)
          c.branch-uses.ensures.told))
          (c.each_half.ensures.told (read_more path c.args.uses.now one c.branch-uses.ensures.more read));
    }

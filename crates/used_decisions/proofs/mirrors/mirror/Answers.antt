use Rattle.std.proofs.Common.{ℕ, ◌<◌, subst}
use Rattle.ttp_model.specs.Network.{messages_of}
use Rattle.used_decisions.specs.Turns.{last_of, fixes_any}
use Rattle.used_decisions.specs.Steps.{TellsAside, TellsEach}
use Rattle.used_decisions.proofs.Marked.{told_grown}
use Rattle.used_decisions.proofs.MirrorsRead.{mirror_read}
use Rattle.used_decisions.proofs.Tells.{more_twice, read_more}
use Rattle.used_decisions.proofs.mirrors.mirror.Goals as goal

pub returns : goal.returns
returns c =
    let path = c.args.path.now in
    let given = c.args.given.now in
    let one = c.channel.new.uses in
    let two = c.each_lower.new.uses in record {
      more = more_twice c.args.uses.now one two c.channel.ensures.more c.each_lower.ensures.more;
      told = λ read. mirror_read path given two c.args.m read.are_open
          (λ there. told_grown one.levels two.levels (last_of (fixes_any c.args.m) path.turns) c.each_lower.ensures.more.levels
          (c.channel.ensures.told read there))
          (λ there.
          let source = rw c.instance.ensures at c.source-n.ensures.value in
          subst (λ (n : ℕ). TellsEach (λ uses k. k < c.args.m → TellsAside path given uses c.args.m k) (messages_of path.instance n) two) (source there)
          (c.each_lower.ensures.told (read_more path c.args.uses.now one c.channel.ensures.more read) there));
    }

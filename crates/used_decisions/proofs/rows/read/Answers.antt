use Rattle.std.proofs.Common.{◌≡◌, ap, sym, subst, ◌∙◌}
use Rattle.tt_infer.specs.Sources.{Reads, Nothing, One, Two, source_said, reads_said}
use Rattle.tt_infer.specs.Reads.{OfEach}
use Rattle.tt_infer.specs.Table.{reads}
use Rattle.used_decisions.specs.Steps.{IsSourceRead}
use Rattle.used_decisions.proofs.RowsRead.{source_more, step_read}
use Rattle.used_decisions.proofs.Tells.{more_none, more_twice, read_more}
use Rattle.used_decisions.proofs.rows.read.Goals as goal

pub returns-in-Nothing : goal.returns-in-Nothing
returns-in-Nothing c =
    let path = c.args.path.now in
    let given = c.args.given.now in
    let uses = c.args.uses.now in
    let said = rw c.instance.ensures at c.reads.ensures in
    record {
      more = more_none uses;
      told = λ read. step_read path given uses c.args.step.now read.rules
          (subst (OfEach (IsSourceRead path given uses)) (sym (ap reads_said c.in-Nothing.is) ∙ said) tt);
    }

pub returns-in-One : goal.returns-in-One
returns-in-One c =
    let path = c.args.path.now in
    let given = c.args.given.now in
    let new = c.read_source.new.uses in
    let said = rw c.instance.ensures at c.reads.ensures in
    record {
      more = c.read_source.ensures.more;
      told = λ read. step_read path given new c.args.step.now read.rules
          (subst (OfEach (IsSourceRead path given new)) (sym (ap reads_said c.in-One.is) ∙ said) (c.read_source.ensures.told read));
    }

pub returns-in-Two : goal.returns-in-Two
returns-in-Two c =
    let path = c.args.path.now in
    let given = c.args.given.now in
    let old = c.args.uses.now in
    let one = c.read_source-in-Two.new.uses in
    let new = c.read_source-in-Two-2.new.uses in
    let to_one = c.read_source-in-Two.ensures.more in
    let on = c.read_source-in-Two-2.ensures.more in
    let said = rw c.instance.ensures at c.reads.ensures in
    record {
      more = more_twice old one new to_one on;
      told = λ read. step_read path given new c.args.step.now read.rules
          (subst (OfEach (IsSourceRead path given new)) (sym (ap reads_said c.in-Two.is) ∙ said) (
            source_more path given one new on (source_said c.in-Two.first) (c.read_source-in-Two.ensures.told read),
            c.read_source-in-Two-2.ensures.told (read_more path old one to_one read),
          ));
    }

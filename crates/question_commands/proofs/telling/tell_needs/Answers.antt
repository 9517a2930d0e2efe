use Rattle.std.proofs.Common.{append-nil}
use Rattle.std.proofs.KnownBytes.{Appends-nil}
use Rattle.std.proofs.lemmas.Result.{err_from_is_err_and}
use Rattle.question_commands.proofs.Told.{last_is_of}
use Rattle.question_commands.proofs.Lines.{lines_more, need_cut, search_cut}
use Rattle.question_commands.proofs.telling.tell_needs.Goals as goal

pub needs-init : goal.needs-init
needs-init g c = record {
  narrowing = c.requires.narrowing;
  written = rw c.requires.untold (Appends-nil (g.W.Write.contents c.args.out.now));
}

pub tell_need-requires : goal.tell_need-requires
tell_need-requires g c =
    last_is_of c.args.instance.now c.args.asking.now.options c.next_need.new.conflict c.needs.conflict.needed.items c.in-Some.constraint
    c.in-Ok.ensures.narrowing (rw c.in-Some.is at c.in-Ok.ensures.told)

pub needs-preserved : goal.needs-preserved
needs-preserved g c = record {
  narrowing = c.in-Ok.ensures.narrowing;
  written = lines_more c.args.instance.now c.args.asking.now.options c.needs.conflict c.next_need.new.conflict c.in-Some.constraint
      c.needs.invariant.narrowing c.in-Ok.ensures.narrowing (rw c.in-Some.is at c.in-Ok.ensures.told)
      (g.W.Write.contents c.args.out.now) (g.W.Write.contents c.needs.out) (g.W.Write.contents c.tell_need.new.out)
      c.needs.invariant.written c.in_ok-tell_need-in-Some.ensures.ok;
}

pub needs-smaller : goal.needs-smaller
needs-smaller g c = rw c.in-Some.is at c.in-Ok.ensures.closer

pub returns-in_err-tell_need-in-Some-clause-err : goal.returns-in_err-tell_need-in-Some-clause-err
returns-in_err-tell_need-in-Some-clause-err g c =
    let p = err_from_is_err_and c.from_residual.result c.from_residual.ensures.1 in
    rw (p.1, p.2)
    (need_cut c.args.instance.now c.args.asking.now.options c.needs.conflict c.next_need.new.conflict c.in-Some.constraint
    c.needs.invariant.narrowing c.in-Ok.ensures.narrowing (rw c.in-Some.is at c.in-Ok.ensures.told)
    (g.W.Write.contents c.args.out.now) (g.W.Write.contents c.needs.out) (g.W.Write.contents c.tell_need.new.out)
    c.needs.invariant.written c.in_err-tell_need-in-Some.field-0.0 c.in_err-tell_need-in-Some.ensures.err)

pub returns-in-None-clause-end : goal.returns-in-None-clause-end
returns-in-None-clause-end g c = c.in-Ok.ensures.end c.in-None.is

pub returns-in-None-clause-lines : goal.returns-in-None-clause-lines
returns-in-None-clause-lines g c =
    let none = rw c.in-None.is at c.in-Ok.ensures.told in
    rw (none, append-nil) c.needs.invariant.written

pub returns-in-Err-clause-err : goal.returns-in-Err-clause-err
returns-in-Err-clause-err g c =
    search_cut c.args.instance.now c.args.asking.now.options c.needs.conflict c.needs.invariant.narrowing
    (g.W.Write.contents c.args.out.now) (g.W.Write.contents c.needs.out) _ c.needs.invariant.written

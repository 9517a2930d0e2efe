use Rattle.std.proofs.Common.{true, false, arith}
use Rattle.std.proofs.lemmas.List.{map-append}
use Rattle.ttp_model.specs.Names.{names_in}
use Rattle.plan_changes.proofs.EitherNames.{gone-more, gone-same, is_none-told}
use Rattle.plan_changes.proofs.names.push_gone.Goals.{then-is_none+in_ok-push, else-is_none}
use Rattle.plan_changes.proofs.names.push_gone.Goals as goal

pub loop-k-preserved : goal.loop-k-preserved
loop-k-preserved c =
    let names = names_in c.args.old.now c.args.part in
    let new = names_in c.args.new.now c.args.part in
    let is = c.index_named.ensures.value in
    let tests = c.is_none.ensures in
    elim c.if-is_none.branch [
      | then-is_none+in_ok-push w ↦
          rw (w.names-is, w.in_ok-push.ensures.items, map-append)
          (gone-more new names c.loop-k.k _ _ _ (omega arith) c.name_in-name.ensures c.loop-k.invariant (is_none-told _ _ _ true is tests w.if-is_none.true))
      | else-is_none w ↦
          rw w.names-is
          (gone-same new names c.loop-k.k _ _ _ (omega arith) c.name_in-name.ensures c.loop-k.invariant (is_none-told _ _ _ false is tests w.if-is_none.false))
    ]

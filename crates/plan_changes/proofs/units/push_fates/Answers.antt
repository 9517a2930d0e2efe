use Rattle.std.proofs.Common.{◌≡◌, ℕ, List, Bor, arith}
use Rattle.std.proofs.lemmas.Grind.{common_steps}
use Rattle.plan_changes.specs.declared.fate.Fate.TheVariants.{Same}
use Rattle.plan_changes.specs.Units.{fate_of}
use Rattle.plan_changes.proofs.Fates.{all_so-kept, all_so-lost}
use Rattle.plan_changes.proofs.units.push_fates.Goals.{then-not-branch, else-not-branch}
use Rattle.plan_changes.proofs.units.push_fates.Goals as goal

pub loop-name-preserved : goal.loop-name-preserved
loop-name-preserved c =
    let is_same : Bor (List ℕ) → Type 0 = λ n. fate_of c.args.old.now c.args.new.now n.now ≡ Same in
    record {
      text = grind (arith, common_steps);
      same = elim c.if-not-branch.branch [
        | then-not-branch w ↦
            rw w.same-is (all_so-lost is_same c.args.names.now c.loop-name.name-index _ (omega arith) _ c.in_ok-push_unit.ensures.same w.if-not-branch.true)
        | else-not-branch w ↦
            rw w.same-is
            (all_so-kept is_same c.args.names.now c.loop-name.name-index _ (omega arith) c.loop-name.same _ c.loop-name.invariant.same
            c.in_ok-push_unit.ensures.same w.if-not-branch.false)
      ];
    }

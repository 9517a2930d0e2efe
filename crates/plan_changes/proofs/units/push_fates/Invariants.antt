use Rattle.std.proofs.Common.{◌≡◌, ◌++◌, ◌↔◌, All, IsTrue, take}
use Rattle.std.specs.List.{flat_map}
use Rattle.plan_changes.specs.declared.fate.Fate.TheVariants.{Same}
use Rattle.plan_changes.specs.Units.{fate_line, fate_of}
use Rattle.plan_changes.proofs.units.push_fates.Given as goal

abbrev pub invariant-loop-name : goal.invariant-loop-name
invariant-loop-name l = record {
  text : l.text.items ≡ l.initial.text.items ++ flat_map (λ n. fate_line (fate_of l.old l.new n.now) n.now) (take l.name-index l.names);
  same : IsTrue l.same ↔ All (λ n. fate_of l.old l.new n.now ≡ Same) (take l.name-index l.names);
}

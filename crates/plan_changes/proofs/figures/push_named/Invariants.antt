use Rattle.std.proofs.Common.{◌≡◌, ◌++◌, take}
use Rattle.std.specs.List.{flat_map}
use Rattle.plan_changes.specs.Figures.{difference_text, figure_for}
use Rattle.plan_changes.proofs.figures.push_named.Given as goal

abbrev pub invariant-loop-name : goal.invariant-loop-name
invariant-loop-name l =
    l.text.items ≡ l.initial.text.items
    ++ flat_map (λ n. difference_text l.column n.now (figure_for l.column l.old n.now) (figure_for l.column l.new n.now)) (take l.name-index l.names)

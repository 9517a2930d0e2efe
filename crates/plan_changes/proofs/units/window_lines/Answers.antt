use Rattle.std.proofs.Common.{◌<◌, length}
use Rattle.std.specs.Prelude.{◌==◌}
use Rattle.std.proofs.lemmas.List.Elements.{All-filter}
use Rattle.guardian_windows.specs.declared.window.Window.{Window}
use Rattle.plan_changes.proofs.units.window_lines.Goals as goal

pub print-requires : goal.print-requires
print-requires c =
    let there = λ (w : Window). w.node < length c.args.planned.now.instance.nodes in
    let each = rw c.instance.ensures.value at c.in_ok-windows.ensures.nodes in
    rw (c.instance-2.ensures.value, c.as_slice-2.ensures.value, c.in_ok-own.ensures, c.as_slice.ensures.value)
    (All-filter (λ (w : Window). w.node == c.args.node) there _ each)

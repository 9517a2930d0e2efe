use Rattle.std.proofs.Common.{◌≡◌, ◌++◌, take, codes}
use Rattle.std.specs.List.{flat_map}
use Rattle.guardian_windows.specs.Text.{window_line}
use Rattle.guardian_windows.proofs.text.print.Given as goal

abbrev pub invariant-loop-window : goal.invariant-loop-window
invariant-loop-window l = l.text.items ≡ codes "ttguard 1\n" ++ flat_map (window_line l.instance) (take l.window-index l.windows)

use Rattle.std.proofs.Common.{◌≡◌, ◌++◌, string_bytes, take}
use Rattle.std.specs.List.{flat_map}
use Rattle.plan_cycles.specs.Text.{fit_line}
use Rattle.plan_cycles.proofs.text.put_fits.Given as goal

abbrev pub invariant-loop-fit : goal.invariant-loop-fit
invariant-loop-fit l = string_bytes l.text ≡ string_bytes l.initial.text ++ flat_map fit_line (take l.fit-index l.fits)

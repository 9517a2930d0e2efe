use Rattle.std.proofs.Common.{take}
use Rattle.std.specs.List.{flat_map}
use Rattle.std.specs.Fmt.{HasWritten, IsPlainFormatter}
use Rattle.ttp_model.specs.Parts.{instance_of}
use Rattle.rates_command.specs.Lines.{spaced_name}
use Rattle.rates_command.proofs.named.SpacedNamesDisplay.fmt.Given as goal

abbrev pub invariant-loop-p : goal.invariant-loop-p
invariant-loop-p g l =
    IsPlainFormatter l.initial.f → HasWritten g.W.Write.write_str_gives l.initial.f (flat_map (spaced_name (instance_of l.self.0.now)) (take l.p-index l.p-items)) l.f

use Rattle.std.proofs.Common.{◌≡◌, map, take}
use Rattle.rates_text.specs.Keys.{text_of}
use Rattle.rates_command.proofs.keys.key_names.Given as goal

abbrev pub invariant-loop-key : goal.invariant-loop-key
invariant-loop-key l = map (λ s. s.now) l.names.items ≡ map text_of (take l.key-index l.keys)

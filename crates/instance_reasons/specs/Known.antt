-- Which names the code looks up.
use Rattle.std.specs.Prelude.{ℕ, List, Bool, is_some}
use Rattle.std.specs.HashMap.{get_by}
use Rattle.std.specs.Str.{bytes_eq}
use Rattle.instance_reasons.specs.declared.known.Known.{Known}

-- the name is one of them
abbrev pub has : Known → List ℕ → Bool
has known text = is_some (get_by (λ k. bytes_eq text k.now) known.places)

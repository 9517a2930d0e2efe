-- Which searches are plain.
use Rattle.std.specs.Prelude.{ℕ, nat_le, cond}
use Rattle.ttp_model.specs.Instance.{Instance}
use Rattle.tt_choice.specs.Branches.{root_choice}
use Rattle.tt_choice.specs.Sizes.{size_left}
use Rattle.used_decisions.specs.declared.manner.Manner.{Manner}
use Rattle.used_decisions.specs.declared.manner.Manner.TheVariants.{Plain, Sparing}

-- how much the root leaves to choose, at most, where a search is plain
abbrev pub little : ℕ
little = 32

-- in which manner an instance is searched
abbrev pub usual_manner : Instance → Manner
usual_manner i = cond (nat_le (size_left i (root_choice i)) little) Plain Sparing

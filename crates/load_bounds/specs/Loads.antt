-- What the answers say: a closer of loads that the table of steps has, or that it has none. Own profile.
use Rattle.std.specs.Prelude.{◌≡◌, ℕ, Option, Some, None, ◌⊎◌}
use Rattle.ttp_model.specs.declared.step.Step.{Step}
use Rattle.ttp_model.specs.declared.step.Step.TheVariants.{XLoad, XFrames, XChannel}
use Rattle.tt_infer.specs.Known.{Known}
use Rattle.tt_infer.specs.Table.{IsLawful}
use Rattle.tt_infer.specs.Facts.{Facts}

-- the table has the step, from what is known
pub record IsLawfulNow (s : Facts) (step : Step) : Type 0 where
  pub after : Known
  pub lawful : IsLawful s.instance s.choice s.goal s.known step after

-- a lawful closer of the node's processes in some interval; or there is none in any
abbrev pub IsNodeLoad : Facts → ℕ → Option Step → Type 0
IsNodeLoad s n (Some step) = (a : ℕ) × ((b : ℕ) × ((step ≡ XLoad n a b) × IsLawfulNow s step))
IsNodeLoad s n None = (a b : ℕ) → ¬ IsLawfulNow s (XLoad n a b)

-- a lawful closer of the node's frames on all channels in some interval; or there is none in any
abbrev pub IsWholeLoad : Facts → ℕ → Option Step → Type 0
IsWholeLoad s n (Some step) = (a : ℕ) × ((b : ℕ) × ((step ≡ XFrames n a b) × IsLawfulNow s step))
IsWholeLoad s n None = (a b : ℕ) → ¬ IsLawfulNow s (XFrames n a b)

-- so of its frames on one channel
abbrev pub IsLoadOn : Facts → ℕ → ℕ → Option Step → Type 0
IsLoadOn s k n (Some step) = (a : ℕ) × ((b : ℕ) × ((step ≡ XChannel k n a b) × IsLawfulNow s step))
IsLoadOn s k n None = (a b : ℕ) → ¬ IsLawfulNow s (XChannel k n a b)

-- so on any channel
abbrev pub IsChannelLoad : Facts → ℕ → Option Step → Type 0
IsChannelLoad s n (Some step) = (k : ℕ) × IsLoadOn s k n (Some step)
IsChannelLoad s n None = (k : ℕ) → IsLoadOn s k n None

-- a lawful closer of the node's frames, on one channel or on all; or there is none of either
abbrev pub IsFrameLoad : Facts → ℕ → Option Step → Type 0
IsFrameLoad s n (Some step) = IsChannelLoad s n (Some step) ⊎ IsWholeLoad s n (Some step)
IsFrameLoad s n None = IsChannelLoad s n None × IsWholeLoad s n None

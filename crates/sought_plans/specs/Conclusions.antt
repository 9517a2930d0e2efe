-- What a step concludes, what that says of a plan, and what is known after it: each conclusion only sharpens.
use Rattle.std.specs.Prelude.{ℕ, ◌+◌, ◌<◌, ◌≤◌, slice_set, min, max, true, length}
use Rattle.ttp_model.specs.declared.plan.Plan.{Plan}
use Rattle.ttp_model.specs.Instance.{Instance}
use Rattle.ttp_model.specs.Plans.{EndsBefore, start_of, end_of, round_of}
use Rattle.tt_choice.specs.Precedence.{put_before}
use Rattle.sought_plans.specs.Known.{Known, es_of, le_of, lo_of, top_of}

-- a process starts at a time or later, or ends at a time or earlier; a message is sent in a round or
-- later, or in an earlier one; a process ends before another starts; or no plan is left
pub data Conclusion : Type 0 where
  StartsFrom : ℕ → ℕ → Conclusion
  EndsUntil : ℕ → ℕ → Conclusion
  SentFrom : ℕ → ℕ → Conclusion
  SentBefore : ℕ → ℕ → Conclusion
  GoesFirst : ℕ → ℕ → Conclusion
  NothingLeft : Conclusion

-- a conclusion is true of a plan
abbrev pub IsTrueOf : Instance → Plan → Conclusion → Type 0
IsTrueOf i plan (StartsFrom p time) = time ≤ start_of plan p
IsTrueOf i plan (EndsUntil p time) = end_of i plan p ≤ time
IsTrueOf i plan (SentFrom m r) = r ≤ round_of plan m
IsTrueOf i plan (SentBefore m r) = round_of plan m < r
IsTrueOf i plan (GoesFirst p q) = EndsBefore i plan p q
IsTrueOf i plan NothingLeft = ⊥

-- what a conclusion speaks of is there
abbrev pub IsAbout : Instance → Conclusion → Type 0
IsAbout i (StartsFrom p time) = p < length i.processes
IsAbout i (EndsUntil p time) = p < length i.processes
IsAbout i (SentFrom m r) = m < length i.messages
IsAbout i (SentBefore m r) = m < length i.messages
IsAbout i (GoesFirst p q) = (p < length i.processes) × (q < length i.processes)
IsAbout i NothingLeft = Unit {0}

-- least times and rounds past the horizon are known as the first one past it
abbrev pub capped : Instance → ℕ → ℕ
capped i value = min value (i.cluster.horizon + 1)

-- what is known after a conclusion
abbrev pub sharpened : Instance → Known → Conclusion → Known
sharpened i f (StartsFrom p time) = record f { es = slice_set f.es p (max (es_of f p) (capped i time)) }
sharpened i f (EndsUntil p time) = record f { le = slice_set f.le p (min (le_of f p) time) }
sharpened i f (SentFrom m r) = record f { lo = slice_set f.lo m (max (lo_of f m) (capped i r)) }
sharpened i f (SentBefore m r) = record f { top = slice_set f.top m (min (top_of f m) r) }
sharpened i f (GoesFirst p q) = record f { bef = put_before f.bef p q }
sharpened i f NothingLeft = record f { closed = true }

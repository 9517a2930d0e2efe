-- What a complete choice fixes of each of its plans: everything but the starts. Times are ticks.
use Rattle.std.specs.Prelude.{ℕ, ◌+◌, List, [], map, unwrap_or, Option, slice_index, IsTrue, ◌⊎◌}
use Rattle.ttp_model.specs.declared.plan.Plan.{Plan}
use Rattle.ttp_model.specs.Instance.{Instance, process_at, message_at, source_of}
use Rattle.ttp_model.specs.Slots.{slot_start, slot_end}
use Rattle.ttp_model.specs.Graph.{HasLink}
use Rattle.ttp_model.specs.Plans.{bytes_on}
use Rattle.tt_choice.specs.Choice.{Choice, is_before, least_round}

-- the capacity of each node in bytes
abbrev pub fixed_caps : Choice → List ℕ
fixed_caps c = map (λ (fixed : Option ℕ). unwrap_or fixed 0) c.fixed

-- the channel of each message, 2 for both
abbrev pub fixed_channels : Choice → List ℕ
fixed_channels c = map (λ (fixed : Option ℕ). unwrap_or fixed 0) c.channels

-- the plan of the choice with these starts
abbrev pub plan_of : Choice → List ℕ → Plan
plan_of c starts = record { order = c.prefix; caps = fixed_caps c; starts = starts; rounds = c.lo; channels = fixed_channels c }

-- when the slot that message m is sent in begins
abbrev pub sends_from : Instance → Choice → ℕ → ℕ
sends_from i c m = slot_start i.cluster c.prefix (fixed_caps c) (source_of i m) (least_round c m)

-- when it ends
abbrev pub sends_until : Instance → Choice → ℕ → ℕ
sends_until i c m = slot_end i.cluster c.prefix (fixed_caps c) (source_of i m) (least_round c m)

-- when message m is copied out, where processes start at these times
abbrev pub copied_out : Instance → List ℕ → ℕ → ℕ
copied_out i starts m =
    slice_index starts (message_at i m).sender
    + (process_at i (message_at i m).sender).wcet
    + i.cluster.copy_out

-- p goes before q on their node: it was chosen so, or a link leads from p to q
abbrev pub GoesAhead : Instance → Choice → ℕ → ℕ → Type 0
GoesAhead i c p q = IsTrue (is_before c p q) ⊎ HasLink i p q

-- the bytes that message m puts into the frame of node n in round r on channel k, whatever the starts
abbrev pub fixed_bytes : Instance → Choice → ℕ → ℕ → ℕ → ℕ → ℕ
fixed_bytes i c n r k m = bytes_on i (plan_of c []) n r k m

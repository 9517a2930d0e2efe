-- Whether a node has the members that the sender of a slot shows.
use Rattle.std.specs.Prelude.{ℕ, List, Bool}
use Rattle.medl_tables.specs.Medl.{Medl}
use Rattle.membership_replay.specs.declared.loss.Loss.{Loss}
use Rattle.membership_replay.specs.Machine.{is_same}
use Rattle.membership_replay.specs.Trace.{next_state, row_at, state_at, states_before}

-- the members that node i has after its step in the slot are those that its sender had before
abbrev pub agrees : Medl → List Loss → ℕ → ℕ → Bool
agrees t losses slot i =
    let row = row_at t 0 slot in
    let states = states_before t losses slot in
    is_same (state_at states row.sender).vector (next_state row losses states i).vector

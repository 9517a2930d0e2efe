-- The slots of a cycle, as the first node's table tells them, and what all know after one more.
use Rattle.std.proofs.Common.{◌≡◌, ℕ, ◌+◌, ◌<◌, List, [], length, slice_index_or, arith, refl, add-one}
use Rattle.std.proofs.lemmas.List.{get_or_read}
use Rattle.std.proofs.lemmas.List.FromFn.{length-map-range_with_len}
use Rattle.ttp_model.specs.Lists.{EachBelow}
use Rattle.ttp_model.specs.Instance.{Instance}
use Rattle.medl_tables.specs.declared.row.Row.{Row}
use Rattle.medl_tables.specs.Medl.{AreTables, Medl}
use Rattle.medl_tables.proofs.TableParts.{tables-length, tables_name_parts}
use Rattle.membership_replay.specs.declared.loss.Loss.{Loss}
use Rattle.membership_replay.specs.declared.state.NodeState.{NodeState}
use Rattle.membership_replay.specs.Trace.{first_states, next_state, next_states, no_row, row_at, slot_count, states_before}

-- a row that is read there is the slot's
pub row_at-read : (t : Medl) (rows : List Row) (slot : ℕ) (row : Row) → rows ≡ slice_index_or t.rows 0 [] → slot < length rows → row ≡ slice_index_or rows slot row → row ≡ row_at t 0 slot
row_at-read t rows slot row is inside read = rw (← is) (get_or_read rows slot row inside read no_row)

-- and its sender is one of the nodes
pub sender_inside : (i : Instance) (t : Medl) (rows : List Row) (slot : ℕ) (row : Row) (count : ℕ) → AreTables i t → 0 < length i.nodes → rows ≡ slice_index_or t.rows 0 [] → slot < length rows → row ≡ slice_index_or rows slot row → count ≡ length t.rows → row.sender < count
sender_inside i t rows slot row count w some is inside read all =
    let there : slot < length (slice_index_or t.rows 0 []) = rw (← is) inside in
    let sender : (row_at t 0 slot).sender < length i.nodes = (tables_name_parts i t 0 w some slot no_row there).sender in
    rw (all, tables-length i t w, row_at-read t rows slot row is inside read) sender

-- so it is of each slot
pub senders_inside : (i : Instance) (t : Medl) → AreTables i t → 0 < length i.nodes → EachBelow (slot_count t) (λ k. (row_at t 0 k).sender < length t.rows)
senders_inside i t w some k inside =
    omega (arith, (tables_name_parts i t 0 w some k no_row inside).sender, tables-length i t w)

pub states_before-first : (t : Medl) (losses : List Loss) (count : ℕ) (states : List NodeState) → states ≡ first_states count → count ≡ length t.rows → states ≡ states_before t losses 0
unfolding states_before
states_before-first t losses count states is all = rw (is, all) refl

pub states_before-more : (t : Medl) (losses : List Loss) (slot : ℕ) (row : Row) (before after : List NodeState) → row ≡ row_at t 0 slot → before ≡ states_before t losses slot → after ≡ next_states row losses before → after ≡ states_before t losses (slot + 1)
unfolding states_before
states_before-more t losses slot row before after told known is = rw (add-one, is, told, known) refl

pub length-next_states : (row : Row) (losses : List Loss) (states : List NodeState) → length (next_states row losses states) ≡ length states
length-next_states row losses states = length-map-range_with_len (next_state row losses states) 0 (length states)

-- What a clause says of an incumbent and of its watches: what each has seen, and what it has offered.
use Rattle.std.specs.Prelude.{◌≡◌, ℕ, ◌≤◌, List, true, false, All, Contains}
use Rattle.incumbent.specs.declared.word.Incumbent.{Incumbent}
use Rattle.incumbent.specs.declared.word.Watch.{Watch}

-- what the incumbent began with
abbrev pub first_value : Incumbent → ℕ
first_value i = i.table.shared.key

-- all answers that the watch got, and those that it was handed
abbrev pub seen : Watch → List ℕ
seen w = w.seat.me.0.seen

-- all values that the watch offered
abbrev pub offers : Watch → List ℕ
offers w = w.seat.me.0.offers

-- how many watches were split from this one and not yet joined; none but of the opening watch
abbrev pub out_count : Watch → ℕ
out_count w = w.seat.me.0.out

-- the watch is one of this incumbent
abbrev pub IsWatchOf : Incumbent → Watch → Type 0
IsWatchOf i w = w.seat.table_id ≡ i.table.shared.table_id

-- and not the one that the incumbent began with
abbrev pub IsOther : Incumbent → Watch → Type 0
IsOther i w = IsWatchOf i w × (w.seat.me.0.opening ≡ false)

-- and the one that the incumbent began with
abbrev pub IsOpening : Incumbent → Watch → Type 0
IsOpening i w = IsWatchOf i w × (w.seat.me.0.opening ≡ true)

-- a watch of the same incumbent, the opening one where the other is, with as many out
pub record IsSameWatch (old new : Watch) : Type 0 where
  pub table : new.seat.table_id ≡ old.seat.table_id
  pub place : new.seat.id ≡ old.seat.id
  pub opening : new.seat.me.0.opening ≡ old.seat.me.0.opening
  pub out : out_count new ≡ out_count old

-- n stands in the list, and nothing in it is less
abbrev pub IsLeast : List ℕ → ℕ → Type 0
IsLeast xs n = Contains xs n × All (λ x. n ≤ x) xs

-- n is at most each value that the watch has seen or offered
abbrev pub IsBelowView : Watch → ℕ → Type 0
IsBelowView w n = All (λ x. n ≤ x) (seen w) × All (λ x. n ≤ x) (offers w)

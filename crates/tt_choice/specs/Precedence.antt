-- Which processes go before which, as a square table of tests.
use Rattle.std.specs.Prelude.{ℕ, ◌+◌, ◌*◌, List, slice_index_or, slice_set, replicate, Bool, true, false, ◌&&◌, nat_lt}

-- a row of tests for each process, one row after another: in row p the test at q says whether p
-- goes before q
pub record Precedence : Type 0 where
  pub processes : ℕ
  pub tests : List Bool

-- where the test for p before q stands
abbrev pub place_in : Precedence → ℕ → ℕ → ℕ
place_in b p q = p * b.processes + q

-- p goes before q; never where one of them isn't there
abbrev pub goes_before : Precedence → ℕ → ℕ → Bool
goes_before b p q =
    (nat_lt p b.processes && nat_lt q b.processes) && slice_index_or b.tests (place_in b p q) false

-- no process goes before another
abbrev pub nothing_before : ℕ → Precedence
nothing_before count = record { processes = count; tests = replicate (count * count) false }

-- the same, and p goes before q
abbrev pub put_before : Precedence → ℕ → ℕ → Precedence
put_before b p q = record b { tests = slice_set b.tests (place_in b p q) true }

-- the same, and the test of p before q fails
abbrev pub take_back : Precedence → ℕ → ℕ → Precedence
take_back b p q = record b { tests = slice_set b.tests (place_in b p q) false }

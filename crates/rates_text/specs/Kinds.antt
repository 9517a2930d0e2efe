-- What one value of each kind states, or the first fault in it.
use Rattle.std.specs.Prelude.{ℕ, ◌^◌, ◌+◌, ◌-◌, min, option_map, ℤ, pos, negsuc, List, [], ◌∷◌, Option, None, Some, Bool, Result, Ok, Err, nat_lt, if◌then◌else◌, position}
use Rattle.std.specs.Str.{bytes_eq}
use Rattle.toml.specs.Data.{Data, string, integer, boolean, array, table, Items, no_items, item, Members}
use Rattle.rates_text.specs.declared.error.RatesKey.{RatesKey}
use Rattle.rates_text.specs.declared.error.RatesTable.{RatesTable}
use Rattle.rates_text.specs.declared.error.RatesTextError.{RatesTextError}
use Rattle.rates_text.specs.declared.error.RatesTextError.TheVariants.{WrongKind, OutOfRange, UnknownName}
use Rattle.rates_text.specs.Rows.{Kind, one_table, tables, number, number_or_none, truth, text, node, process, processes, Value}

-- what a part of a text states, or its first fault
abbrev pub Stated : Type 0 → Type 0
Stated A = Result A RatesTextError

-- the first fault of one part, or what the next part states
infixl 10 ◌>>=◌
abbrev pub ◌>>=◌ : {A B : Type 0} → Stated A → (A → Stated B) → Stated B
Ok x >>= next = next x
Err e >>= next = Err e

-- What the items of a list state, each read at its index from `start` on, or the first fault.
abbrev pub each : {A B : Type 0} → (ℕ → A → Stated B) → ℕ → List A → Stated (List B)
each read start [] = Ok []
each read start (x ∷ xs) = read start x >>= (λ y. each read (start + 1) xs >>= (λ ys. Ok (y ∷ ys)))

-- an array's items as a list
abbrev pub list_of : Items → List Data
list_of no_items = []
list_of (item d ds) = d ∷ list_of ds

-- Which index each name states. Not all names state one.
abbrev pub Index : Type 0
Index = List ℕ → Option ℕ

-- an index in 32 bits: from 4,294,967,295 on, more than any list may have, it is that number
abbrev pub cut_index : ℕ → ℕ
cut_index index = min index (2 ^ 32 - 1)

-- a name states the index of the first of that name
abbrev pub index_in : List (List ℕ) → Index
index_in names name = option_map cut_index (position (bytes_eq name) names)

-- what the names of nodes and those of processes state
pub record KnownNames : Type 0 where
  pub nodes : Index
  pub processes : Index

module _ (place : RatesTable) (key : RatesKey) where
  -- a table
  abbrev pub table_of : Data → Stated Members
  table_of (table ms) = Ok ms
  table_of _ = Err (WrongKind place key)

  -- a whole number that fits u32
  abbrev pub fitting : ℤ → Stated ℕ
  fitting (pos n) = if nat_lt n (2 ^ 32) then Ok n else Err (OutOfRange place key)
  fitting (negsuc n) = Err (OutOfRange place key)

  -- a whole number from 0 to 4,294,967,295
  abbrev pub number_of : Data → Stated ℕ
  number_of (integer z) = fitting z
  number_of _ = Err (WrongKind place key)

  -- true or false
  abbrev pub truth_of : Data → Stated Bool
  truth_of (boolean b) = Ok b
  truth_of _ = Err (WrongKind place key)

  -- the bytes of a text
  abbrev pub bytes_of : Data → Stated (List ℕ)
  bytes_of (string s) = Ok s
  bytes_of _ = Err (WrongKind place key)

  -- the index that was found
  abbrev pub found_index : Option ℕ → Stated ℕ
  found_index None = Err (UnknownName place key)
  found_index (Some index) = Ok index

  -- the index that a name states
  abbrev pub index_of : Index → Data → Stated ℕ
  index_of index (string s) = found_index (index s)
  index_of index _ = Err (WrongKind place key)

  -- an array, each item of which is read so
  abbrev pub array_of : {A : Type 0} → (Data → Stated A) → Data → Stated (List A)
  array_of read (array ds) = each (λ _ d. read d) 0 (list_of ds)
  array_of read _ = Err (WrongKind place key)

  -- an array of tables
  abbrev pub tables_in : Data → Stated (List Members)
  tables_in = array_of table_of

  -- a whole number that may be missing, and is there
  abbrev pub some_number_of : Data → Stated (Option ℕ)
  some_number_of d = number_of d >>= (λ n. Ok (Some n))

  -- an array of names, each of which states its index
  abbrev pub indices_of : Index → Data → Stated (List ℕ)
  indices_of index = array_of (index_of index)

  -- a value of each kind
  abbrev pub value_of : KnownNames → (kind : Kind) → Data → Stated (Value kind)
  value_of known one_table d = table_of d
  value_of known tables d = tables_in d
  value_of known number d = number_of d
  value_of known number_or_none d = some_number_of d
  value_of known truth d = truth_of d
  value_of known text d = bytes_of d
  value_of known node d = index_of known.nodes d
  value_of known process d = index_of known.processes d
  value_of known processes d = indices_of known.processes d

-- Which keys each table of a text of several rates has, of which kind, and what a missing one means:
-- this project's own profile of TOML.
use Rattle.std.specs.Prelude.{ℕ, Bool, false, List, [], ◌∷◌, Option, None, Some}
use Rattle.toml.specs.Data.{Members}
use Rattle.instance_text.specs.declared.error.Place.TheVariants.{Top, Cluster, Node, Process, Link, Message}
use Rattle.rates_text.specs.declared.error.RatesKey.{RatesKey}
use Rattle.rates_text.specs.declared.error.RatesKey.TheVariants as key
use Rattle.rates_text.specs.declared.error.RatesTable.{RatesTable}
use Rattle.rates_text.specs.declared.error.RatesTable.TheVariants.{Of, Chain}

-- The kinds of values: a table, an array of tables, a whole number, one that may be missing,
-- true or false, a text, the name of a node, the name of a process, an array of names of processes.
pub data Kind : Type 0 where
  one_table : Kind
  tables : Kind
  number : Kind
  number_or_none : Kind
  truth : Kind
  text : Kind
  node : Kind
  process : Kind
  processes : Kind

-- What a value of the kind states: a name states the index of what it names.
abbrev pub Value : Kind → Type 0
Value one_table = Members
Value tables = List Members
Value number = ℕ
Value number_or_none = Option ℕ
Value truth = Bool
Value text = List ℕ
Value node = ℕ
Value process = ℕ
Value processes = List ℕ

-- A key with the kind of its value and, where it may be missing, what then stands in its place.
pub record KeyRow : Type 0 where
  pub key : RatesKey
  pub kind : Kind
  pub default : Option (Value kind)

-- a key that has to be there
abbrev pub needed : RatesKey → Kind → KeyRow
needed k kind = record { key = k; kind = kind; default = None }

-- a key that may be missing
abbrev pub optional : RatesKey → (kind : Kind) → Value kind → KeyRow
optional k kind value = record { key = k; kind = kind; default = Some value }

-- The keys of each table, in the order of checks. Times are in ticks.
abbrev pub rows : RatesTable → List KeyRow
rows (Of Top) =
    needed key.Cluster one_table ∷ needed key.Node tables ∷ needed key.Process tables
    ∷ optional key.Link tables [] ∷ optional key.Message tables [] ∷ optional key.Chain tables [] ∷ []
rows (Of Cluster) =
    needed key.Precision number ∷ needed key.Lead number ∷ needed key.Trail number
    ∷ needed key.Head number ∷ needed key.PerByte number ∷ needed key.CopyOut number
    ∷ needed key.CopyIn number ∷ optional key.Channels number 1 ∷ optional key.Store number 1
    ∷ optional key.Round number_or_none None ∷ []
rows (Of (Node n)) = needed key.Name text ∷ needed key.Capacity number ∷ []
rows (Of (Process p)) =
    needed key.Name text ∷ needed key.Node node ∷ needed key.Wcet number ∷ needed key.Period number
    ∷ optional key.Release number 0 ∷ optional key.Deadline number_or_none None ∷ []
rows (Of (Link l)) = needed key.From process ∷ needed key.To process ∷ optional key.Delay number 0 ∷ []
rows (Of (Message m)) =
    needed key.Name text ∷ needed key.From process ∷ needed key.To processes
    ∷ needed key.Bytes number ∷ optional key.Both truth false ∷ optional key.Delay number 0 ∷ []
rows (Chain c) = needed key.Name text ∷ needed key.Through processes ∷ needed key.Age number ∷ []

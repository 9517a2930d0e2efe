-- What a table with the keys of its rows states, or its first fault.
use Rattle.std.specs.Prelude.{ℕ, Bool, true, ◌&&◌, List, [], ◌∷◌, map, Option, None, Some, Ok, Err, if◌then◌else◌}
use Rattle.std.specs.List.{list_any}
use Rattle.std.specs.Str.{bytes_eq}
use Rattle.toml.specs.Data.{Data, Members, no_members, member, get_member}
use Rattle.rates_text.specs.declared.error.RatesKey.{RatesKey}
use Rattle.rates_text.specs.declared.error.RatesTable.{RatesTable}
use Rattle.rates_text.specs.declared.error.RatesTextError.TheVariants.{UnknownKey, MissingKey}
use Rattle.rates_text.specs.Keys.{text_of}
use Rattle.rates_text.specs.Rows.{KeyRow, Value, rows}
use Rattle.rates_text.specs.Kinds.{Stated, ◌>>=◌, KnownNames, value_of}

-- the keys that such a table may have
abbrev pub keys_at : RatesTable → List RatesKey
keys_at place = map (λ r. r.key) (rows place)

-- one of the keys is spelled so
abbrev pub has_key : List RatesKey → List ℕ → Bool
has_key keys text = list_any (λ k. bytes_eq (text_of k) text) keys

-- each key of the table is one of these
abbrev pub has_only : List RatesKey → Members → Bool
has_only keys no_members = true
has_only keys (member text d ms) = has_key keys text && has_only keys ms

-- a key whose value is read so, with what stands for a missing one, if it may be missing
module _ (place : RatesTable) (key : RatesKey) {A : Type 0} (read : Data → Stated A) (default : Option A)
  where
    -- what stands for a value that is missing
    abbrev pub missing : Option A → Stated A
    missing (Some value) = Ok value
    missing None = Err (MissingKey place key)

    -- the value that was found is read so
    abbrev pub found : Option Data → Stated A
    found (Some d) = read d
    found None = missing default

    -- what the key states in this table
    abbrev pub field_of : Members → Stated A
    field_of ms = found (get_member (text_of key) ms)

-- what the key of a row states
abbrev pub at_row : RatesTable → KnownNames → Members → (r : KeyRow) → Stated (Value r.kind)
at_row place known ms r = field_of place r.key (value_of place r.key known r.kind) r.default ms

-- a function of what the rows state, in their order
abbrev pub Making : Type 0 → List KeyRow → Type 0
Making A [] = A
Making A (r ∷ rs) = Value r.kind → Making A rs

module _ {A : Type 0} (place : RatesTable) (known : KnownNames) where
  -- what `make` makes of what the rows state, one after another, or the first fault
  abbrev pub in_turn : Members → (rs : List KeyRow) → Making A rs → Stated A
  in_turn ms [] make = Ok make
  in_turn ms (r ∷ rs) make = at_row place known ms r >>= (λ value. in_turn ms rs (make value))

  -- the same of a whole table: an unknown key is its first fault
  abbrev pub table_at : Making A (rows place) → Members → Stated A
  table_at make ms =
      if has_only (keys_at place) ms then in_turn ms (rows place) make else Err (UnknownKey place)

-- What is at fault in the tables of a text of several rates, and where. Own profile.
use Rattle.std.specs.Prelude.{◌≡◌, ℕ, List, map, Option, option_map}
use Rattle.toml.specs.Data.{Members}
use Rattle.instance_text.specs.declared.error.Key.{Key}
use Rattle.instance_text.specs.declared.error.Key.TheVariants as list
use Rattle.instance_text.specs.Keys as text
use Rattle.instance_reasons.specs.declared.texts.MissingKey.{MissingKey as MissingReason}
use Rattle.instance_reasons.specs.declared.texts.OddKey.{OddKey}
use Rattle.instance_reasons.specs.declared.texts.OddName.{OddName}
use Rattle.instance_reasons.specs.declared.texts.TextReason.{TextReason}
use Rattle.instance_reasons.specs.declared.texts.TextReason.TheVariants as reason
use Rattle.instance_reasons.specs.declared.texts.UnfitNumber.{UnfitNumber}
use Rattle.instance_reasons.specs.declared.texts.WrongKind.{WrongKind as KindReason}
use Rattle.instance_reasons.specs.Near.{nearest}
use Rattle.instance_reasons.specs.NearNames.{AreNear}
use Rattle.instance_reasons.specs.Tables.{and_then, names_under}
use Rattle.instance_reasons.specs.Unknown as names
use Rattle.instance_reasons.specs.Unknown.{first_unknown, is_known, unknown_name}
use Rattle.instance_reasons.specs.Values.{found_of, unfit_of}
use Rattle.rates_text.specs.declared.error.RatesKey.{RatesKey}
use Rattle.rates_text.specs.declared.error.RatesTable.{RatesTable}
use Rattle.rates_text.specs.declared.error.RatesTable.TheVariants.{Of, Chain}
use Rattle.rates_text.specs.declared.error.RatesTextError.{RatesTextError}
use Rattle.rates_text.specs.declared.error.RatesTextError.TheVariants.{MissingKey, NotToml, OutOfMemory, OutOfRange, Refused}
use Rattle.rates_text.specs.declared.error.RatesTextError.TheVariants.{UnknownKey, UnknownName, WrongKind}
use Rattle.rates_text.specs.Keys.{text_of}
use Rattle.rates_text.specs.Tables.{has_key, keys_at}
use Rattle.rates_command.specs.Spots.{IsRatesTextSpot}
use Rattle.rates_command.specs.Tables.{table_at, value_at}
use Rattle.rates_command.specs.Wanted.{wanted}

-- the first key of the table at a place that can't stand there
abbrev pub unknown_key : RatesTable → Members → Option (List ℕ)
unknown_key place ms = and_then (table_at place ms) (first_unknown (has_key (keys_at place)))

-- the list whose entries are named at a place: a process names its node, and all else processes
abbrev pub list_named_at : RatesTable → Key
list_named_at (Of place) = names.list_named_at place
list_named_at (Chain c) = list.Process

-- the names that may be named at a place
abbrev pub names_at : RatesTable → Members → List (List ℕ)
names_at place ms = names_under (list_named_at place) ms

-- what a key names that none of them is
abbrev pub name_of_none : RatesTable → RatesKey → Members → Option (List ℕ)
name_of_none place key ms = and_then (value_at place key ms) (unknown_name (is_known (names_at place ms)))

-- the first key that can't stand at a place, and the key that is nearest to it of those that can
pub record IsOddKey (ms : Members) (place : RatesTable) (r : OddKey) : Type 0 where
  pub spot_is : IsRatesTextSpot ms place r.spot
  pub key_is : option_map (λ s. s.now) r.key ≡ unknown_key place ms
  pub near_is : option_map (λ s. s.now) r.near ≡ and_then (unknown_key place ms) (λ word. nearest word (map text_of (keys_at place)))

-- one that has to be there
pub record IsMissingKey (ms : Members) (place : RatesTable) (key : RatesKey) (r : MissingReason) : Type 0 where
  pub spot_is : IsRatesTextSpot ms place r.spot
  pub key_is : r.key.now ≡ text_of key

-- what stands at a key, and what has to
pub record IsWrongKind (ms : Members) (place : RatesTable) (key : RatesKey) (r : KindReason) : Type 0 where
  pub spot_is : IsRatesTextSpot ms place r.spot
  pub key_is : r.key.now ≡ text_of key
  pub found_is : r.found ≡ option_map (found_of r.wanted) (value_at place key ms)
  pub wanted_is : r.wanted ≡ wanted place key

-- a number that doesn't fit
pub record IsUnfitNumber (ms : Members) (place : RatesTable) (key : RatesKey) (r : UnfitNumber) : Type 0 where
  pub spot_is : IsRatesTextSpot ms place r.spot
  pub key_is : r.key.now ≡ text_of key
  pub number_is : r.number ≡ and_then (value_at place key ms) unfit_of

-- what isn't named in a list, and which of it is nearest
pub record IsOddName (ms : Members) (place : RatesTable) (key : RatesKey) (r : OddName) : Type 0 where
  pub spot_is : IsRatesTextSpot ms place r.spot
  pub key_is : r.key.now ≡ text_of key
  pub name_is : option_map (λ s. s.now) r.name ≡ name_of_none place key ms
  pub list_is : r.list.now ≡ text.text_of (list_named_at place)
  pub near_is : AreNear (and_then (name_of_none place key ms) (λ word. nearest word (names_at place ms))) r.near

-- the fault is one of a table
abbrev pub IsOfTable : RatesTextError → Type 0
IsOfTable NotToml = ⊥
IsOfTable (Refused e) = ⊥
IsOfTable OutOfMemory = ⊥
IsOfTable _ = Unit {0}

-- what is told of it is the reason of just that fault, at its place
abbrev pub IsRatesTextReason : Members → RatesTextError → TextReason → Type 0
IsRatesTextReason ms (UnknownKey place) (reason.OddKey r) = IsOddKey ms place r
IsRatesTextReason ms (MissingKey place key) (reason.MissingKey r) = IsMissingKey ms place key r
IsRatesTextReason ms (WrongKind place key) (reason.WrongKind r) = IsWrongKind ms place key r
IsRatesTextReason ms (OutOfRange place key) (reason.UnfitNumber r) = IsUnfitNumber ms place key r
IsRatesTextReason ms (UnknownName place key) (reason.OddName r) = IsOddName ms place key r
IsRatesTextReason ms _ _ = ⊥

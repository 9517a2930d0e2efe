-- What is at fault in the tables of a text, and where. Own profile.
use Rattle.std.specs.Prelude.{◌≡◌, ℕ, List, map, Option, option_map}
use Rattle.toml.specs.Data.{Members}
use Rattle.instance_text.specs.declared.error.Key.{Key}
use Rattle.instance_text.specs.declared.error.Place.{Place}
use Rattle.instance_text.specs.declared.error.TextError.{TextError}
use Rattle.instance_text.specs.declared.error.TextError.TheVariants.{Model, MissingKey, NotToml, OutOfMemory, OutOfRange, UnknownKey, UnknownName, WrongKind}
use Rattle.instance_text.specs.Keys.{text_of}
use Rattle.instance_text.specs.Tables.{keys_at}
use Rattle.instance_reasons.specs.declared.texts.MissingKey.{MissingKey as MissingReason}
use Rattle.instance_reasons.specs.declared.texts.OddKey.{OddKey}
use Rattle.instance_reasons.specs.declared.texts.OddName.{OddName}
use Rattle.instance_reasons.specs.declared.texts.TextReason.{TextReason}
use Rattle.instance_reasons.specs.declared.texts.TextReason.TheVariants as reason
use Rattle.instance_reasons.specs.declared.texts.UnfitNumber.{UnfitNumber}
use Rattle.instance_reasons.specs.declared.texts.WrongKind.{WrongKind as KindReason}
use Rattle.instance_reasons.specs.Near.{nearest}
use Rattle.instance_reasons.specs.NearNames.{AreNear}
use Rattle.instance_reasons.specs.Spots.{IsTextSpot}
use Rattle.instance_reasons.specs.Tables.{and_then, names_under, value_at}
use Rattle.instance_reasons.specs.Unknown.{is_known, list_named_at, unknown_key, unknown_name}
use Rattle.instance_reasons.specs.Values.{found_of, unfit_of, wanted}

-- the first key that can't stand at a place, and the key that is nearest to it of those that can
pub record IsOddKey (ms : Members) (place : Place) (r : OddKey) : Type 0 where
  pub spot_is : IsTextSpot ms place r.spot
  pub key_is : option_map (λ s. s.now) r.key ≡ unknown_key place ms
  pub near_is : option_map (λ s. s.now) r.near ≡ and_then (unknown_key place ms) (λ word. nearest word (map text_of (keys_at place)))

-- one that has to be there
pub record IsMissingKey (ms : Members) (place : Place) (key : Key) (r : MissingReason) : Type 0 where
  pub spot_is : IsTextSpot ms place r.spot
  pub key_is : r.key.now ≡ text_of key

-- what stands at a key, and what has to
pub record IsWrongKind (ms : Members) (place : Place) (key : Key) (r : KindReason) : Type 0 where
  pub spot_is : IsTextSpot ms place r.spot
  pub key_is : r.key.now ≡ text_of key
  pub found_is : r.found ≡ option_map (found_of r.wanted) (value_at place key ms)
  pub wanted_is : r.wanted ≡ wanted place key

-- a number that doesn't fit
pub record IsUnfitNumber (ms : Members) (place : Place) (key : Key) (r : UnfitNumber) : Type 0 where
  pub spot_is : IsTextSpot ms place r.spot
  pub key_is : r.key.now ≡ text_of key
  pub number_is : r.number ≡ and_then (value_at place key ms) unfit_of

-- the names that may be named at a place
abbrev pub names_at : Place → Members → List (List ℕ)
names_at place ms = names_under (list_named_at place) ms

-- what a key names that none of them is
abbrev pub name_of_none : Place → Key → Members → Option (List ℕ)
name_of_none place key ms = and_then (value_at place key ms) (unknown_name (is_known (names_at place ms)))

-- and which of them is nearest
pub record IsOddName (ms : Members) (place : Place) (key : Key) (r : OddName) : Type 0 where
  pub spot_is : IsTextSpot ms place r.spot
  pub key_is : r.key.now ≡ text_of key
  pub name_is : option_map (λ s. s.now) r.name ≡ name_of_none place key ms
  pub list_is : r.list.now ≡ text_of (list_named_at place)
  pub near_is : AreNear (and_then (name_of_none place key ms) (λ word. nearest word (names_at place ms))) r.near

-- the fault is one of a table
abbrev pub IsOfTable : TextError → Type 0
IsOfTable NotToml = ⊥
IsOfTable (Model e) = ⊥
IsOfTable OutOfMemory = ⊥
IsOfTable _ = Unit {0}

-- what is told of it is the reason of just that fault, at its place
abbrev pub IsTextReason : Members → TextError → TextReason → Type 0
IsTextReason ms (UnknownKey place) (reason.OddKey r) = IsOddKey ms place r
IsTextReason ms (MissingKey place key) (reason.MissingKey r) = IsMissingKey ms place key r
IsTextReason ms (WrongKind place key) (reason.WrongKind r) = IsWrongKind ms place key r
IsTextReason ms (OutOfRange place key) (reason.UnfitNumber r) = IsUnfitNumber ms place key r
IsTextReason ms (UnknownName place key) (reason.OddName r) = IsOddName ms place key r
IsTextReason ms _ _ = ⊥

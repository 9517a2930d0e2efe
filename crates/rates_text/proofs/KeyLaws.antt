-- Whether a table has other keys than it may have, read over its map's keys.
use Rattle.std.proofs.Common.{◌≡◌, List, [], ◌∷◌, ◌&&◌, String, Global, string_bytes, refl, ap}
use Rattle.std.specs.List.{list_all}
use Rattle.std.specs.Map.{keys_of}
use Rattle.toml.specs.View.{members_view}
use Rattle.toml.specs.declared.value.Value.{Value}
use Rattle.rates_text.specs.declared.error.RatesKey.{RatesKey}
use Rattle.rates_text.specs.Tables.{has_key, has_only}

-- key by key
pub has_only-members_view : (keys : List RatesKey) (es : List (String Global × Value))
    → has_only keys (members_view es) ≡ list_all (λ k. has_key keys (string_bytes k)) (keys_of es)
has_only-members_view keys [] = refl
has_only-members_view keys (e ∷ es) = ap (λ b. has_key keys (string_bytes e.0) && b) (has_only-members_view keys es)

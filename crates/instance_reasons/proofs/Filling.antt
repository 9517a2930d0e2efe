-- Lists of names that are filled one after another, and keys that stand in a table.
use Rattle.std.proofs.Common.{◌≡◌, ◌∙◌, ℕ, ◌+◌, ◌<◌, ◌≤◌, List, [], ◌∷◌, ◌++◌, Bool, length, get_or, take, map, Option, None, Some, if◌then◌else◌, is_some, String, Global, string_bytes, Bor, refl, sym, ap}
use Rattle.std.specs.HashMap.{HashMap, get_by}
use Rattle.std.specs.Map.{keys_of}
use Rattle.std.specs.Str.{bytes_eq}
use Rattle.std.proofs.lemmas.Iterator.Adapters.{position_from-zero}
use Rattle.std.proofs.lemmas.List.{map-append, take_all, take_more}
use Rattle.toml.specs.Data.{Data}
use Rattle.toml.specs.View.{members_view, view}
use Rattle.toml.specs.declared.value.Value.{Value}
use Rattle.instance_text.proofs.IndexLaws.{HasFrom}
use Rattle.instance_reasons.specs.Tables.{name_in}
use Rattle.instance_reasons.specs.Unknown.{first_unknown, is_known}

-- ---- lists that are filled

module _ {X Y : Type 0} (text : Y → List ℕ) (name : X → List ℕ) (xs : List X) (i : ℕ) (ys : List Y) where
  pub one_name_more : (x : X) (y : Y) → i < length xs → x ≡ get_or xs i x → text y ≡ name x → map text ys ≡ map name (take i xs)
      → map text (ys ++ y ∷ []) ≡ map name (take (i + 1) xs)
  one_name_more x y within here same so_far =
      rw (take_more xs i x within, ← here, map-append text ys (y ∷ []), map-append name (take i xs) (x ∷ []), so_far, same) refl

  pub all_names : length xs ≤ i → map text ys ≡ map name (take i xs) → map text ys ≡ map name xs
  all_names past so_far = so_far ∙ ap (map name) (take_all i xs past)

-- ---- names that are looked up

pub known_there : {S : Type 0} (m : HashMap (Bor (List ℕ)) ℕ S) (names : List (List ℕ)) (text : List ℕ) → HasFrom m 0 names
    → is_some (get_by (λ k. bytes_eq text k.now) m) ≡ is_known names text
known_there m names text found = ap is_some (found text ∙ sym (position_from-zero (bytes_eq text) names))

-- ---- keys of a table

-- the first of some keys that isn't known
abbrev pub first_among : (List ℕ → Bool) → List (String Global) → Option (List ℕ)
first_among known [] = None
first_among known (k ∷ ks) = if known (string_bytes k) then first_among known ks else Some (string_bytes k)

pub first_of_members : (known : List ℕ → Bool) (es : List (String Global × Value)) → first_unknown known (members_view es) ≡ first_among known (keys_of es)
first_of_members known [] = refl
first_of_members known (e ∷ es) = ap (λ x. if known (string_bytes e.0) then x else Some (string_bytes e.0)) (first_of_members known es)

-- ---- names in the code's values

named_views : (vs : List Value) → map (λ v. name_in (view v)) vs ≡ map name_in (map view vs)
named_views [] = refl
named_views (v ∷ vs) = ap (λ names. name_in (view v) ∷ names) (named_views vs)

pub all_named : {Y : Type 0} (text : Y → List ℕ) (vs : List Value) (ds : List Data) (i : ℕ) (ys : List Y) → length vs ≤ i → map view vs ≡ ds
    → map text ys ≡ map (λ v. name_in (view v)) (take i vs) → map text ys ≡ map name_in ds
all_named text vs ds i ys past are so_far =
    all_names text (λ v. name_in (view v)) vs i ys past so_far ∙ (named_views vs ∙ ap (map name_in) are)

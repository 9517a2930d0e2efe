-- What an array states, read over the code's values.
use Rattle.std.proofs.Common.{◌≡◌, ℕ, ◌<◌, ◌≤◌, List, [], ◌∷◌, length, get_or, take, map, Some, Ok, Err, refl, ap, ◌∙◌}
use Rattle.toml.specs.Data.{Data, string, integer, float, boolean, datetime, array, table, Items, as_array}
use Rattle.toml.specs.View.{view, items_view}
use Rattle.toml.specs.declared.value.Value.{Value}
use Rattle.rates_text.specs.declared.error.RatesTable.{RatesTable}
use Rattle.rates_text.specs.declared.error.RatesKey.{RatesKey}
use Rattle.rates_text.specs.declared.error.RatesTextError.{RatesTextError}
use Rattle.rates_text.specs.Kinds.{Stated, each, list_of, array_of}
use Rattle.rates_text.proofs.EachLaws.{each-map, each-fault, each-take_all}

pub list_of-items_view : (vs : List Value) → list_of (items_view vs) ≡ map view vs
list_of-items_view [] = refl
list_of-items_view (v ∷ vs) = ap (λ ds. view v ∷ ds) (list_of-items_view vs)

array_from_some : (d : Data) (ds : Items) → Some ds ≡ as_array d → d ≡ array ds
array_from_some (string s) ds e = cc
array_from_some (integer z) ds e = cc
array_from_some (float x) ds e = cc
array_from_some (boolean b) ds e = cc
array_from_some (datetime dt) ds e = cc
array_from_some (array es) ds e = cc
array_from_some (table ms) ds e = cc

-- an array's items one after another
pub array_of-items : {A : Type 0} (place : RatesTable) (key : RatesKey) (read : Data → Stated A) (d : Data) (vs : List Value)
    → Some (items_view vs) ≡ as_array d → array_of place key read d ≡ each (λ _ v. read (view v)) 0 vs
array_of-items place key read d vs found =
    rw (array_from_some d (items_view vs) found, list_of-items_view vs) (each-map (λ _ x. read x) view 0 vs)

-- an array one of whose items has the first fault
pub array_of-fault : {A : Type 0} (place : RatesTable) (key : RatesKey) (read : Data → Stated A) (d : Data) (vs : List Value) (i : ℕ) (v : Value) (ys : List A) (e : RatesTextError)
    → Some (items_view vs) ≡ as_array d → i < length vs → v ≡ get_or vs i v → each (λ _ w. read (view w)) 0 (take i vs) ≡ Ok ys
    → read (view v) ≡ Err e → array_of place key read d ≡ Err e
array_of-fault place key read d vs i v ys e found within here front reads =
    array_of-items place key read d vs found ∙ each-fault (λ _ w. read (view w)) vs i v ys e within here front reads

-- an array that was read to its end
pub array_of-all : {A : Type 0} (place : RatesTable) (key : RatesKey) (read : Data → Stated A) (d : Data) (vs : List Value) (i : ℕ) (ys : List A)
    → Some (items_view vs) ≡ as_array d → length vs ≤ i → each (λ _ w. read (view w)) 0 (take i vs) ≡ Ok ys → array_of place key read d ≡ Ok ys
array_of-all place key read d vs i ys found past front =
    array_of-items place key read d vs found ∙ each-take_all (λ _ w. read (view w)) vs i ys past front

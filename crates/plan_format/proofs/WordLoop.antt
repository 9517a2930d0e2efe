-- Going through the words of an order line one after the other, as loops do.
use Rattle.std.proofs.Common.{◌≡◌, ℕ, List, [], ◌∷◌, ◌++◌, length, refl, sym, ap, ◌∙◌, append_assoc, Bool, true, false, Option, Some, None}
use Rattle.std.specs.Prelude.{position, bytes_eq}
use Rattle.std.specs.List.{list_all}
use Rattle.std.proofs.lemmas.List.{length-map}
use Rattle.ttp_model.specs.declared.error.Part.TheVariants.{Nodes}
use Rattle.ttp_model.specs.Instance.{Instance}
use Rattle.plan_format.specs.Names.{is_name}
use Rattle.ttp_model.specs.Names.{names_in}
use Rattle.plan_format.specs.Reading.{words_of, places_with, places}
use Rattle.plan_format.specs.Words.{words_with}

pub nodes_named : (i : Instance) → length (names_in i Nodes) ≡ length i.nodes
nodes_named i = simp length-map

-- ---- the places of names

abbrev pub before : List ℕ → Option (List ℕ) → Option (List ℕ)
before front None = None
before front (Some ks) = Some (front ++ ks)

abbrev some_list : List ℕ → Option (List ℕ)
some_list xs = Some xs

step : (front : List ℕ) (k : ℕ) (o : Option (List ℕ)) → before front (places_with (Some k) o) ≡ before (front ++ k ∷ []) o
step front k None = refl
step front k (Some ks) = ap some_list (sym (append_assoc front (k ∷ []) ks))

pub place_more : (all : List (List ℕ)) (front text word more : List ℕ) (k : ℕ) (total : Option (List ℕ)) → words_of text ≡ word ∷ words_of more → Some k ≡ position (λ n. bytes_eq n word) all
    → before front (places all (words_of text)) ≡ total → before (front ++ k ∷ []) (places all (words_of more)) ≡ total
place_more all front text word more k total e h so_far =
    let one : before front (places all (words_of text)) ≡ before (front ++ k ∷ []) (places all (words_of more)) =
    rw (e, ← h) (step front k (places all (words_of more))) in
    sym one ∙ so_far

pub place_none : (all : List (List ℕ)) (front text word : List ℕ) (next : Option (List ℕ)) (total : Option (List ℕ)) → words_of text ≡ words_with word next → None ≡ position (λ n. bytes_eq n word) all
    → before front (places all (words_of text)) ≡ total → None ≡ total
place_none all front text word None total e h so_far =
    let one : before front (places all (words_of text)) ≡ None = rw (e, ← h) refl in sym one ∙ so_far
place_none all front text word (Some more) total e h so_far =
    let one : before front (places all (words_of text)) ≡ None = rw (e, ← h) refl in sym one ∙ so_far

pub place_last : (all : List (List ℕ)) (front text word : List ℕ) (k : ℕ) (total : Option (List ℕ)) → words_of text ≡ word ∷ [] → Some k ≡ position (λ n. bytes_eq n word) all
    → before front (places all (words_of text)) ≡ total → Some (front ++ k ∷ []) ≡ total
place_last all front text word k total e h so_far =
    let one : before front (places all (words_of text)) ≡ Some (front ++ k ∷ []) = rw (e, ← h) refl in
    sym one ∙ so_far

pub ruleset places_steps = (place_more, place_none, place_last)

-- ---- the words are names

pub names_more : (text word more : List ℕ) (total : Bool) → words_of text ≡ word ∷ words_of more → is_name word ≡ true → list_all is_name (words_of text) ≡ total → list_all is_name (words_of more) ≡ total
names_more text word more total e h so_far =
    let one : list_all is_name (words_of text) ≡ list_all is_name (words_of more) = rw (e, h) refl in
    sym one ∙ so_far

pub names_stop : (text word : List ℕ) (next : Option (List ℕ)) (total : Bool) → words_of text ≡ words_with word next → is_name word ≡ false → list_all is_name (words_of text) ≡ total → false ≡ total
names_stop text word None total e h so_far =
    let one : list_all is_name (words_of text) ≡ false = rw (e, h) refl in sym one ∙ so_far
names_stop text word (Some more) total e h so_far =
    let one : list_all is_name (words_of text) ≡ false = rw (e, h) refl in sym one ∙ so_far

pub names_last : (text word : List ℕ) (total : Bool) → words_of text ≡ word ∷ [] → is_name word ≡ true → list_all is_name (words_of text) ≡ total → true ≡ total
names_last text word total e h so_far =
    let one : list_all is_name (words_of text) ≡ true = rw (e, h) refl in
    sym one ∙ so_far

pub ruleset names_steps = (names_more, names_stop, names_last)

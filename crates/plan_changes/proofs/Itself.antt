-- What is compared with itself: each name is found where it stands, and nothing is different.
use Rattle.std.proofs.Common.{◌≡◌, ◌∙◌, ℕ, Bool, true, false, List, [], ◌∷◌, Option, None, Some, All, Contains, get_or, refl, ap, arith, eq-eqb}
use Rattle.std.specs.Prelude.{bytes_eq, filter, is_none, nat_eq, ◌||◌}
use Rattle.std.specs.List.{flat_map}
use Rattle.std.specs.Cmp.Lexicographic.{pointwise}
use Rattle.std.specs.Option.{option_eq}
use Rattle.std.proofs.lemmas.Bool.{cond_both}
use Rattle.std.proofs.lemmas.List.{append-nil}
use Rattle.std.proofs.lemmas.List.Elements.{All-contains_itself, All-tail}
use Rattle.std.proofs.lemmas.Slice.Eq.{bytes_eq-Decides, slice_eq-Decides}
use Rattle.ttp_model.specs.declared.error.Part.TheVariants.{Nodes, Processes}
use Rattle.plan_format.specs.declared.column.Column.{Column}
use Rattle.plan_format.specs.declared.column.Column.TheVariants.{Channel}
use Rattle.plan_format.specs.Channels.{has_two_channels}
use Rattle.ttp_model.specs.Names.{names_in}
use Rattle.medl_tables.proofs.FrameEntries.{flat_map-none}
use Rattle.plan_changes.specs.declared.fate.Fate.TheVariants.{Same}
use Rattle.plan_changes.specs.Planned.{Planned}
use Rattle.plan_changes.specs.Names.{gone_from, names_of_either, place_in}
use Rattle.plan_changes.specs.Units.{fate_at, fate_line, fate_of, nodes_of_either, table_lines, units_text, window_lines}
use Rattle.plan_changes.specs.Dispatch.{dispatch_lines}
use Rattle.plan_changes.specs.declared.attributes.Attribute.{Attribute}
use Rattle.plan_changes.specs.Attributes.{attribute_difference, attribute_word, attributes_text}
use Rattle.plan_changes.specs.Figures.{difference_text, differences_text, figure_for, names_of}
use Rattle.plan_changes.specs.Changes.{changes_text, channels_text, names_in_order, order_text, plan_text}
use Rattle.plan_changes.proofs.Places.{bytes_eq-same, place_in-there}

-- ---- names

filter-none : {X : Type 0} (p : X → Bool) (xs : List X) → All (λ x. p x ≡ false) xs → filter p xs ≡ []
filter-none p [] none = refl
filter-none p (x ∷ xs) none = rw (none 0 x (omega arith), filter-none p xs (All-tail (λ y. p y ≡ false) x xs none)) refl

-- none is gone
gone_from-itself : (names : List (List ℕ)) → gone_from names names ≡ []
gone_from-itself names = filter-none (λ n. is_none (place_in names n)) names (λ k d inside. place_in-there names _ (All-contains_itself names k d inside))

names_of_either-itself : (names : List (List ℕ)) → names_of_either names names ≡ names
names_of_either-itself names = rw gone_from-itself (append-nil names)

-- ---- nodes

fate_at-itself : (p : Planned) (place : Option ℕ) → is_none place ≡ false → fate_at p p place place ≡ Same
fate_at-itself p None there = absurd cc
fate_at-itself p (Some k) there = rw (bytes_eq-same (table_lines p k), bytes_eq-same (window_lines p k), bytes_eq-same (dispatch_lines p k)) refl

fate_of-itself : (p : Planned) (name : List ℕ) → Contains (names_in p.instance Nodes) name → fate_of p p name ≡ Same
unfolding fate_of
fate_of-itself p name there = fate_at-itself p (place_in (names_in p.instance Nodes) name) (place_in-there (names_in p.instance Nodes) name there)

pub fates-itself : (p : Planned) → All (λ name. fate_of p p name ≡ Same) (nodes_of_either p p)
fates-itself p =
    rw (names_of_either-itself (names_in p.instance Nodes)) (λ k d inside. fate_of-itself p _ (All-contains_itself (names_in p.instance Nodes) k d inside))

-- ---- the plan

order_text-itself : (p : Planned) → order_text p p ≡ []
unfolding order_text
order_text-itself p =
    let names = names_in_order p in
    let same = (slice_eq-Decides bytes_eq-Decides names names (pointwise bytes_eq names names) refl).1 refl in
    rw same refl

attribute_difference-same : (attribute : Attribute) (name word : List ℕ) → attribute_difference attribute name word word ≡ []
unfolding attribute_difference
attribute_difference-same attribute name word = rw (bytes_eq-same word) refl

attributes_text-itself : (p : Planned) (attribute : Attribute) → attributes_text p p attribute ≡ []
attributes_text-itself p attribute =
    let names = names_of_either (names_in p.instance Processes) (names_in p.instance Processes) in
    flat_map-none (λ name. attribute_difference attribute name (attribute_word attribute p name) (attribute_word attribute p name)) names
    (λ name. attribute_difference-same attribute name (attribute_word attribute p name))

option_eq-same : (figure : Option ℕ) → option_eq nat_eq figure figure ≡ true
option_eq-same None = refl
option_eq-same (Some n) = eq-eqb n n refl

difference_text-same : (column : Column) (name : List ℕ) (figure : Option ℕ) → difference_text column name figure figure ≡ []
unfolding difference_text
difference_text-same column name figure = rw (option_eq-same figure) refl

differences_text-itself : (p : Planned) (column : Column) → differences_text p p column ≡ []
differences_text-itself p column =
    let names = names_of_either (names_of column p) (names_of column p) in
    flat_map-none (λ name. difference_text column name (figure_for column p name) (figure_for column p name)) names
    (λ name. difference_text-same column name (figure_for column p name))

channels_text-itself : (p : Planned) → channels_text p p ≡ []
unfolding channels_text
channels_text-itself p =
    let two = has_two_channels p.instance in
    rw (differences_text-itself p Channel) (cond_both (two || two) [] [] (λ told. told ≡ []) (λ _. refl) (λ _. refl))

pub plan_text-itself : (p : Planned) → plan_text p p ≡ []
plan_text-itself p = simp (order_text-itself, attributes_text-itself, differences_text-itself, channels_text-itself)

-- ---- the text

flat_map-same : {X Y : Type 0} (f g : X → List Y) (xs : List X) → All (λ x. f x ≡ g x) xs → flat_map f xs ≡ flat_map g xs
flat_map-same f g [] same = refl
flat_map-same f g (x ∷ xs) same = rw (same 0 x (omega arith), flat_map-same f g xs (All-tail (λ y. f y ≡ g y) x xs same)) refl

units_text-itself : (p : Planned) → units_text p p ≡ flat_map (fate_line Same) (names_in p.instance Nodes)
units_text-itself p =
    let told = λ (name : List ℕ). fate_line (fate_of p p name) name in
    let names = nodes_of_either p p in
    let each : All (λ name. told name ≡ fate_line Same name) names = λ k d inside. ap (λ fate. fate_line fate (get_or names k d)) (fates-itself p k d inside) in
    flat_map-same told (fate_line Same) names each ∙ ap (flat_map (fate_line Same)) (names_of_either-itself (names_in p.instance Nodes))

pub changes_text-itself : (p : Planned) → changes_text p p ≡ flat_map (fate_line Same) (names_in p.instance Nodes)
changes_text-itself p = rw plan_text-itself (append-nil (units_text p p) ∙ units_text-itself p)

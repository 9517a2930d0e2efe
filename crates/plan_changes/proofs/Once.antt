-- The names of either list are those of both, and each is told once.
use Rattle.std.proofs.Common.{◌≡◌, ◌≢◌, ◌⊎◌, ℕ, zero, suc, ◌<◌, Bool, true, false, cond, List, [], ◌∷◌, All, AllPairs, Contains, length, get_or}
use Rattle.std.proofs.Common.{arith, inl, inr, refl}
use Rattle.std.specs.Prelude.{filter, is_none}
use Rattle.std.proofs.lemmas.List.{get_or-map, length-map}
use Rattle.std.proofs.lemmas.List.Elements.{Contains-append_cases, Contains-append_left, Contains-append_right, Contains-get_or, filter_passes}
use Rattle.std.proofs.lemmas.List.Kept.{AllPairs-filter}
use Rattle.ttp_model.specs.Instance.{Instance, no_node}
use Rattle.ttp_model.specs.Rules.{IsInstance}
use Rattle.ttp_model.specs.declared.error.Part.TheVariants.{Nodes}
use Rattle.ttp_model.specs.declared.error.Place.TheVariants.{AtNode}
use Rattle.ttp_model.specs.declared.parts.Node.{Node}
use Rattle.ttp_model.specs.Names.{names_in}
use Rattle.guardian_windows.proofs.Lists.{AllPairs-append}
use Rattle.plan_changes.specs.Names.{gone_from, names_of_either, place_in}
use Rattle.plan_changes.proofs.Places.{Contains-filter, place_in-tells, place_in-there}

-- ---- which names

module _ {X : Type 0} (p : X → Bool) (x : X) (passes : p x ≡ true) where
  behind : (test : Bool) (y : X) (kept : List X) → Contains kept x → Contains (cond test (y ∷ kept) kept) x
  behind true y kept (k, inside, is) = (suc k, omega (arith, inside), is)
  behind false y kept there = there

  -- what passes a test and is there is among what passes
  Contains-passing : (xs : List X) (k : ℕ) → k < length xs → get_or xs k x ≡ x → Contains (filter p xs) x
  Contains-passing [] k inside is = absurd (omega (arith, inside))
  Contains-passing (y ∷ ys) zero inside is = rw (is, passes) (zero, omega arith, refl)
  Contains-passing (y ∷ ys) (suc k) inside is = behind (p y) y (filter p ys) (Contains-passing ys k (omega (arith, inside)) is)

of_old : (old new : List (List ℕ)) (name : List ℕ) (gone : Bool) → is_none (place_in new name) ≡ gone → Contains old name
    → Contains (names_of_either old new) name
of_old old new name true is there =
    Contains-append_right new (gone_from new old) name (Contains-passing (λ n. is_none (place_in new n)) name is old there.0 there.1 there.2)
of_old old new name false is there = Contains-append_left new (gone_from new old) name (place_in-tells new name is)

from_gone : (old new : List (List ℕ)) (name : List ℕ) → Contains new name ⊎ Contains (gone_from new old) name → Contains old name ⊎ Contains new name
from_gone old new name (inl there) = inr there
from_gone old new name (inr gone) = inl (Contains-filter (λ n. is_none (place_in new n)) old name gone)

pub either-from : (old new : List (List ℕ)) (name : List ℕ) → Contains (names_of_either old new) name → Contains old name ⊎ Contains new name
either-from old new name there = from_gone old new name (Contains-append_cases new (gone_from new old) name there)

pub either-has : (old new : List (List ℕ)) (name : List ℕ) → Contains old name ⊎ Contains new name → Contains (names_of_either old new) name
either-has old new name (inl there) = of_old old new name _ refl there
either-has old new name (inr there) = Contains-append_left new (gone_from new old) name there

-- ---- none twice

abbrev AreOther : List ℕ → List ℕ → Type 0
AreOther a b = a ≢ b

-- no two nodes of an instance have one name
nodes_differ : (i : Instance) → IsInstance i → AllPairs AreOther (names_in i Nodes)
nodes_differ i w = λ j k d lt inside.
    let second : k < length i.nodes = omega (arith, inside, length-map i.nodes (λ (n : Node). n.name)) in
    let first : j < length i.nodes = omega arith in
    rw (get_or-map (λ (n : Node). n.name) i.nodes j no_node d first, get_or-map (λ (n : Node). n.name) i.nodes k no_node d second)
    (w.new_names (AtNode k) second j lt)

-- one of the new ones is another than one that is gone
gone_differ : (old new : List (List ℕ)) → All (λ a. All (AreOther a) (gone_from new old)) new
gone_differ old new = λ j d inside k e gone is.
    let lacks = filter_passes (λ n. is_none (place_in new n)) old k e gone in
    let there = rw is at (place_in-there new (get_or new j d) (Contains-get_or new j d inside)) in
    absurd (cc (lacks, there))

pub either-once : (i j : Instance) → IsInstance i → IsInstance j → AllPairs AreOther (names_of_either (names_in i Nodes) (names_in j Nodes))
either-once i j first second =
    let old = names_in i Nodes in
    let new = names_in j Nodes in
    let gone = AllPairs-filter AreOther (λ n. is_none (place_in new n)) old (nodes_differ i first) in
    AllPairs-append AreOther new (gone_from new old) (nodes_differ j second) gone (gone_differ old new)

-- What is told as near is there, what is told as unknown isn't, and what is told as wanted is read.
use Rattle.std.proofs.Common.{◌≡◌, ◌∙◌, ℕ, suc, ◌≤◌, ◌⊎◌, inl, inr, List, [], ◌∷◌, Bool, true, false, Option, None, Some, Contains, refl, ap, arith}
use Rattle.std.specs.List.{AllByRecursion, find, fold}
use Rattle.std.proofs.lemmas.Bool.{and_parts, cases_Bool, leb-true}
use Rattle.toml.specs.Data.{Data, string, integer, float, boolean, datetime, array, table, Items, Members, no_members, member, as_array}
use Rattle.instance_text.specs.declared.error.Place.{Place}
use Rattle.instance_text.specs.declared.error.Place.TheVariants.{Top, Cluster, Node, Process, Link, Message}
use Rattle.instance_text.specs.Kinds.{list_of}
use Rattle.instance_text.specs.Rows.{rows}
use Rattle.instance_text.specs.Tables.{has_key, keys_at}
use Rattle.instance_reasons.specs.Near.{distance, first_of, is_near, nearest}
use Rattle.instance_reasons.specs.Reading.{shape_of}
use Rattle.instance_reasons.specs.Tables.{and_then, of_items, table_at}
use Rattle.instance_reasons.specs.Unknown.{earlier, earlier_text, earliest_unknown, first_unknown, unknown_item, unknown_key, unknown_name, unless_has}
use Rattle.instance_reasons.specs.Values.{wanted}

-- ---- what is wanted

pub wanted_read : (place : Place) → AllByRecursion (λ r. wanted place r.key ≡ shape_of r.kind) (rows place)
wanted_read Top = (refl, (refl, (refl, (refl, (refl, tt)))))
wanted_read Cluster = (refl, (refl, (refl, (refl, (refl, (refl, (refl, (refl, (refl, tt)))))))))
wanted_read (Node n) = (refl, (refl, tt))
wanted_read (Process p) = (refl, (refl, (refl, (refl, (refl, tt)))))
wanted_read (Link l) = (refl, (refl, tt))
wanted_read (Message m) = (refl, (refl, (refl, (refl, (refl, tt)))))

-- ---- what is unknown

odd_key : (known : List ℕ → Bool) (ms : Members) (key : List ℕ) → first_unknown known ms ≡ Some key → known key ≡ false
odd_key known no_members key e = cc
odd_key known (member text d ms) key e = elim (cases_Bool (known text)) [
  | inl holds ↦ odd_key known ms key (rw holds at e)
  | inr fails ↦ let same : Some text ≡ Some key = rw fails at e in let is : text ≡ key = cc in rw (← is) fails
]

odd_key_of : (known : List ℕ → Bool) (found : Option Members) (key : List ℕ) → and_then found (first_unknown known) ≡ Some key → known key ≡ false
odd_key_of known None key e = cc
odd_key_of known (Some ms) key e = odd_key known ms key e

pub odd_key_unknown : (place : Place) (ms : Members) (key : List ℕ) → unknown_key place ms ≡ Some key → has_key (keys_at place) key ≡ false
odd_key_unknown place ms key e = odd_key_of (has_key (keys_at place)) (table_at place ms) key e

module _ (known : List ℕ → Bool) where
  -- a text that was found isn't known
  abbrev IsOdd : Option (List ℕ) → Type 0
  IsOdd found = (name : List ℕ) → found ≡ Some name → known name ≡ false

  odd_unless : (text : List ℕ) → IsOdd (unless_has known text)
  odd_unless text name e = elim (cases_Bool (known text)) [
    | inl holds ↦ let none : None ≡ Some name = rw holds at e in cc
    | inr fails ↦ let same : Some text ≡ Some name = rw fails at e in let is : text ≡ name = cc in rw (← is) fails
  ]

  odd_item : (d : Data) → IsOdd (unknown_item known d)
  odd_item (string s) = odd_unless s
  odd_item (integer z) = λ name e. cc
  odd_item (float x) = λ name e. cc
  odd_item (boolean b) = λ name e. cc
  odd_item (datetime dt) = λ name e. cc
  odd_item (array ds) = λ name e. cc
  odd_item (table ms) = λ name e. cc

  one_of_two : (x y : List ℕ) → (earlier_text x y ≡ x) ⊎ (earlier_text x y ≡ y)
  one_of_two x y = grind arith

  odd_text : (x y : List ℕ) → known x ≡ false → known y ≡ false → known (earlier_text x y) ≡ false
  odd_text x y hx hy = elim (one_of_two x y) [
    | inl e ↦ rw e hx
    | inr e ↦ rw e hy
  ]

  odd_earlier : (first second : Option (List ℕ)) → IsOdd first → IsOdd second → IsOdd (earlier first second)
  odd_earlier None second hf hs = hs
  odd_earlier (Some x) None hf hs = hf
  odd_earlier (Some x) (Some y) hf hs = λ name e.
      let is : earlier_text x y ≡ name = cc in rw (← is) (odd_text x y (hf x refl) (hs y refl))

  odd_fold : (first : Option (List ℕ)) (ds : List Data) → IsOdd first → IsOdd (fold (λ found d. earlier found (unknown_item known d)) first ds)
  odd_fold first [] h = h
  odd_fold first (d ∷ ds) h = odd_fold (earlier first (unknown_item known d)) ds (odd_earlier first (unknown_item known d) h (odd_item d))

  odd_of : (found : Option Items) (d : Data) → IsOdd (of_items found (unknown_item known d) (earliest_unknown known))
  odd_of None d = odd_item d
  odd_of (Some ds) d = odd_fold None (list_of ds) (λ name e. cc)

  pub odd_name_unknown : (d : Data) (name : List ℕ) → unknown_name known d ≡ Some name → known name ≡ false
  odd_name_unknown d name e = odd_of (as_array d) d name e

-- ---- what is near

found_there : (p : List ℕ → Bool) (xs : List (List ℕ)) (x : List ℕ) → find p xs ≡ Some x → Contains xs x × (p x ≡ true)
found_there p [] x e = cc
found_there p (y ∷ ys) x e = elim (cases_Bool (p y)) [
  | inl holds ↦ let same : Some y ≡ Some x = rw holds at e in let is : y ≡ x = cc in ((0, omega arith, is), rw (← is) holds)
  | inr fails ↦ let rest = found_there p ys x (rw fails at e) in ((suc rest.0.0, omega (arith, rest.0.1), rest.0.2), rest.1)
]

near_by : (word : List ℕ) (most : ℕ) (name : List ℕ) → is_near word most name ≡ true → distance word name ≤ most
near_by word most name e = leb-true _ _ (and_parts _ _ e).1

first_there : (word : List ℕ) (names : List (List ℕ)) (name : List ℕ) (found : Option (List ℕ)) → find (is_near word 1) names ≡ found
    → first_of found (find (is_near word 2) names) ≡ Some name → Contains names name × (distance word name ≤ 2)
first_there word names name None none e =
    let there = found_there (is_near word 2) names name e in
    (there.0, near_by word 2 name there.1)
first_there word names name (Some x) one e =
    let is : x ≡ name = cc in
    let there = found_there (is_near word 1) names name (one ∙ ap (λ (y : List ℕ). Some y) is) in
    (there.0, omega (arith, near_by word 1 name there.1))

pub near_there : (word : List ℕ) (names : List (List ℕ)) (name : List ℕ) → nearest word names ≡ Some name → Contains names name × (distance word name ≤ 2)
near_there word names name e = first_there word names name (find (is_near word 1) names) refl e

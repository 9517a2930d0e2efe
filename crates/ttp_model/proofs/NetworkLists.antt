-- Pairs of what hangs on what, one index after another.
use Rattle.std.proofs.Common.{◌≡◌, ◌≢◌, ℕ, suc, ◌+◌, ◌<◌, ◌≤◌, ◌==◌, cond, Bool, List, [], ◌∷◌, ◌++◌, length, slice_index, All, arith, inl, inr, refl, sym, ap, ◌∙◌}
use Rattle.std.specs.List.{list_any}
use Rattle.std.proofs.lemmas.Bool.Decides.{eqb_tells}
use Rattle.std.proofs.lemmas.List.Elements.{All-nil, All-push, All-append, All-map, All-same}
use Rattle.ttp_model.specs.Lists.{HasNoRepeats}
use Rattle.ttp_model.specs.Instance.{Instance}
use Rattle.ttp_model.specs.Groups.{HasKeyBelow, AreLists, list_at, numbers_of, with_keys}
use Rattle.ttp_model.specs.Network.{indices}
use Rattle.ttp_model.proofs.Indices.{indices_more, indices_inside, length_indices}
use Rattle.ttp_model.proofs.KeyedNumbers.{numbers_of-append, numbers_of-nil, numbers_of-here, numbers_of-other}

-- so many indices stand behind the keys that a test gives them
pub record ArePairs (keys : ℕ) (test : ℕ → ℕ → Bool) (count : ℕ) (pairs : List (ℕ × ℕ)) : Type 0 where
  pub keyed : All (HasKeyBelow keys) pairs
  pub lists : (key : ℕ) → numbers_of key pairs ≡ indices (test key) count

pub pairs_first : (keys : ℕ) (test : ℕ → ℕ → Bool) → ArePairs keys test 0 []
pairs_first keys test = record { keyed = All-nil (HasKeyBelow keys); lists = λ key. numbers_of-nil key }

one_pair : (key k count : ℕ) → numbers_of key ((k, count) ∷ []) ≡ cond (k == key) (count ∷ []) []
unfolding numbers_of
one_pair key k count = elim (eqb_tells k key) [ inl is ↦ rw is.0 refl | inr other ↦ rw other.0 refl ]

-- an index more, behind one key
pub pairs_more : (keys : ℕ) (test : ℕ → ℕ → Bool) (count : ℕ) (pairs : List (ℕ × ℕ)) (k : ℕ) → k < keys → ((key : ℕ) → test key count ≡ (k == key)) → ArePairs keys test count pairs → ArePairs keys test (count + 1) (pairs ++ (k, count) ∷ [])
pairs_more keys test count pairs k inside picks so_far = record {
  keyed = All-push (HasKeyBelow keys) pairs (k, count) so_far.keyed inside;
  lists = λ key.
      let joined = numbers_of-append key pairs ((k, count) ∷ []) in
      let more = indices_more (test key) count in
      let one = one_pair key k count in
      let was = so_far.lists key in
      joined ∙ ap (λ (xs : List ℕ). xs ++ numbers_of key ((k, count) ∷ [])) was ∙ ap (λ (xs : List ℕ). indices (test key) count ++ xs) (one ∙ ap (λ (b : Bool). cond b (count ∷ []) []) (sym (picks key))) ∙ sym more;
}

-- a number is behind no key that isn't among its own
absent : (key number : ℕ) (keys : List ℕ) → ((k : ℕ) → k < length keys → slice_index keys k ≢ key) → numbers_of key (with_keys number keys) ≡ []
absent key number [] none = numbers_of-nil key
absent key number (k ∷ keys) none =
    numbers_of-other key (k, number) (with_keys number keys) (none 0 (omega arith)) ∙ absent key number keys (λ j inside. none (suc j) (omega arith))

-- and once behind each of these
pub with_each : (key number : ℕ) (keys : List ℕ) → HasNoRepeats keys → numbers_of key (with_keys number keys) ≡ cond (list_any (λ (r : ℕ). r == key) keys) (number ∷ []) []
with_each key number [] once = numbers_of-nil key
with_each key number (k ∷ keys) once = elim (eqb_tells k key) [
  | inl is ↦
      let others = absent key number keys (λ j inside same. once 0 (suc j) (omega arith) (omega arith) (is.1 ∙ sym same)) in
      rw is.0 (numbers_of-here key (k, number) (with_keys number keys) is.1 ∙ ap (λ (xs : List ℕ). number ∷ xs) others)
  | inr other ↦
      let rest = with_each key number keys (λ i j less inside same. once (suc i) (suc j) (omega arith) (omega arith) same) in
      rw other.0 (numbers_of-other key (k, number) (with_keys number keys) other.1 ∙ rest)
]

-- an index more, behind each of some keys
pub pairs_more_each : (bound : ℕ) (test : ℕ → ℕ → Bool) (count : ℕ) (pairs : List (ℕ × ℕ)) (keys : List ℕ) → All (λ (k : ℕ). k < bound) keys → HasNoRepeats keys → ((key : ℕ) → test key count ≡ list_any (λ (r : ℕ). r == key) keys) → ArePairs bound test count pairs → ArePairs bound test (count + 1) (pairs ++ with_keys count keys)
pairs_more_each bound test count pairs keys inside once picks so_far = record {
  keyed = All-append (HasKeyBelow bound) pairs (with_keys count keys) so_far.keyed (All-map (HasKeyBelow bound) (λ (k : ℕ). (k, count)) keys inside);
  lists = λ key.
      let joined = numbers_of-append key pairs (with_keys count keys) in
      let more = indices_more (test key) count in
      let one = with_each key count keys once in
      let was = so_far.lists key in
      joined ∙ ap (λ (xs : List ℕ). xs ++ numbers_of key (with_keys count keys)) was ∙ ap (λ (xs : List ℕ). indices (test key) count ++ xs) (one ∙ ap (λ (b : Bool). cond b (count ∷ []) []) (sym (picks key))) ∙ sym more;
}

-- what is listed by the pairs' numbers is listed by the test
pub same_lists_of : (numbers ends : List ℕ) (pairs : List (ℕ × ℕ)) (keys count all : ℕ) (test : ℕ → ℕ → Bool) → count ≡ all → ArePairs keys test count pairs → AreLists numbers ends (λ (key : ℕ). numbers_of key pairs) → AreLists numbers ends (λ (key : ℕ). indices (test key) all)
same_lists_of numbers ends pairs keys count all test same placed are = record { places = are.places; lists = λ key. are.lists key ∙ placed.lists key ∙ ap (indices (test key)) same }

-- ---- what is read of a list

-- the list of a key, of an instance that is seen as another
pub list_of : (of : Instance → ℕ → List ℕ) (i j : Instance) (numbers ends list : List ℕ) (key : ℕ) → AreLists numbers ends (of i) → i ≡ j → list ≡ list_at numbers ends key → list ≡ of j key
list_of of i j numbers ends list key are same is = is ∙ are.lists key ∙ ap (λ (x : Instance). of x key) same

-- each of its indices is of something
pub each_inside : (test : ℕ → Bool) (count : ℕ) (list : List ℕ) → list ≡ indices test count → All (λ (k : ℕ). k < count) list
each_inside test count list is = All-same (λ (k : ℕ). k < count) list (indices test count) is (indices_inside test count)

-- and there are no more than there is of it
pub few_listed : (test : ℕ → Bool) (count : ℕ) (list : List ℕ) → list ≡ indices test count → length list ≤ count
few_listed test count list is = omega (arith, ap length is, length_indices test count)

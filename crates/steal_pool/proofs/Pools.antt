-- All hands of a pool, after a change of one.
use Rattle.std.proofs.Common.{◌≡◌, ◌≢◌, ℕ, zero, suc, ◌<◌, ◌≤◌, ◌+◌, List, [], ◌∷◌, ◌++◌, length, map, take, get_or, set, refl, sym, ap, ◌∙◌, subst, arith, add-one, ◌⊎◌, ⊎_elim}
use Rattle.std.specs.List.{flat_map}
use Rattle.std.proofs.lemmas.Grind.{flat_map-append}
use Rattle.std.proofs.Math.Seq.{take-length}
use mathlib.Core.Option.{some, some-injective, some-ne-none}
use lib.ListN.{get_elem?}
use Rattle.crossbeam_deque.proofs.Lists.{at_index, at_set, at_map}
use Rattle.search_trees.specs.Task.{Task}
use Rattle.steal_pool.specs.declared.door.Door.{Door}
use Rattle.steal_pool.specs.declared.hand.Hand.{Hand}
use Rattle.steal_pool.specs.Door.{DequeId, deque_of, deques_of, taken_by}
use Rattle.steal_pool.specs.Hand.{pushed, taken, own_taken, own_deque, deques, out_count, ChangesAt, AddsDoor, OpensDoor, IsPool, IsFresh, all_pushed, all_taken}
use Rattle.steal_pool.proofs.Orders.{at_length, snoc_cases, none_in_all}

pub changed : {J : Type 0} → (hands : List (Hand J)) (place : ℕ) (R : Hand J → Hand J → Type 0) (g h : Hand J) → place < length hands
    → g ≡ get_or hands place g → R g h → ChangesAt hands place R (set hands place h)
changed hands place R g h small at r = (g, h, at_index hands place g small at, refl, r)

abbrev pub Each : {J : Type 0} → (ℕ → Hand J → Type 0) → List (Hand J) → Type 0
Each {J} F hands = (place : ℕ) (h : Hand J) → get_elem? hands place ≡ some h → F place h

pub each_change : {J : Type 0} → (F G : ℕ → Hand J → Type 0) (old : List (Hand J)) (place : ℕ) (R : Hand J → Hand J → Type 0) (new : List (Hand J))
    → Each F old → ChangesAt old place R new
    → ((k : ℕ) (h : Hand J) → k ≢ place → F k h → G k h) → ((g h : Hand J) → F place g → R g h → G place h) → Each G new
each_change {J} F G old place R new all change others here k x e =
    ⊎_elim
    (λ (p : (k ≡ place) × (change.1 ≡ x)). subst (λ (y : ℕ × Hand J). G y.0 y.1) (λ i. (sym p.0 i, p.1 i))
    (here change.0 change.1 (all place change.0 change.2) change.4))
    (λ (p : (k ≢ place) × (get_elem? old k ≡ some x)). others k x p.0 (all k x p.1))
    (at_set old place k change.1 x (subst (λ (l : List (Hand J)). get_elem? l k ≡ some x) change.3 e))

-- a hand while the pool is made: the deques of the hands below `outs` have been opened for the hand `to`, and the hand `to` has the first `ways` of them
pub record Made {J : Type 0} (ids : List DequeId) (to outs ways place : ℕ) (h : Hand J) : Type 0 where
  pub number : h.number ≡ place
  pub own : get_elem? ids place ≡ some (own_deque h)
  pub pushed : pushed h ≡ []
  pub own_taken : own_taken h ≡ []
  pub ways_taken : flat_map taken_by h.doors.items ≡ []
  pub opened : place < outs → out_count h ≡ to + 1
  pub unopened : outs ≤ place → out_count h ≡ to
  pub before : place < to → deques h ≡ ids
  pub here : place ≡ to → deques h ≡ take ways ids
  pub after : to < place → deques h ≡ []

pub take_snoc : {X : Type 0} (xs : List X) (i : ℕ) (x : X) → get_elem? xs i ≡ some x → take (i + 1) xs ≡ take i xs ++ x ∷ []
take_snoc [] i x e = absurd (some-ne-none x (sym e))
take_snoc (y ∷ ys) zero x e = λ k. some-injective y x e k ∷ []
take_snoc (y ∷ ys) (suc i) x e = rw add-one (λ k. y ∷ (rw add-one at (take_snoc ys i x e)) k)

pub map_append : {X Y : Type 0} (f : X → Y) (xs ys : List X) → map f (xs ++ ys) ≡ map f xs ++ map f ys
map_append f [] ys = refl
map_append f (x ∷ xs) ys = λ k. f x ∷ map_append f xs ys k

-- one more way is made
pub opens : {J : Type 0} → (ids : List DequeId) (to from : ℕ) (old : List (Hand J)) (d : Door J) (new : List (Hand J))
    → Each (Made ids to from from) old → ChangesAt old from (λ g h. OpensDoor g d h) new
    → Each (Made ids to (from + 1) from) new × (get_elem? ids from ≡ some (deque_of d)) × (taken_by d ≡ [])
opens ids to from old d new all change = (
  each_change (Made ids to from from) (Made ids to (from + 1) from) old from (λ g h. OpensDoor g d h) new all change
      (λ k h apart m. record {
        number = m.number;
        own = m.own;
        pushed = m.pushed;
        own_taken = m.own_taken;
        ways_taken = m.ways_taken;
        before = m.before;
        here = m.here;
        after = m.after;
        opened = λ less. m.opened (omega arith);
        unopened = λ le. m.unopened (omega arith);
      })
      (λ g h m o. record {
        number = o.number ∙ m.number;
        own = m.own ∙ ap some (sym o.own);
        pushed = o.pushed ∙ m.pushed;
        own_taken = o.own_taken ∙ m.own_taken;
        ways_taken = ap (flat_map taken_by) o.doors ∙ m.ways_taken;
        before = λ less. ap deques_of o.doors ∙ m.before less;
        here = λ is. ap deques_of o.doors ∙ m.here is;
        after = λ less. ap deques_of o.doors ∙ m.after less;
        opened = λ less. o.out ∙ ap (λ (k : ℕ). k + 1) (m.unopened (omega arith));
        unopened = λ le. absurd (omega arith);
      }),
  (let m = all from change.0 change.2 in m.own ∙ ap some (sym change.4.leads)),
  change.4.unused,
)

pub adds : {J : Type 0} → (ids : List DequeId) (to from : ℕ) (old : List (Hand J)) (d : Door J) (new : List (Hand J))
    → Each (Made ids to (from + 1) from) old → get_elem? ids from ≡ some (deque_of d) → taken_by d ≡ [] → ChangesAt old to (λ g h. AddsDoor g d h) new
    → Each (Made ids to (from + 1) (from + 1)) new
adds ids to from old d new all leads unused change =
    each_change (Made ids to (from + 1) from) (Made ids to (from + 1) (from + 1)) old to (λ g h. AddsDoor g d h) new all change
    (λ k h apart m. record {
      number = m.number;
      own = m.own;
      pushed = m.pushed;
      own_taken = m.own_taken;
      ways_taken = m.ways_taken;
      before = m.before;
      after = m.after;
      opened = m.opened;
      unopened = m.unopened;
      here = λ is. absurd (apart is);
    })
    (λ g h m a. record {
      number = a.number ∙ m.number;
      own = m.own ∙ ap some (sym a.own);
      pushed = a.pushed ∙ m.pushed;
      own_taken = a.own_taken ∙ m.own_taken;
      ways_taken =
          ap (flat_map taken_by) a.doors ∙ (flat_map-append taken_by g.doors.items (d ∷ [])
          ∙ (ap (λ (l : List Task). l ++ (taken_by d ++ [])) m.ways_taken ∙ ap (λ (l : List Task). l ++ []) unused));
      before = λ less. absurd (omega arith);
      after = λ less. absurd (omega arith);
      here =
          λ is. ap (map deque_of) a.doors ∙ (map_append deque_of g.doors.items (d ∷ [])
          ∙ (ap (λ (l : List DequeId). l ++ deque_of d ∷ []) (m.here is) ∙ sym (take_snoc ids from (deque_of d) leads)));
      opened = λ less. a.out ∙ m.opened less;
      unopened = λ le. a.out ∙ m.unopened le;
    })

pub fresh_more : {J : Type 0} → (hands : List (Hand J)) (n : ℕ) (h : Hand J) → n ≡ length hands → Each IsFresh hands → IsFresh n h
    → Each IsFresh (hands ++ h ∷ [])
fresh_more {J} hands n h long all new k x e =
    ⊎_elim (all k x) (λ (p : (k ≡ length hands) × (h ≡ x)). subst (λ (y : ℕ × Hand J). IsFresh y.0 y.1) (λ i. ((long ∙ sym p.0) i, p.1 i)) new)
    (snoc_cases hands h x k e)

pub starts : {J : Type 0} → (hands : List (Hand J)) → Each IsFresh hands → Each (Made (map own_deque hands) 0 0 0) hands
starts hands all k h e = let f = all k h e in record {
  number = f.number;
  own = at_map own_deque hands k h e;
  pushed = f.pushed;
  own_taken = f.own_taken;
  ways_taken = ap (flat_map taken_by) f.doors;
  opened = λ less. absurd (omega arith);
  unopened = λ le. f.out;
  before = λ less. absurd (omega arith);
  here = λ is. ap deques_of f.doors;
  after = λ less. ap deques_of f.doors;
}

pub less_cases : (k n : ℕ) → k < n + 1 → (k < n) ⊎ (k ≡ n)
less_cases k n h = grind arith

pub turns : {J : Type 0} → (ids : List DequeId) (to n : ℕ) (hands : List (Hand J)) → n ≡ length ids → n ≡ length hands → Each (Made ids to n n) hands
    → Each (Made ids (to + 1) 0 0) hands
turns ids to n hands long many all k h e =
    let m = all k h e in let small : k < n = rw many (at_length hands k h e) in
    let whole : take n ids ≡ ids = ap (λ (j : ℕ). take j ids) long ∙ take-length ids in
    record {
      number = m.number;
      own = m.own;
      pushed = m.pushed;
      own_taken = m.own_taken;
      ways_taken = m.ways_taken;
      opened = λ less. absurd (omega arith);
      unopened = λ le. m.opened small;
      before = λ less. ⊎_elim (λ (l : k < to). m.before l) (λ (is : k ≡ to). m.here is ∙ whole) (less_cases k to less);
      here = λ is. m.after (omega arith);
      after = λ less. m.after (omega arith);
    }

pub ready : {J : Type 0} → (ids : List DequeId) (n : ℕ) (hands : List (Hand J)) → n ≡ length ids → n ≡ length hands → Each (Made ids n 0 0) hands → IsPool hands
ready ids n hands long many all = (
  ids,
  sym long ∙ many,
  λ k h e.
      let m = all k h e in let small : k < n = rw many (at_length hands k h e) in
      record { number = m.number; own = m.own; deques = m.before small; out = m.unopened (omega arith) ∙ long },
)

pub idle_pushed : {J : Type 0} → (ids : List DequeId) (a b c : ℕ) (hands : List (Hand J)) → Each (Made ids a b c) hands → all_pushed hands ≡ []
idle_pushed ids a b c hands all = none_in_all pushed hands (λ k h e. (all k h e).pushed)

pub idle_taken : {J : Type 0} → (ids : List DequeId) (a b c : ℕ) (hands : List (Hand J)) → Each (Made ids a b c) hands → all_taken hands ≡ []
idle_taken ids a b c hands all =
    none_in_all taken hands (λ k h e. let m = all k h e in ap (λ (l : List Task). l ++ flat_map taken_by h.doors.items) m.own_taken ∙ m.ways_taken)

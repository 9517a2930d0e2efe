-- The last decision that a test picks, as one decision more comes behind others.
use Rattle.std.proofs.Common.{◌≡◌, ◌≢◌, ℕ, zero, suc, ◌+◌, ◌*◌, ◌/◌, ◌%◌, ◌<◌, ◌==◌, ◌&&◌, List, [], ◌∷◌, ◌++◌, length, set, get_or, replicate, Bool, true, false, Option, None, Some, arith, inl, inr, refl, ap, sym, ◌∙◌, append_assoc, get_or-set_other, get_or-set_same, length-set, lt-ltb, le-ltb}
use Rattle.std.proofs.lemmas.Bool.{cases_eq, cases_lt, eq-eqb, ne_eqb}
use Rattle.std.proofs.lemmas.Nat.{div_below, mul-add-lt, same_from_place, div-add-mod'}
use Rattle.std.proofs.Math.Nat.{mod-lt}
use Rattle.tt_choice.specs.declared.decision.Decision.TheVariants.{Before}
use Rattle.tt_choice.specs.Kept.{sets_order}
use Rattle.std.proofs.lemmas.List.{get_or-replicate, length-replicate, append-nil}
use Rattle.tt_choice.specs.declared.decision.Decision.{Decision}
use Rattle.used_decisions.specs.declared.turn.Turn.{Turn}
use Rattle.used_decisions.specs.declared.turn.Placed.{Placed}
use Rattle.used_decisions.specs.Turns.{later_of, last_of, placed_by, placed_of}
use Rattle.used_decisions.specs.Tables.{IsTable, orders_at, order_place}

module _ (picks : Decision → Bool) (turn : Turn) where
  later_twice : (picked : Bool) (one : Turn) (last : Option Turn) → later_of picked one (Some turn) ≡ Some turn
  later_twice picked one last = refl

  -- the last one is picked
  pub last_here : (turns : List Turn) → picks turn.decision ≡ true → last_of picks (turns ++ turn ∷ []) ≡ Some turn
  last_here [] is = rw is refl
  last_here (one ∷ turns) is = rw (last_here turns is) refl

  -- or it isn't
  pub last_earlier : (turns : List Turn) → picks turn.decision ≡ false → last_of picks (turns ++ turn ∷ []) ≡ last_of picks turns
  last_earlier [] not = rw not refl
  last_earlier (one ∷ turns) not = rw (last_earlier turns not) refl

module _ (X : Type 0) (tells : Option Turn → Option X) (picks : ℕ → Decision → Bool) (count : ℕ) (turns : List Turn) (turn : Turn) where
  -- a decision that isn't about a part of the choice leaves what is told of it
  pub passed : (items : List (Option X)) → ((k : ℕ) → k < count → picks k turn.decision ≡ false) → IsTable X tells picks count items turns → IsTable X tells picks count items (turns ++ turn ∷ [])
  passed items not table = record {
    room = table.room;
    told = λ k inside. table.told k inside ∙ sym (ap tells (last_earlier (picks k) turn turns (not k inside)));
  }

  pub passed_back : (items : List (Option X)) → ((k : ℕ) → k < count → picks k turn.decision ≡ false) → IsTable X tells picks count items (turns ++ turn ∷ []) → IsTable X tells picks count items turns
  passed_back items not table = record {
    room = table.room;
    told = λ k inside. table.told k inside ∙ ap tells (last_earlier (picks k) turn turns (not k inside));
  }

  -- one that is about a part is told there
  pub told_at : (items : List (Option X)) (m : ℕ) (x : Option X) → x ≡ tells (Some turn) → (m < count → picks m turn.decision ≡ true) → ((k : ℕ) → k < count → k ≢ m → picks k turn.decision ≡ false) → IsTable X tells picks count items turns → IsTable X tells picks count (set items m x) (turns ++ turn ∷ [])
  told_at items m x is here elsewhere table = record {
    room = length-set items m x ∙ table.room;
    told = λ k inside. elim (cases_eq k m) [
      | inl same ↦
          let there : m < length items = omega (arith, inside, same, table.room) in
          let picked : picks m turn.decision ≡ true = here (omega (arith, inside, same)) in
          rw same (get_or-set_same items m x None there ∙ (is ∙ sym (ap tells (last_here (picks m) turn turns picked))))
      | inr other ↦ get_or-set_other items m k x None other ∙ (table.told k inside ∙ sym (ap tells (last_earlier (picks k) turn turns (elsewhere k inside other))))
    ];
  }

  -- and taken back by what stood there
  pub told_back : (items : List (Option X)) (m : ℕ) (x : Option X) → (m < count → x ≡ tells (last_of (picks m) turns)) → ((k : ℕ) → k < count → k ≢ m → picks k turn.decision ≡ false) → IsTable X tells picks count items (turns ++ turn ∷ []) → IsTable X tells picks count (set items m x) turns
  told_back items m x stood elsewhere table = record {
    room = length-set items m x ∙ table.room;
    told = λ k inside. elim (cases_eq k m) [
      | inl same ↦
          let there : m < length items = omega (arith, inside, same, table.room) in
          rw same (get_or-set_same items m x None there ∙ stood (omega (arith, inside, same)))
      | inr other ↦ get_or-set_other items m k x None other ∙ (table.told k inside ∙ ap tells (last_earlier (picks k) turn turns (elsewhere k inside other)))
    ];
  }

-- of no decisions nothing is told
pub told_nothing : (X : Type 0) (tells : Option Turn → Option X) (picks : ℕ → Decision → Bool) (count : ℕ) (items : List (Option X)) → tells None ≡ None → items ≡ replicate count None → IsTable X tells picks count items []
told_nothing X tells picks count items is are = record {
  room = ap length are ∙ length-replicate {A = Option X} count None;
  told = λ k inside. ap (λ (xs : List (Option X)). get_or xs k None) are ∙ (get_or-replicate {A = Option X} count k None None inside ∙ sym is);
}

-- the nodes that are placed by one decision more
pub placed_more : (turns : List Turn) (turn : Turn) → placed_of (turns ++ turn ∷ []) ≡ placed_of turns ++ placed_by turn.decision turn.level
placed_more [] turn = append-nil (placed_by turn.decision turn.level)
placed_more (one ∷ turns) turn = rw (placed_more turns turn) (sym (append_assoc (placed_by one.decision one.level) (placed_of turns) (placed_by turn.decision turn.level)))

pub placed_as : (turns : List Turn) (turn : Turn) → placed_by turn.decision turn.level ≡ [] → placed_of (turns ++ turn ∷ []) ≡ placed_of turns
placed_as turns turn none = placed_more turns turn ∙ (ap (λ (more : List Placed). placed_of turns ++ more) none ∙ append-nil (placed_of turns))

-- the two processes of a place in a square table are those whose place it is
same_place : (n p q k : ℕ) → k < n * n → p ≡ k / n → q ≡ k % n → k ≡ order_place n p q
same_place n p q k inside first second =
    let some : 0 < n = no_square n k inside in
    let row : k / n < n = div_below k n n some inside in
    let column : k % n < n = mod-lt k some in
    rw (lt-ltb p n (rw first row), lt-ltb q n (rw second column), first, second) (sym (div-add-mod' k n))
  where
    no_square : (n k : ℕ) → k < n * n → 0 < n
    no_square zero k inside = absurd (omega arith)
    no_square (suc n) k inside = omega arith

-- an order is told at the place of its processes
pub order_here : (n p q : ℕ) → order_place n p q < n * n → orders_at n (order_place n p q) (Before p q) ≡ true
order_here n p q inside = elim (cases_lt p n) [
  | inr over ↦ absurd (omega (arith, rw (le-ltb p n over) at inside))
  | inl row ↦ elim (cases_lt q n) [
    | inr over ↦ absurd (omega (arith, rw (lt-ltb p n row, le-ltb q n over) at inside))
    | inl column ↦
        let some : 0 < n = omega (arith, row) in
        let is = same_from_place p q ((p * n + q) / n) ((p * n + q) % n) n column (mod-lt (p * n + q) some) (sym (div-add-mod' (p * n + q) n)) in
        rw (lt-ltb p n row, lt-ltb q n column) (both_same p q ((p * n + q) / n) ((p * n + q) % n) is.0 is.1)
  ]
]
  where
    both_same : (p q x y : ℕ) → p ≡ x → q ≡ y → ((p == x) && (q == y)) ≡ true
    both_same p q x y first second = rw (eq-eqb p x first, eq-eqb q y second) refl

-- and nowhere else
pub order_elsewhere : (n p q k : ℕ) → k < n * n → k ≢ order_place n p q → orders_at n k (Before p q) ≡ false
order_elsewhere n p q k inside other = elim (cases_eq p (k / n)) [
  | inr apart ↦ rw (ne_eqb p (k / n) apart) refl
  | inl first ↦ elim (cases_eq q (k % n)) [
    | inr apart ↦ rw (eq-eqb p (k / n) first, ne_eqb q (k % n) apart) refl
    | inl second ↦ absurd (other (same_place n p q k inside first second))
  ]
]

-- a place that is inside a square table is that of two processes that are there
pub place_parts : (n p q : ℕ) → order_place n p q < n * n → (p < n) × (q < n) × (orders_at n (order_place n p q) ≡ sets_order p q)
place_parts n p q inside = elim (cases_lt p n) [
  | inr over ↦ absurd (omega (arith, rw (le-ltb p n over) at inside))
  | inl row ↦ elim (cases_lt q n) [
    | inr over ↦ absurd (omega (arith, rw (lt-ltb p n row, le-ltb q n over) at inside))
    | inl column ↦
        let some : 0 < n = omega (arith, row) in
        let is = same_from_place p q ((p * n + q) / n) ((p * n + q) % n) n column (mod-lt (p * n + q) some) (sym (div-add-mod' (p * n + q) n)) in
        (row, column, rw (lt-ltb p n row, lt-ltb q n column, ← is.0, ← is.1) refl)
  ]
]

-- of two processes that are there the place is inside
pub order_inside : (n p q : ℕ) → p < n → q < n → order_place n p q < n * n
order_inside n p q row column = rw (lt-ltb p n row, lt-ltb q n column) (mul-add-lt p n q n row column)

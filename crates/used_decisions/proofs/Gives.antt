-- What was given, as one step more gives a fact.
use Rattle.std.proofs.Common.{◌≡◌, ℕ, ◌*◌, ◌<◌, ◌==◌, ◌⊎◌, ◌↔◌, List, [], ◌∷◌, length, set, get_or, replicate, Bool, true, false, IsTrue, arith, inl, inr, refl, ap, sym, subst, ◌∙◌, length-set, get_or-set_same, get_or-set_other}
use Rattle.std.proofs.lemmas.Bool.{cases_eq, cases_lt, and_parts, eqb-true, false≢true}
use Rattle.std.proofs.lemmas.List.{get_or_past, get_or-replicate, length-replicate}
use Rattle.ttp_model.specs.declared.step.Step.{Step}
use Rattle.ttp_model.specs.Instance.{Instance}
use Rattle.tt_choice.specs.declared.decision.Decision.{Decision}
use Rattle.tt_choice.specs.declared.decision.Decision.TheVariants.{Before}
use Rattle.tt_choice.specs.Kept.{sets_order}
use Rattle.tt_infer.specs.Targets.{target}
use Rattle.tt_infer.specs.Shared.{IsWritten}
use Rattle.tt_infer.specs.declared.fact.Fact.{Fact}
use Rattle.tt_infer.specs.declared.fact.Fact.TheVariants.{FirstRound, LateRound, Order}
use Rattle.used_decisions.specs.Tables.{order_place, orders_at}
use Rattle.used_decisions.proofs.LastTurns.{place_parts, order_here, order_inside}
use Rattle.used_decisions.specs.declared.given.Given.{Given}
use Rattle.used_decisions.specs.Given.{gives_least, gives_greatest, gives_before}
use Rattle.used_decisions.specs.Steps.{HasFlags, IsGivenBy}

-- another fact is written: what was given of this one is what was written before
still : (Is Was Now : Type 0) → ¬ Now → Is ↔ Was → Is ↔ (Now ⊎ Was)
still Is Was Now never both = ((λ is. inr (both.0 is)), (λ some. elim some [ inl now ↦ absurd (never now) | inr was ↦ both.1 was ]))

-- a flag that is put up
flag_up : (flags : List Bool) (k j : ℕ) (Now Was : Type 0) → j < length flags → (j ≡ k → Now) → (Now → j ≡ k) → IsTrue (get_or flags j false) ↔ Was
    → IsTrue (get_or (set flags k true) j false) ↔ (Now ⊎ Was)
flag_up flags k j Now Was inside on back both = elim (cases_eq j k) [
  | inl same ↦ ((λ is. inl (on same)), (λ some. rw same (get_or-set_same flags k true false (omega (arith, inside, same)))))
  | inr other ↦ (
    (λ is. inr (both.0 (sym (get_or-set_other flags k j true false other) ∙ is))),
    (λ some. elim some [ inl now ↦ absurd (other (back now)) | inr was ↦ get_or-set_other flags k j true false other ∙ both.1 was ]),
  )
]

first_same : (m k : ℕ) → ◌≡◌ {A = Fact} (FirstRound m) (FirstRound k) → m ≡ k
first_same m k same = cc

late_same : (m k : ℕ) → ◌≡◌ {A = Fact} (LateRound m) (LateRound k) → m ≡ k
late_same m k same = cc

order_same : (p q x y : ℕ) → ◌≡◌ {A = Fact} (Order p q) (Order x y) → (p ≡ x) × (q ≡ y)
order_same p q x y same = (cc, cc)

same_order : (n p q x y : ℕ) → x < n → y < n → order_place n p q ≡ order_place n x y → (p ≡ x) × (q ≡ y)
same_order n p q x y row column same =
    let inside : order_place n x y < n * n = order_inside n x y row column in
    let here : orders_at n (order_place n p q) (Before p q) ≡ true = order_here n p q (omega (arith, inside, same)) in
    let at : orders_at n (order_place n x y) ≡ sets_order x y = (place_parts n x y inside).2 in
    let there : orders_at n (order_place n x y) (Before p q) ≡ true = subst (λ (k : ℕ). orders_at n k (Before p q) ≡ true) same here in
    let picks : sets_order x y (Before p q) ≡ true = subst (λ (test : Decision → Bool). test (Before p q) ≡ true) at there in
    let parts = and_parts (p == x) (q == y) picks in
    (eqb-true p x parts.0, eqb-true q y parts.1)

module _ (i : Instance) (given : Given) (before : List Step) (step : Step) (so : IsGivenBy i given before) where
  -- a fact that isn't given
  pub given_still : ((m : ℕ) → target i step ≡ FirstRound m → ⊥) → ((m : ℕ) → target i step ≡ LateRound m → ⊥)
      → ((p q : ℕ) → target i step ≡ Order p q → ⊥) → IsGivenBy i given (step ∷ before)
  given_still first late order = record {
    flags = so.flags;
    least =
        λ m there. still (IsTrue (gives_least given m)) (IsWritten i before (FirstRound m)) (FirstRound m ≡ target i step) (λ is. first m (sym is))
        (so.least m there);
    greatest =
        λ m there. still (IsTrue (gives_greatest given m)) (IsWritten i before (LateRound m)) (LateRound m ≡ target i step) (λ is. late m (sym is))
        (so.greatest m there);
    order =
        λ p q row column. still (IsTrue (gives_before given p q)) (IsWritten i before (Order p q)) (Order p q ≡ target i step)
        (λ is. order p q (sym is)) (so.order p q row column);
  }

  pub given_least : (m : ℕ) → FirstRound m ≡ target i step → IsGivenBy i (record given { least = set given.least m true }) (step ∷ before)
  given_least m is = record {
    flags =
        record {
          processes = so.flags.processes;
          least = length-set given.least m true ∙ so.flags.least;
          greatest = so.flags.greatest;
          before
              = so.flags.before;
        };
    least = λ k there. flag_up given.least m k (FirstRound k ≡ target i step) (IsWritten i before (FirstRound k)) (omega (arith, there, so.flags.least))
        (λ same. ap FirstRound same ∙ is) (λ now. first_same k m (now ∙ sym is)) (so.least k there);
    greatest =
        λ k there. still (IsTrue (gives_greatest given k)) (IsWritten i before (LateRound k)) (LateRound k ≡ target i step)
        (λ now. not_late k (now ∙ sym is)) (so.greatest k there);
    order =
        λ p q row column. still (IsTrue (gives_before given p q)) (IsWritten i before (Order p q)) (Order p q ≡ target i step)
        (λ now. not_order p q (now ∙ sym is)) (so.order p q row column);
  }
    where
      not_late : (k : ℕ) → ◌≡◌ {A = Fact} (LateRound k) (FirstRound m) → ⊥
      not_late k same = cc

      not_order : (p q : ℕ) → ◌≡◌ {A = Fact} (Order p q) (FirstRound m) → ⊥
      not_order p q same = cc

  pub given_greatest : (m : ℕ) → LateRound m ≡ target i step → IsGivenBy i (record given { greatest = set given.greatest m true }) (step ∷ before)
  given_greatest m is = record {
    flags =
        record {
          processes = so.flags.processes;
          least = so.flags.least;
          greatest = length-set given.greatest m true ∙ so.flags.greatest;
          before
              = so.flags.before;
        };
    least =
        λ k there. still (IsTrue (gives_least given k)) (IsWritten i before (FirstRound k)) (FirstRound k ≡ target i step)
        (λ now. not_first k (now ∙ sym is)) (so.least k there);
    greatest = λ k there. flag_up given.greatest m k (LateRound k ≡ target i step) (IsWritten i before (LateRound k)) (omega (arith, there, so.flags.greatest))
        (λ same. ap LateRound same ∙ is) (λ now. late_same k m (now ∙ sym is)) (so.greatest k there);
    order =
        λ p q row column. still (IsTrue (gives_before given p q)) (IsWritten i before (Order p q)) (Order p q ≡ target i step)
        (λ now. not_order p q (now ∙ sym is)) (so.order p q row column);
  }
    where
      not_first : (k : ℕ) → ◌≡◌ {A = Fact} (FirstRound k) (LateRound m) → ⊥
      not_first k same = cc

      not_order : (p q : ℕ) → ◌≡◌ {A = Fact} (Order p q) (LateRound m) → ⊥
      not_order p q same = cc

  order_flag : (p q x y : ℕ) → Order p q ≡ target i step → x < length i.processes → y < length i.processes
      → IsTrue (get_or (set given.before (order_place given.processes p q) true) (order_place given.processes x y) false) ↔ IsWritten i
      (step ∷ before) (Order x y)
  order_flag p q x y is row column =
      let n = given.processes in
      let first : x < n = omega (arith, row, so.flags.processes) in
      let second : y < n = omega (arith, column, so.flags.processes) in
      let square : n * n ≡ length i.processes * length i.processes = ap (λ (k : ℕ). k * k) so.flags.processes in
      let inside : order_place n x y < length given.before = omega (arith, order_inside n x y first second, square, so.flags.before) in
      flag_up given.before (order_place n p q) (order_place n x y) (Order x y ≡ target i step) (IsWritten i before (Order x y)) inside
      (λ same. let pair = same_order n p q x y first second (sym same) in (rw (pair.0, pair.1) at is))
      (λ now. let pair = order_same x y p q (now ∙ sym is) in rw (pair.0, pair.1) refl)
      (so.order x y row column)

  pub given_before : (p q : ℕ) → Order p q ≡ target i step
      → IsGivenBy i (record given { before = set given.before (order_place given.processes p q) true }) (step ∷ before)
  given_before p q is = record {
    flags =
        record {
          processes = so.flags.processes;
          least = so.flags.least;
          greatest = so.flags.greatest;
          before = length-set given.before
              (order_place given.processes p q) true ∙ so.flags.before;
        };
    least =
        λ k there. still (IsTrue (gives_least given k)) (IsWritten i before (FirstRound k)) (FirstRound k ≡ target i step)
        (λ now. not_first k (now ∙ sym is)) (so.least k there);
    greatest =
        λ k there. still (IsTrue (gives_greatest given k)) (IsWritten i before (LateRound k)) (LateRound k ≡ target i step)
        (λ now. not_late k (now ∙ sym is)) (so.greatest k there);
    order = λ x y row column. order_flag p q x y is row column;
  }
    where
      not_first : (k : ℕ) → ◌≡◌ {A = Fact} (FirstRound k) (Order p q) → ⊥
      not_first k same = cc

      not_late : (k : ℕ) → ◌≡◌ {A = Fact} (LateRound k) (Order p q) → ⊥
      not_late k same = cc

-- flags stay as many
pub flags_still : (i : Instance) (given new : Given) → new.processes ≡ given.processes → length new.least ≡ length given.least
    → length new.greatest ≡ length given.greatest → length new.before ≡ length given.before → HasFlags i given → HasFlags i new
flags_still i given new processes least greatest before has = record {
  processes = processes ∙ has.processes;
  least = least ∙ has.least;
  greatest = greatest ∙ has.greatest;
  before = before ∙ has.before;
}

-- nothing is given in front of all steps
none_up : (n k : ℕ) → IsTrue (get_or (replicate n false) k false) → ⊥
none_up n k is = elim (cases_lt k n) [
  | inl inside ↦ false≢true (sym (get_or-replicate {A = Bool} n k false false inside) ∙ is)
  | inr past ↦ false≢true (sym (get_or_past (replicate n false) k false (omega (arith, past, length-replicate {A = Bool} n false))) ∙ is)
]

nothing_up : (flags : List Bool) (n k : ℕ) → flags ≡ replicate n false → IsTrue (get_or flags k false) ↔ ⊥
nothing_up flags n k is = ((λ up. none_up n k (subst (λ (xs : List Bool). IsTrue (get_or xs k false)) is up)), (λ none. absurd none))

pub nothing_given_by : (i : Instance) (given : Given) (a b c : ℕ) → given.least ≡ replicate a false → given.greatest ≡ replicate b false
    → given.before ≡ replicate c false → HasFlags i given → IsGivenBy i given []
nothing_given_by i given a b c least greatest before has = record {
  flags = has;
  least = λ m there. nothing_up given.least a m least;
  greatest = λ m there. nothing_up given.greatest b m greatest;
  order = λ p q row column. nothing_up given.before c (order_place given.processes p q) before;
}

-- what is given is about what is there
pub least_there : (i : Instance) (given : Given) (m : ℕ) → HasFlags i given → IsTrue (gives_least given m) → m < length i.messages
least_there i given m has is =
    elim (cases_lt m (length i.messages)) [
      | inl there ↦ there
      | inr past ↦ absurd (false≢true
          (sym (get_or_past given.least m false (omega (arith, past, has.least))) ∙ is))
    ]

pub greatest_there : (i : Instance) (given : Given) (m : ℕ) → HasFlags i given → IsTrue (gives_greatest given m) → m < length i.messages
greatest_there i given m has is =
    elim (cases_lt m (length i.messages)) [
      | inl there ↦ there
      | inr past ↦ absurd (false≢true
          (sym (get_or_past given.greatest m false (omega (arith, past, has.greatest))) ∙ is))
    ]

pub order_there : (i : Instance) (given : Given) (p q : ℕ) → HasFlags i given → IsTrue (gives_before given p q)
    → (p < length i.processes) × (q < length i.processes)
order_there i given p q has is =
    let n = given.processes in
    let square : n * n ≡ length i.processes * length i.processes = ap (λ (k : ℕ). k * k) has.processes in
    elim (cases_lt (order_place n p q) (n * n)) [
      | inl inside ↦ let parts = place_parts n p q inside in (omega (arith, parts.0, has.processes), omega (arith, parts.1, has.processes))
      | inr past ↦ absurd (false≢true (sym (get_or_past given.before (order_place n p q) false (omega (arith, past, square, has.before))) ∙ is))
    ]

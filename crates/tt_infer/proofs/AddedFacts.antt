-- Facts that are added to a list, one after another.
use Rattle.std.proofs.Common.{◌≡◌, ℕ, ◌+◌, ◌<◌, ◌≤◌, ◌⊎◌, Bool, true, List, [], ◌∷◌, ◌++◌, length, slice_index, Contains, arith, inl, inr, sym, ap, subst, ◌∙◌}
use Rattle.std.proofs.lemmas.List.{get_or_default}
use Rattle.std.proofs.lemmas.List.Elements.{All-get_or, Contains-append_left, Contains-push, Contains-push_cases}
use Rattle.std.proofs.lemmas.Bool.{cases_eq}
use Rattle.ttp_model.specs.Network.{indices}
use Rattle.ttp_model.proofs.Indices.{in_indices, indices_inside}
use Rattle.tt_infer.specs.declared.fact.Fact.{Fact}
use Rattle.tt_infer.specs.Reads.{OfSome}
use Rattle.tt_infer.specs.Added.{AddsFacts}

pub adds_none : (Are : Fact → Type 0) (facts : List Fact) → ((fact : Fact) → ¬ Are fact) → AddsFacts Are facts facts
adds_none Are facts none = record { kept = λ fact is. is; told = λ fact is. absurd (none fact is); only = λ fact is. inl is }

pub adds_one : (old new : List Fact) (fact : Fact) → new ≡ old ++ fact ∷ [] → AddsFacts (λ other. other ≡ fact) old new
adds_one old new fact is = rw is (record {
  kept = λ other there. Contains-append_left old (fact ∷ []) other there;
  told = λ other same. subst (Contains (old ++ fact ∷ [])) (sym same) (Contains-push old fact);
  only = λ other there. elim (Contains-push_cases old fact other there) [ inl before ↦ inl before | inr same ↦ inr (sym same) ];
})

pub adds_both : (Are Too : Fact → Type 0) (a b c : List Fact) → AddsFacts Are a b → AddsFacts Too b c → AddsFacts (λ fact. Are fact ⊎ Too fact) a c
adds_both Are Too a b c first second = record {
  kept = λ fact is. second.kept fact (first.kept fact is);
  told = λ fact is. elim is [ inl one ↦ second.kept fact (first.told fact one) | inr other ↦ second.told fact other ];
  only = λ fact is. elim (second.only fact is) [
    | inr other ↦ inr (inr other)
    | inl earlier ↦ elim (first.only fact earlier) [ inl before ↦ inl before | inr one ↦ inr (inl one) ]
  ];
}

pub adds_as : (Are Too : Fact → Type 0) (old new : List Fact)
    → ((fact : Fact) → Are fact → Too fact) → ((fact : Fact) → Too fact → Are fact) → AddsFacts Are old new → AddsFacts Too old new
adds_as Are Too old new on back adds = record {
  kept = adds.kept;
  told = λ fact is. adds.told fact (back fact is);
  only = λ fact is. elim (adds.only fact is) [ inl before ↦ inl before | inr one ↦ inr (on fact one) ];
}

-- facts of which all are told where something is so
pub adds_where : (Is : Type 0) (Are : Fact → Type 0) (old new : List Fact) → Is → AddsFacts Are old new → AddsFacts (λ fact. Is × Are fact) old new
adds_where Is Are old new is adds = adds_as Are (λ fact. Is × Are fact) old new (λ fact one. (is, one)) (λ fact both. both.1) adds

-- and none where it isn't
pub adds_nowhere : (Is : Type 0) (Are : Fact → Type 0) (facts : List Fact) → ¬ Is → AddsFacts (λ fact. Is × Are fact) facts facts
adds_nowhere Is Are facts never = adds_none (λ fact. Is × Are fact) facts (λ fact both. never both.0)

-- of nothing yet
pub adds_first : (IsOf : ℕ → Fact → Type 0) (facts : List Fact) → AddsFacts (OfSome 0 IsOf) facts facts
adds_first IsOf facts = adds_none (OfSome 0 IsOf) facts (λ fact some. omega (arith, some.1))

-- of things numbered below a count, one more
pub adds_more : (IsOf : ℕ → Fact → Type 0) (count : ℕ) (a b c : List Fact)
    → AddsFacts (OfSome count IsOf) a b → AddsFacts (IsOf count) b c → AddsFacts (OfSome (count + 1) IsOf) a c
adds_more IsOf count a b c before one = adds_as (λ fact. OfSome count IsOf fact ⊎ IsOf count fact) (OfSome (count + 1) IsOf) a c
    (λ fact is. elim is [ inl some ↦ (some.0, omega (arith, some.1), some.2) | inr here ↦ (count, omega arith, here) ])
    (λ fact some. elim (cases_eq some.0 count) [
      | inl same ↦ inr (subst (λ (k : ℕ). IsOf k fact) same some.2)
      | inr other ↦ inl (some.0, omega (arith, some.1, other), some.2)
    ])
    (adds_both (OfSome count IsOf) (IsOf count) a b c before one)

-- and all of them
pub adds_all : (IsOf : ℕ → Fact → Type 0) (all count : ℕ) (a b : List Fact) → all ≡ count → AddsFacts (OfSome count IsOf) a b → AddsFacts (OfSome all IsOf) a b
adds_all IsOf all count a b same adds = subst (λ (k : ℕ). AddsFacts (OfSome k IsOf) a b) (sym same) adds

-- what was added of the things of a list is so of all, where the list has each of which something is so
pub adds_listed : (IsOf : ℕ → Fact → Type 0) (test : ℕ → Bool) (count k : ℕ) (list : List ℕ) (a b : List Fact) → ((x : ℕ) (fact : Fact) → x < count → IsOf x fact → test x ≡ true) → list ≡ indices test count → k ≤ length list → length list ≤ k → AddsFacts (OfSome k (λ (j : ℕ). IsOf (slice_index list j))) a b → AddsFacts (OfSome count IsOf) a b
adds_listed IsOf test count k list a b picks is within done adds = adds_as (OfSome k (λ (j : ℕ). IsOf (slice_index list j))) (OfSome count IsOf) a b
    (λ fact some.
    let there : some.0 < length (indices test count) = omega (arith, some.1, within, ap length is) in
    let at : slice_index (indices test count) some.0 ≡ slice_index list some.0 = ap (λ (xs : List ℕ). slice_index xs some.0) (sym is) in
    let known = All-get_or (λ (x : ℕ). x < count) (indices test count) some.0 0 there (indices_inside test count) in
    (slice_index list some.0, subst (λ (x : ℕ). x < count) at known, some.2))
    (λ fact some.
    let found = in_indices test count some.0 some.1 (picks some.0 fact some.1 some.2) in
    let there : found.0 < k = omega (arith, found.1, done, ap length is) in
    let at : slice_index list found.0 ≡ some.0 = ap (λ (xs : List ℕ). slice_index xs found.0) is ∙ (get_or_default (indices test count) found.0 0 some.0 found.1 ∙ found.2) in
    (found.0, there, subst (λ (x : ℕ). IsOf x fact) (sym at) some.2))
    adds

-- one fact, and another where something is so
pub adds_too : (One Other : Fact → Type 0) (Is : Type 0) (a b : List Fact)
    → Is → AddsFacts (λ fact. One fact ⊎ Other fact) a b → AddsFacts (λ fact. One fact ⊎ (Is × Other fact)) a b
adds_too One Other Is a b is adds = adds_as (λ fact. One fact ⊎ Other fact) (λ fact. One fact ⊎ (Is × Other fact)) a b
    (λ fact some. elim some [ inl one ↦ inl one | inr other ↦ inr (is, other) ])
    (λ fact some. elim some [ inl one ↦ inl one | inr both ↦ inr both.1 ])
    adds

-- and the one alone where it isn't
pub adds_just : (One Other : Fact → Type 0) (Is : Type 0) (a b : List Fact) → ¬ Is → AddsFacts One a b → AddsFacts (λ fact. One fact ⊎ (Is × Other fact)) a b
adds_just One Other Is a b never adds = adds_as One (λ fact. One fact ⊎ (Is × Other fact)) a b
    (λ fact one. inl one)
    (λ fact some. elim some [ inl one ↦ one | inr both ↦ absurd (never both.0) ])
    adds

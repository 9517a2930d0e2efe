-- Going through the words of an order line one after the other, as loops do.
use Rattle.std.proofs.Common.{◌≡◌, ◌∙◌, ℕ, ◌+◌, ◌<◌, ◌≤◌, Bool, true, false, List, [], ◌∷◌, Option, None, Some, length, get_or, inl, inr, refl, sym, ap, arith}
use Rattle.std.specs.Prelude.{find, position}
use Rattle.std.proofs.lemmas.Bool.{cases_lt}
use Rattle.ttp_model.specs.declared.error.Part.TheVariants.{Nodes}
use Rattle.ttp_model.specs.Instance.{Instance}
use Rattle.ttp_model.specs.Names.{names_in}
use Rattle.ttp_model.proofs.Named.{found_at, not_found}
use Rattle.plan_format.proofs.WordLoop.{nodes_named}
use Rattle.plan_format.specs.Reading.{words_of}
use Rattle.plan_format.specs.Words.{words_with}

-- ---- the first word that passes

pub find_more : (p : List ℕ → Bool) (text word more : List ℕ) (total : Option (List ℕ)) → words_of text ≡ word ∷ words_of more → p word ≡ false
    → find p (words_of text) ≡ total → find p (words_of more) ≡ total
find_more p text word more total is fails so_far =
    let one : find p (words_of text) ≡ find p (words_of more) = rw (is, fails) refl in
    sym one ∙ so_far

pub find_stop : (p : List ℕ → Bool) (text word : List ℕ) (next : Option (List ℕ)) (total : Option (List ℕ))
    → words_of text ≡ words_with word next → p word ≡ true
    → find p (words_of text) ≡ total → Some word ≡ total
find_stop p text word None total is passes so_far =
    let one : find p (words_of text) ≡ Some word = rw (is, passes) refl in
    sym one ∙ so_far
find_stop p text word (Some more) total is passes so_far =
    let one : find p (words_of text) ≡ Some word = rw (is, passes) refl in
    sym one ∙ so_far

pub find_last : (p : List ℕ → Bool) (text word : List ℕ) (total : Option (List ℕ)) → words_of text ≡ word ∷ [] → p word ≡ false
    → find p (words_of text) ≡ total → None ≡ total
find_last p text word total is fails so_far =
    let one : find p (words_of text) ≡ None = rw (is, fails) refl in
    sym one ∙ so_far

pub ruleset strangers_steps = (find_more, find_stop, find_last)

-- ---- the first node whose name passes

module _ (i : Instance) (p : List ℕ → Bool) (k : ℕ) (before : (j : ℕ) → j < k → p (get_or (names_in i Nodes) j []) ≡ false) where
  pub node_found : (name : List ℕ) → k < length i.nodes → name ≡ get_or (names_in i Nodes) k [] → p name ≡ true → Some k ≡ position p (names_in i Nodes)
  node_found name inside is passes =
      let there : k < length (names_in i Nodes) = omega (arith, inside, nodes_named i) in
      sym (found_at p (names_in i Nodes) k there before (ap p (sym is) ∙ passes))

  pub node_absent : length i.nodes ≤ k → None ≡ position p (names_in i Nodes)
  node_absent past = sym (not_found p (names_in i Nodes) k (omega (arith, past, nodes_named i)) before)

  pub one_more : (name : List ℕ) → name ≡ get_or (names_in i Nodes) k [] → p name ≡ false → (j : ℕ) → j < k + 1 → p (get_or (names_in i Nodes) j []) ≡ false
  one_more name is fails j below = elim (cases_lt j k) [
    | inl less ↦ before j less
    | inr at_least ↦
        let same : j ≡ k = omega (arith, below, at_least) in
        ap (λ n. p (get_or (names_in i Nodes) n [])) same ∙ (ap p (sym is) ∙ fails)
  ]

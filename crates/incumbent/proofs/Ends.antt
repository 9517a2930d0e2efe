-- With no other watch left, the word is the least of the first value and of all offers.
use Rattle.std.proofs.Common.{◌≡◌, ℕ, ◌+◌, ◌^◌, ◌<◌, ◌≤◌, ⊎_elim, Bool, true, false, List, [], ◌∷◌, set, sym, refl, ap, ◌∙◌, subst, cond, Contains, arith}
use native.Mathlib.Decide.{ℕ_discrete}
use Rattle.std.proofs.lemmas.List.Elements.{All-append, Contains-append_right}
use mathlib.Core.Option.{some, some-injective}
use lib.ListN.{get_elem?}
use Rattle.atomic_table.specs.Table.{State, Final, Seen}
use Rattle.atomic_table.proofs.Lists.{set_else}
use Rattle.incumbent.specs.declared.word.View.{View}
use Rattle.incumbent.specs.Watch.{IsLeast}
use Rattle.incumbent.specs.Word.{Kept, BelowAll, live_count, spent}
use Rattle.incumbent.proofs.Views.{one_above, total_set, weight_le, weight_of}

weightless : (b : Bool) → cond {A = ℕ} b 1 0 ≡ 0 → b ≡ false
weightless true e = absurd (omega arith)
weightless false e = refl

nothing_there : (xs : List ℕ) (n : ℕ) → xs ≡ [] → ¬ Contains xs n
nothing_there xs n e c = let h : Contains [] n = subst (λ (ys : List ℕ). Contains ys n) e c in let k = h.0 in let small : k < 0 = h.1 in omega arith

-- with no other watch left, the opening one has offered what the word is, or the word is the first value
pub closes : (top id : ℕ) (v : View) (s : State (Unit {0}) View) → v.opening ≡ true → v.live ≡ true → v.out ≡ 0 → Kept top s → get_elem? s.views id ≡ some v
    → (n : ℕ) × (s.words ≡ n ∷ []) × (n < 2 ^ 32) × BelowAll n v × (n ≤ top) × Contains (top ∷ v.offers) n
closes top id v s is_opening live none_out h at = (
  h.word,
  h.is,
  h.fits,
  (h.each id v at).below,
  h.at_most,
  ⊎_elim (λ e. (0, omega arith, sym e)) (λ (x : (port : ℕ) × (u : View) × (get_elem? s.views port ≡ some u) × Contains u.offers h.word).
      Contains-append_right (top ∷ []) v.offers h.word (mine x.0 x.1 x.2 x.3 (ℕ_discrete x.0 id))) h.reached,
) where
  mine : (p : ℕ) (u : View) → get_elem? s.views p ≡ some u → Contains u.offers h.word → Dec (p ≡ id) → Contains v.offers h.word
  mine p u there has (yes e) = subst (λ (x : View). Contains x.offers h.word) (some-injective u v (sym there ∙ ap (get_elem? s.views) e ∙ at)) has
  mine p u there has (no apart) =
      let ws = set s.views p spent in
      let less : live_count ws + weight_of u ≡ live_count s.views + 0 = total_set s.views p u spent there in
      let all : live_count s.views ≡ v.out + 1 = ((h.each id v at).opening is_opening).1 in
      let one : weight_of v ≡ 1 = ap (λ (k : Bool). cond k 1 0) live in
      let le : weight_of v ≤ live_count ws = weight_le ws id v (set_else s.views p id spent (λ e. apart (sym e)) ∙ at) in
      let zero_weight : weight_of u ≡ 0 = omega arith in
      absurd (nothing_there u.offers h.word ((h.each p u there).ended (weightless u.live zero_weight)) has)

-- what the table ends with
pub ends : (top id : ℕ) (v : View) (words : List ℕ) (slots : List (Unit {0})) (r : ℕ) → v.opening ≡ true → v.live ≡ true → v.out ≡ 0
    → Final (Seen (Kept top) id v) words slots → get_elem? words 0 ≡ some r → IsLeast (top ∷ v.offers) r
ends top id v words slots r is_opening live none_out last found =
    let end = closes top id v last.0 is_opening live none_out last.1.0 last.1.1 in
    let n : ℕ = end.0 in
    let is : words ≡ n ∷ [] = sym last.2 ∙ end.1 in
    let same : n ≡ r = some-injective n r (ap (λ (ws : List ℕ). get_elem? ws 0) (sym is) ∙ found) in
    subst (λ (k : ℕ). IsLeast (top ∷ v.offers) k) same (end.5, All-append (λ (y : ℕ). n ≤ y) (top ∷ []) v.offers (one_above n top end.4) end.3.offers)

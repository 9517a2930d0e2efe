-- Flags by counts, as one is put up and all are taken down.
use Rattle.std.proofs.Common.{◌≡◌, ◌≢◌, ℕ, zero, suc, ◌+◌, ◌<◌, ◌≤◌, ◌==◌, List, ◌∷◌, length, set, get_or, replicate, Bool, true, false, arith, refl, ap, sym, ◌∙◌}
use Rattle.std.proofs.lemmas.Bool.{eq-eqb, ne_eqb}
use Rattle.std.proofs.lemmas.List.{map-set, get_or-map, get_or_past, length-map, length-replicate, get_or-replicate, same_lists}
use Rattle.std.proofs.lemmas.List.Elements.{All-get_or, All-from_get_or}
use Rattle.used_decisions.specs.Flags.{AreUpTo, up_at}

-- none is up whose count is another one
pub none_up : (count : ℕ) (counts : List ℕ) → ((k : ℕ) → k < length counts → get_or counts k 0 ≢ count) → up_at count counts ≡ replicate (length counts) false
none_up count counts other = same_lists (up_at count counts) (replicate (length counts) false)
    (length-map counts (λ (x : ℕ). x == count) ∙ sym (length-replicate {A = Bool} (length counts) false))
    (λ k d inside.
    let there : k < length counts = omega (arith, inside, length-map counts (λ (x : ℕ). x == count)) in
    get_or-map (λ (x : ℕ). x == count) counts k 0 d there ∙ ne_eqb _ _ (other k there) ∙ sym (get_or-replicate {A = Bool} (length counts) k false d there))

pub none_up_first : (n : ℕ) → up_at 1 (replicate n 0) ≡ replicate n false
none_up_first zero = refl
none_up_first (suc n) = ap (λ (xs : List Bool). false ∷ xs) (none_up_first n)

pub none_up_later : (count : ℕ) (counts : List ℕ) → AreUpTo count counts → up_at (count + 1) counts ≡ replicate (length (up_at count counts)) false
none_up_later count counts are =
    none_up (count + 1) counts (λ k inside same. omega (arith, same, All-get_or (λ (x : ℕ). x ≤ count) counts k 0 inside are.within))
    ∙ ap (λ (n : ℕ). replicate n false) (sym (length-map counts (λ (x : ℕ). x == count)))

pub up_to_later : (count : ℕ) (counts : List ℕ) → AreUpTo count counts → AreUpTo (count + 1) counts
up_to_later count counts are = record {
  some = omega arith;
  within = All-from_get_or (λ (x : ℕ). x ≤ count + 1) counts 0 (λ k inside. omega (arith, All-get_or (λ (x : ℕ). x ≤ count) counts k 0 inside are.within));
}

pub up_to_first : (n : ℕ) → AreUpTo 1 (replicate n 0)
up_to_first n = record {
  some = omega arith;
  within =
      All-from_get_or (λ (x : ℕ). x ≤ 1) (replicate n 0) 0 (λ k inside. omega (
        arith,
        get_or-replicate {A = ℕ} n k 0 0
            (omega (arith, inside, length-replicate {A = ℕ} n 0)),
      ));
}

-- one is put up
pub one_up : (count k : ℕ) (counts : List ℕ) → up_at count (set counts k count) ≡ set (up_at count counts) k true
one_up count k counts = map-set (λ (x : ℕ). x == count) counts k count ∙ ap (λ (b : Bool). set (up_at count counts) k b) (eq-eqb count count refl)

pub is_up_there : (count k x : ℕ) (counts : List ℕ) → k < length counts → x ≡ get_or counts k x → (x == count) ≡ get_or (up_at count counts) k false
is_up_there count k x counts there is = ap (λ (y : ℕ). y == count) is ∙ sym (get_or-map (λ (y : ℕ). y == count) counts k x false there)

pub none_is_up : (count k : ℕ) (counts : List ℕ) → length counts ≤ k → false ≡ get_or (up_at count counts) k false
none_is_up count k counts past = sym (get_or_past (up_at count counts) k false (omega (arith, past, length-map counts (λ (x : ℕ). x == count))))

-- each count is forgotten
pub record AreForgotten (old new : List ℕ) (count : ℕ) : Type 0 where
  pub room : length new ≡ length old
  pub gone : (k : ℕ) → k < count → get_or new k 0 ≡ 0

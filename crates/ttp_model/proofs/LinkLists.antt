-- A link from one process to another, among those that lead from the first.
use Rattle.std.proofs.Common.{◌≡◌, ◌≢◌, ℕ, ◌<◌, ◌==◌, true, List, length, slice_index, arith, inl, inr, sym, ap, ◌∙◌}
use Rattle.std.proofs.lemmas.Bool.{false≢true}
use Rattle.std.proofs.lemmas.Bool.Decides.{eqb_tells}
use Rattle.std.proofs.lemmas.List.{get_or_default}
use Rattle.std.proofs.lemmas.List.Elements.{All-get_or}
use Rattle.ttp_model.specs.Instance.{Instance, link_at}
use Rattle.ttp_model.specs.Graph.{HasLink}
use Rattle.ttp_model.specs.Network.{leads_from, links_from}
use Rattle.ttp_model.proofs.Indices.{picked, in_indices, indices_inside}

same_from_test : (a b : ℕ) → (a == b) ≡ true → a ≡ b
same_from_test a b is = elim (eqb_tells a b) [ inl same ↦ same.1 | inr other ↦ absurd (false≢true (sym other.0 ∙ is)) ]

test_of_same : (a b : ℕ) → a ≡ b → (a == b) ≡ true
test_of_same a b same = elim (eqb_tells a b) [ inl is ↦ is.0 | inr other ↦ absurd (other.1 same) ]

-- one of the list that leads to q
pub HasLink-at : (i : Instance) (p q : ℕ) (list : List ℕ) (k : ℕ) → list ≡ links_from i p → k < length list → (link_at i (slice_index list k)).after ≡ q → HasLink i p q
HasLink-at i p q list k is inside leads =
    let there : k < length (links_from i p) = omega (arith, inside, ap length is) in
    let at : slice_index list k ≡ slice_index (links_from i p) k = ap (λ (xs : List ℕ). slice_index xs k) is in
    record {
      link = slice_index (links_from i p) k;
      is_there = All-get_or (λ (l : ℕ). l < length i.links) (links_from i p) k 0 there (indices_inside (leads_from i p) (length i.links));
      before = same_from_test _ p (picked (leads_from i p) (length i.links) k there);
      after = ap (λ (l : ℕ). (link_at i l).after) (sym at) ∙ leads;
    }

-- none of the list does
pub no_link_in : (i : Instance) (p q : ℕ) (list : List ℕ) → list ≡ links_from i p → ((k : ℕ) → k < length list → (link_at i (slice_index list k)).after ≢ q) → ¬ HasLink i p q
no_link_in i p q list is none = λ link.
    let found = in_indices (leads_from i p) (length i.links) link.link link.is_there (test_of_same _ p link.before) in
    let there : found.0 < length list = omega (arith, found.1, ap length is) in
    let at : slice_index list found.0 ≡ link.link = ap (λ (xs : List ℕ). slice_index xs found.0) is ∙ (get_or_default (links_from i p) found.0 0 link.link found.1 ∙ found.2) in
    none found.0 there (ap (λ (l : ℕ). (link_at i l).after) at ∙ link.after)

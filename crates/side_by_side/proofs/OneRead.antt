-- What is read of one of several certificates, and how far it is passed.
use Rattle.std.proofs.Common.{◌≡◌, ℕ, ◌+◌, ◌<◌, ◌≤◌, List, [], ◌∷◌, ◌++◌, length, slice_index_or, slice_set, Bool, false, arith, inl, inr, sym, subst}
use Rattle.std.proofs.lemmas.Bool.{cases_eq}
use Rattle.std.proofs.lemmas.List.{get_or_read, get_or_push, get_or_append_left, get_or-set_same, get_or-set_other}
use Rattle.certificate.specs.Trees.{IsTree}
use Rattle.certificate.specs.Cert.{Cert}
use Rattle.side_by_side.specs.declared.side.Side.{Side}
use Rattle.side_by_side.specs.Joined.{no_certificate, certificate_at, own_trees}
use Rattle.side_by_side.specs.Found.{side_at}
use Rattle.side_by_side.specs.Passing.{flag_at}

pub certificate_read : (certs : List Cert) (k : ℕ) (cert : Cert) → k < length certs → cert ≡ slice_index_or certs k cert → cert ≡ certificate_at certs k
certificate_read certs k cert inside here = get_or_read certs k cert inside here no_certificate

pub side_read : (sides : List Side) (k : ℕ) (side : Side) → k < length sides → side ≡ slice_index_or sides k side → side ≡ side_at sides k
side_read sides k side inside here = get_or_read sides k side inside here (record { passed = 0; level = 0 })

-- ---- one flag more

pub flag_more : (P : ℕ → Bool → Type 0) (flags : List Bool) (k : ℕ) (flag : Bool) → length flags ≡ k → ((j : ℕ) → j < k → P j (flag_at flags j))
    → P k flag → (j : ℕ) → j < k + 1 → P j (flag_at (flags ++ flag ∷ []) j)
flag_more P flags k flag count each last j inside = elim (cases_eq j k) [
  | inl same ↦ subst (λ (n : ℕ). P n (flag_at (flags ++ flag ∷ []) n)) (sym same)
      (subst (P k) (sym (get_or_push flags flag false k count)) last)
  | inr other ↦
      let before : j < k = omega (arith, inside, other) in
      subst (P j) (sym (get_or_append_left flags (flag ∷ []) false j (omega (arith, before, count)))) (each j before)
]

-- ---- one certificate more is passed

pub passed_more : (P : ℕ → Side → Type 0) (sides : List Side) (k : ℕ) (side : Side) → k < length sides → ((j : ℕ) → j < k → P j (side_at sides j)) → P k side
    → (j : ℕ) → j < k + 1 → P j (side_at (slice_set sides k side) j)
passed_more P sides k side there each last j inside =
    let start : Side = record { passed = 0; level = 0 } in
    elim (cases_eq j k) [
      | inl same ↦ subst (λ (n : ℕ). P n (side_at (slice_set sides k side) n)) (sym same) (subst (P k) (sym (get_or-set_same sides k side start there)) last)
      | inr other ↦ subst (P j) (sym (get_or-set_other sides k j side start other)) (each j (omega (arith, inside, other)))
    ]

pub others_stay : (sides : List Side) (k : ℕ) (side : Side) (j : ℕ) → k + 1 ≤ j → side_at (slice_set sides k side) j ≡ side_at sides j
others_stay sides k side j behind =
    get_or-set_other sides k j side (record { passed = 0; level = 0 }) (λ same. absurd (omega (arith, same, behind)))

-- ---- one side more, in front of a certificate's first node

pub side_more : (P : ℕ → Side → Type 0) (sides : List Side) (k : ℕ) (side : Side) → length sides ≡ k → ((j : ℕ) → j < k → P j (side_at sides j))
    → P k side → (j : ℕ) → j < k + 1 → P j (side_at (sides ++ side ∷ []) j)
side_more P sides k side count each last j inside =
    let start : Side = record { passed = 0; level = 0 } in
    elim (cases_eq j k) [
      | inl same ↦ subst (λ (n : ℕ). P n (side_at (sides ++ side ∷ []) n)) (sym same) (subst (P k) (sym (get_or_push sides side start k count)) last)
      | inr other ↦
          let before : j < k = omega (arith, inside, other) in
          subst (P j) (sym (get_or_append_left sides (side ∷ []) start j (omega (arith, before, count)))) (each j before)
    ]

pub tree_more : (certs : List Cert) (k : ℕ) (cert : Cert) → k < length certs → cert ≡ slice_index_or certs k cert
    → ((j : ℕ) → j < k → IsTree (own_trees certs j)) → IsTree cert.tree → (j : ℕ) → j < k + 1 → IsTree (own_trees certs j)
tree_more certs k cert inside here each last j within = elim (cases_eq j k) [
  | inl same ↦
      subst (λ (n : ℕ). IsTree (own_trees certs n)) (sym same) (subst (λ (one : Cert). IsTree one.tree) (certificate_read certs k cert inside here) last)
  | inr other ↦ each j (omega (arith, within, other))
]

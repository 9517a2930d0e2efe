-- Leaves that wait with steps that aren't read yet: one more, and what judging them answers.
use Rattle.std.proofs.Common.{◌≡◌, ◌⊎◌, List, [], ◌∷◌, ◌++◌, Ok, Err, inl, inr, refl, ap}
use Rattle.ttp_model.specs.declared.step.Step.{Step}
use Rattle.certificate.specs.declared.fault.CertTextError.{CertTextError}
use Rattle.cert_check.specs.declared.leaves.HeldLeaf.{HeldLeaf}
use Rattle.tree_check.specs.Seen.{ReadLeaf}
use Rattle.cert_check.specs.Waiting.{steps_of, leaf_with, AreRead, IsUnread}

-- ---- one more

-- the leaves that were read before the last, and the last
pub read_last : (hs : List HeldLeaf) (h : HeldLeaf) (rs : List ReadLeaf) → AreRead (hs ++ h ∷ []) rs
    → (before : List ReadLeaf) × (steps : List Step) × ((rs ≡ before ++ leaf_with h steps ∷ []) × (AreRead hs before × (steps_of h ≡ Ok steps)))
read_last [] h [] are = absurd are
read_last [] h (r ∷ []) are = ([], are.0.0, (ap (λ (x : ReadLeaf). x ∷ []) are.0.1.1, (tt, are.0.1.0)))
read_last [] h (r ∷ other ∷ rs) are = absurd are.1
read_last (first ∷ hs) h [] are = absurd are
read_last (first ∷ hs) h (r ∷ rs) are =
    let others = read_last hs h rs are.1 in
    (r ∷ others.0, others.1, (ap (λ (xs : List ReadLeaf). r ∷ xs) others.2.0, ((are.0, others.2.1.0), others.2.1.1)))

-- the first fault of the text is one of those before the last, or where they are read, of the last
pub unread_last : (hs : List HeldLeaf) (h : HeldLeaf) (fault : CertTextError) → IsUnread (hs ++ h ∷ []) fault
    → IsUnread hs fault ⊎ (((rs : List ReadLeaf) × AreRead hs rs) × (steps_of h ≡ Err fault))
unread_last [] h fault is = elim is [
  | inl own ↦ inr (([], tt), own)
  | inr later ↦ absurd later.1
]
unread_last (first ∷ hs) h fault is = elim is [
  | inl own ↦ inl (inl own)
  | inr later ↦ elim (unread_last hs h fault later.1) [
    | inl before ↦ inl (inr (later.0, before))
    | inr last ↦ inr ((leaf_with first later.0.0 ∷ last.0.0, ((later.0.0, (later.0.1, refl)), last.0.1)), last.1)
  ]
]

-- One certificate more of those that readers give, and which one is refused.
use Rattle.std.proofs.Common.{◌≡◌, ℕ, zero, suc, ◌+◌, ◌<◌, List, [], ◌∷◌, ◌++◌, length, map, take, drop, set, slice_index_or, Option, Some, IfSome, arith, add-one, refl, ap, ◌∙◌}
use Rattle.std.proofs.lemmas.List.{drop-set-lt, drop_more, get_or-drop}
use Rattle.certificate.specs.Cert.{Cert}
use Rattle.command_streams.specs.declared.ending.Fault.{Fault}
use Rattle.command_streams.specs.declared.ending.Fault.TheVariants.{Memory}
use Rattle.plan_commands.specs.Given.{AreCertificates, IsUnread, IsUnreadText, SpellsWithin, end_at}

-- lists with the same rest have the same element there
same_there : {R : Type 0} (xs ys : List R) (k : ℕ) (x : R) → drop k xs ≡ drop k ys → slice_index_or xs k x ≡ slice_index_or ys k x
same_there xs ys k x same =
    let k_is : k + 0 ≡ k = omega arith in
    let one : slice_index_or (drop k xs) 0 x ≡ slice_index_or xs k x = rw k_is at (get_or-drop k xs 0 x) in
    let other : slice_index_or (drop k ys) 0 x ≡ slice_index_or ys k x = rw k_is at (get_or-drop k ys 0 x) in
    cc

-- what is left behind the next element, whatever stands in its place
pub rest_next : {R : Type 0} (xs ys : List R) (k : ℕ) (y : R) → k < length ys → length xs ≡ length ys → drop k xs ≡ drop k ys
    → drop (k + 1) (set xs k y) ≡ drop (k + 1) ys
rest_next xs ys k y inside count same =
    let kept = drop-set-lt (k + 1) xs k y (omega arith) in
    let own = drop_more xs k y (omega arith) in
    let other = drop_more ys k y inside in
    cc

-- the end at the first text that gives no certificate
unread_at : (texts : List (List ℕ)) (k : ℕ) (certs : List Cert) (fault : Fault) → k < length texts → AreCertificates (take k texts) certs
    → IsUnreadText (slice_index_or texts k []) fault → IsUnread texts (end_at k fault)
unread_at texts k certs Memory inside are unread = tt
unread_at texts k certs fault inside are unread = record { inside = inside; certs = certs; before = are; unread = unread }

-- one certificate more
certificates_more : (texts : List (List ℕ)) (k : ℕ) (certs : List Cert) (cert : Cert) → k < length texts → AreCertificates (take k texts) certs
    → SpellsWithin (slice_index_or texts k []) cert → AreCertificates (take (suc k) texts) (certs ++ cert ∷ [])
certificates_more [] k certs cert inside are spells = absurd (omega (arith, inside))
certificates_more (text ∷ texts) zero [] cert inside are spells = (spells, tt)
certificates_more (text ∷ texts) zero (first ∷ certs) cert inside are spells = absurd are
certificates_more (text ∷ texts) (suc k) [] cert inside are spells = absurd are
certificates_more (text ∷ texts) (suc k) (first ∷ certs) cert inside are spells =
    (are.0, certificates_more texts k certs cert (omega (arith, inside)) are.1 spells)

module _ {R : Type 0} (remaining : R → Option (List ℕ)) where
  -- as many texts as readers
  same_count : (readers : List R) (texts : List (List ℕ)) → map remaining readers ≡ map Some texts → length readers ≡ length texts
  same_count [] [] is = refl
  same_count [] (text ∷ texts) is = cc
  same_count (reader ∷ readers) [] is = cc
  same_count (reader ∷ readers) (text ∷ texts) is =
      let rest : map remaining readers ≡ map Some texts = cc in
      ap suc (same_count readers texts rest)

  -- the bytes of the reader of a number
  bytes_there : (readers : List R) (texts : List (List ℕ)) (k : ℕ) (x : R) → map remaining readers ≡ map Some texts → k < length readers
      → remaining (slice_index_or readers k x) ≡ Some (slice_index_or texts k [])
  bytes_there [] texts k x is inside = absurd (omega (arith, inside))
  bytes_there (first ∷ readers) [] k x is inside = cc
  bytes_there (first ∷ readers) (text ∷ texts) zero x is inside = cc
  bytes_there (first ∷ readers) (text ∷ texts) (suc k) x is inside =
      let rest : map remaining readers ≡ map Some texts = cc in
      bytes_there readers texts k x rest (omega (arith, inside))

  -- the bytes of the next reader, of which none is taken
  bytes_next : (old readers : List R) (texts : List (List ℕ)) (k : ℕ) (x : R) → map remaining old ≡ map Some texts → k < length old
      → drop k readers ≡ drop k old → remaining (slice_index_or readers k x) ≡ Some (slice_index_or texts k [])
  bytes_next old readers texts k x is inside same = ap remaining (same_there readers old k x same) ∙ bytes_there old texts k x is inside

  -- the end where the next reader gives no certificate
  pub unread_next : (old readers : List R) (texts : List (List ℕ)) (k : ℕ) (x : R) (certs : List Cert) (fault : Fault)
      → map remaining old ≡ map Some texts → k < length old → drop k readers ≡ drop k old → AreCertificates (take k texts) certs
      → IfSome (remaining (slice_index_or readers k x)) (λ bytes. IsUnreadText bytes fault) → IsUnread texts (end_at k fault)
  unread_next old readers texts k x certs fault is inside same are unread =
      let bytes = bytes_next old readers texts k x is inside same in
      let count = same_count old texts is in
      let there : IsUnreadText (slice_index_or texts k []) fault = rw bytes at unread in
      unread_at texts k certs fault (omega arith) are there

  -- one certificate more, where the next reader gives one
  pub certificates_next : (old readers : List R) (texts : List (List ℕ)) (k : ℕ) (x : R) (certs more : List Cert) (cert : Cert)
      → map remaining old ≡ map Some texts → k < length old → drop k readers ≡ drop k old → AreCertificates (take k texts) certs
      → IfSome (remaining (slice_index_or readers k x)) (λ bytes. SpellsWithin bytes cert) → more ≡ certs ++ cert ∷ []
      → AreCertificates (take (k + 1) texts) more
  certificates_next old readers texts k x certs more cert is inside same are spells more_is =
      let bytes = bytes_next old readers texts k x is inside same in
      let count = same_count old texts is in
      let there : SpellsWithin (slice_index_or texts k []) cert = rw bytes at spells in
      rw (more_is, add-one) (certificates_more texts k certs cert (omega arith) are there)

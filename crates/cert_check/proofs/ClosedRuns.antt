-- Which runs threads have closed.
use Rattle.std.proofs.Common.{◌≡◌, ℕ, ◌++◌, ◌⊎◌, Bool, true, false, IsTrue, List, All, Contains, replicate, inl, inr, sym, subst, ◌∙◌}
use Rattle.std.proofs.Math.ListN.{set}
use Rattle.std.proofs.lemmas.Bool.{cases_eq, false≢true}
use Rattle.std.proofs.lemmas.List.{get_or-set_other, get_or-replicate}
use Rattle.std.proofs.lemmas.List.Elements.{All-append}
use Rattle.cert_check.specs.Waiting.{MarksOnly}

pub none_marked : (places : List ℕ) (count : ℕ) → MarksOnly places count (replicate count false)
none_marked places count k lt is = absurd (false≢true (sym (get_or-replicate count k false false lt) ∙ is))

pub one_marked : (places : List ℕ) (count place : ℕ) (marks : List Bool) → MarksOnly places count marks → Contains places place
    → MarksOnly places count (set marks place true)
one_marked places count place marks only is k lt marked = elim (cases_eq k place) [
  | inl same ↦ subst (Contains places) (sym same) is
  | inr other ↦ only k lt (subst IsTrue (get_or-set_other marks place k true false other) marked)
]

-- what holds of the places that two threads closed holds of those that are kept
pub all_of_both : (P : ℕ → Type 0) (places others both : List ℕ) → All P places → All P others → (both ≡ places ++ others) ⊎ (both ≡ places) → All P both
all_of_both P places others both all more is = elim is [
  | inl whole ↦ subst (All P) (sym whole) (All-append P places others all more)
  | inr own ↦ subst (All P) (sym own) all
]

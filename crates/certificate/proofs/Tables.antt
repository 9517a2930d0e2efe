-- What has a keyword, of all that can be said with some numbers; and what can be said of each line.
use Rattle.std.proofs.Common.{◌≡◌, ℕ, ◌<◌, ◌≤◌, Bool, true, false, cond, List, [], ◌∷◌, length, Option, Some, refl, sym, ap, subst, arith}
use Rattle.std.specs.Prelude.{bytes_eq, nat_lt, ◌==◌}
use Rattle.std.specs.List.{list_all}
use Rattle.std.proofs.lemmas.Bool.{eqb-true}
use Rattle.std.proofs.lemmas.Slice.Eq.{bytes_eq-Decides}
use Rattle.ttp_model.specs.declared.step.Kind.{Kind}
use Rattle.ttp_model.specs.declared.step.Kind.TheVariants.{Place, Chan}
use Rattle.ttp_model.specs.Kinds.{children_of}
use Rattle.ttp_model.specs.declared.step.Step.{Step}
use Rattle.ttp_model.specs.declared.step.Step.TheVariants.{XCycle}
use Rattle.certificate.specs.declared.branch.Branch.{Branch}
use Rattle.certificate.specs.declared.head.Head.{Head}
use Rattle.certificate.specs.declared.head.Head.TheVariants.{OfBranch, OfLeaf}
use Rattle.certificate.specs.Branch.{branch_of}
use Rattle.certificate.specs.Words.{Words, low_words, lows_with, head_words, heads_with, step_words, IsLong, steps_with}
use Rattle.certificate.specs.Reading.{with_keyword}
use Rattle.certificate.proofs.Branches.{branch_of-same, branch_again}

-- a fact of each, one after another
abbrev pub Each : {A : Type 0} → (A → Type 0) → List A → Type 0
Each P [] = Unit {0}
Each P (x ∷ xs) = P x × Each P xs

module _ {A : Type 0} (words : A → Words) (P : A → Type 0) (keyword : List ℕ) where
  picked : (y : A) (b : Bool) (others : Option A) (x : A) → bytes_eq keyword (words y).0 ≡ b → P y → (others ≡ Some x → (keyword ≡ (words x).0) × P x) → cond b (Some y) others ≡ Some x → (keyword ≡ (words x).0) × P x
  picked y true others x test p more e =
      let is : y ≡ x = cc in
      subst (λ (z : A). (keyword ≡ (words z).0) × P z) is ((bytes_eq-Decides keyword (words y).0).0 test, p)
  picked y false others x test p more e = more e

  -- what was found has the keyword, and the fact of each
  pub found_by : (all : List A) (x : A) → Each P all → with_keyword words keyword all ≡ Some x → (keyword ≡ (words x).0) × P x
  found_by [] x each e = absurd cc
  found_by (y ∷ ys) x each e = picked y (bytes_eq keyword (words y).0) (with_keyword words keyword ys) x refl each.0 (found_by ys x each.1) e

-- each byte comes behind the space
abbrev pub is_keyword : List ℕ → Bool
is_keyword keyword = list_all (λ c. nat_lt 32 c) keyword

-- what is needed of a line that is to be read again
pub record IsSayable {A : Type 0} (words : A → Words) (all_with : List ℕ → List A) (x : A) : Type 0 where
  pub keyword : is_keyword (words x).0 ≡ true
  pub some : 0 < length (words x).1
  pub again : with_keyword words (words x).0 (all_with (words x).1) ≡ Some x

some_of : (n : ℕ) (ns : List ℕ) → 0 < length (n ∷ ns)
some_of n ns = omega arith

-- ---- the line of the bound

pub lows_said : (ns : List ℕ) → Each (λ low. ((low_words low).1 ≡ ns) × Unit {0}) (lows_with ns)
lows_said [] = tt
lows_said (n ∷ []) = ((refl, tt), tt)
lows_said (n ∷ m ∷ ns) = tt

pub low_sayable : (low : ℕ) → IsSayable low_words lows_with low
low_sayable low = record { keyword = refl; some = some_of low []; again = refl }

-- ---- the lines of nodes

channel_said : (m k : ℕ) (three : Bool) → (k == 3) ≡ three
    → Each (λ head. ((head_words head).1 ≡ m ∷ k ∷ []) × Unit {0}) (cond three (OfBranch (branch_of (Chan m) 3) ∷ []) [])
channel_said m k true is = ((ap (λ (n : ℕ). m ∷ n ∷ []) (sym (eqb-true k 3 is)), tt), tt)
channel_said m k false is = tt

pub heads_said : (ns : List ℕ) → Each (λ head. ((head_words head).1 ≡ ns) × Unit {0}) (heads_with ns)
heads_said [] = tt
heads_said (k ∷ []) = assumption
heads_said (a ∷ b ∷ []) = let channels = channel_said a b (b == 3) refl in assumption
heads_said (a ∷ b ∷ c ∷ ns) = tt

abbrev said : Branch → Option Head
said branch = Some (OfBranch branch)

-- the count that a line says, or that its kind always has, is that of the branch
branch_sayable : (kind : Kind) (options : ℕ) → IsSayable head_words heads_with (OfBranch (branch_of kind options))
branch_sayable Place k = record { keyword = refl; some = omega arith; again = refl }
branch_sayable kind k =
    record { keyword = refl; some = omega arith; again = ap said (branch_of-same kind (children_of kind k) k refl) }

pub head_sayable : (head : Head) → IsSayable head_words heads_with head
head_sayable (OfBranch branch) = subst (λ (b : Branch). IsSayable head_words heads_with (OfBranch b)) (branch_again branch) (branch_sayable branch.kind branch.children)
head_sayable (OfLeaf g k) = record { keyword = refl; some = some_of g (k ∷ []); again = refl }

-- ---- the lines of steps

two : (a b : ℕ) (more : List ℕ) → 2 ≤ length (a ∷ b ∷ more)
two a b more = omega arith

pub steps_said : (ns : List ℕ) → Each (λ step. ((step_words step).1 ≡ ns) × IsLong step) (steps_with ns)
steps_said [] = tt
steps_said (a ∷ []) = let one = some_of a [] in assumption
steps_said (a ∷ b ∷ []) = let one = some_of a (b ∷ []) in let long = two a b [] in assumption
steps_said (a ∷ b ∷ c ∷ []) = let one = some_of a (b ∷ c ∷ []) in let long = two a b (c ∷ []) in assumption
steps_said (a ∷ b ∷ c ∷ d ∷ []) = let one = some_of a (b ∷ c ∷ d ∷ []) in let long = two a b (c ∷ d ∷ []) in assumption
steps_said (a ∷ b ∷ c ∷ d ∷ e ∷ ns) = let long = two a b (c ∷ d ∷ e ∷ ns) in assumption

-- a ring can be said where it is long enough, and each other step, since no two have one keyword
pub step_sayable : (step : Step) → IsLong step → IsSayable step_words steps_with step
step_sayable (XCycle []) long = absurd (omega arith)
step_sayable (XCycle (p ∷ [])) long = absurd (omega arith)
step_sayable (XCycle (p ∷ q ∷ [])) long = record { keyword = refl; some = some_of p (q ∷ []); again = refl }
step_sayable (XCycle (p ∷ q ∷ r ∷ [])) long = record { keyword = refl; some = some_of p (q ∷ r ∷ []); again = refl }
step_sayable (XCycle (p ∷ q ∷ r ∷ s ∷ [])) long = record { keyword = refl; some = some_of p (q ∷ r ∷ s ∷ []); again = refl }
step_sayable (XCycle (p ∷ q ∷ r ∷ s ∷ t ∷ ps)) long = record { keyword = refl; some = some_of p (q ∷ r ∷ s ∷ t ∷ ps); again = refl }
step_sayable step long = record { keyword = refl; some = omega arith; again = refl }

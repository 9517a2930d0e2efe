-- What a watch has seen and offered after it looked, and after it offered.
use Rattle.std.proofs.Common.{◌≡◌, ℕ, ◌≤◌, List, [], ◌∷◌, ◌++◌, All, Contains, refl, sym, ◌∙◌, subst, arith}
use Rattle.std.proofs.lemmas.List.Elements.{Contains-append_left, Contains-append_right, All-nil, All-cons}
use Rattle.incumbent.specs.declared.word.Watch.{Watch}
use Rattle.incumbent.specs.Watch.{seen, offers, IsSameWatch}
use Rattle.search_workers.specs.Goals.{Follows}

there : (n : ℕ) → Contains (n ∷ []) n
there n = (0, omega arith, refl)

more : (xs ys : List ℕ) (n : ℕ) → ys ≡ xs ++ n ∷ [] → (x : ℕ) → Contains xs x → Contains ys x
more xs ys n e x h = subst (λ (l : List ℕ). Contains l x) (sym e) (Contains-append_left xs (n ∷ []) x h)

pub last : (xs ys : List ℕ) (n : ℕ) → ys ≡ xs ++ n ∷ [] → Contains ys n
last xs ys n e = subst (λ (l : List ℕ). Contains l n) (sym e) (Contains-append_right xs (n ∷ []) n (there n))

pub same_still : (a b c : Watch) → IsSameWatch a b → IsSameWatch b c → IsSameWatch a c
same_still a b c h k = record { table = k.table ∙ h.table; place = k.place ∙ h.place; opening = k.opening ∙ h.opening; out = k.out ∙ h.out }

pub follows_still : (a b c : Watch) → Follows a b → Follows b c → Follows a c
follows_still a b c h k = record { same = same_still a b c h.same k.same; sees = λ x m. k.sees x (h.sees x m); offered = λ x m. k.offered x (h.offered x m) }

pub looked : (old new : Watch) (n : ℕ) → IsSameWatch old new → seen new ≡ seen old ++ n ∷ [] → offers new ≡ offers old → Follows old new
looked old new n same e f = record { same = same; sees = more (seen old) (seen new) n e; offered = λ x h. subst (λ (l : List ℕ). Contains l x) (sym f) h }

pub offered : (old new : Watch) (n v : ℕ) → IsSameWatch old new → seen new ≡ seen old ++ n ∷ [] → offers new ≡ offers old ++ v ∷ [] → Follows old new
offered old new n v same e f = record { same = same; sees = more (seen old) (seen new) n e; offered = more (offers old) (offers new) v f }

pub lower : (n m : ℕ) (xs : List ℕ) → m ≤ n → All (λ x. n ≤ x) xs → All (λ x. m ≤ x) xs
lower n m xs le h k d small = let p = h k d small in omega arith

pub one : (P : ℕ → Type 0) (x : ℕ) → P x → All P (x ∷ [])
one P x p = All-cons P x [] p (All-nil P)

-- Each step keeps the rule of a deque.
use Rattle.std.proofs.Common.{◌≡◌, ◌≢◌, ℕ, zero, suc, ◌+◌, ◌<◌, ◌≤◌, ⊎_elim, Bool, true, false, true≢false, List, [], ◌∷◌, ◌++◌, length, set, sym, refl, ap, ◌∙◌, subst, cond, All, arith, get_or, ◌-◌, append_assoc, length-append}
use Rattle.std.specs.Prelude.{Contains, IsPermutation}
use Rattle.std.specs.List.{flat_map}
use Rattle.std.proofs.lemmas.List.{append-nil, get_or_append_left, get_or-append_right, set_comm}
use Rattle.std.proofs.lemmas.List.Elements.{All-append, All-nil, Contains-append_left}
use Rattle.std.proofs.lemmas.Grind.{flat_map-append}
use Rattle.std.proofs.lemmas.List.Sums.{sum_by-cons, sum_by_push}
use Rattle.std.proofs.lemmas.List.Sorted.{IsPermutation-refl, IsPermutation-sym, IsPermutation-trans, IsPermutation-append_left, IsPermutation-append_right, IsPermutation-append_comm, length_permutation, Contains-permutation}
use mathlib.Core.Option.{some, some-injective, some-ne-none}
use lib.ListN.{get_elem?}
use Rattle.crossbeam_deque.specs.Tasks as deque
use Rattle.crossbeam_deque.proofs.Lists.{at_set, at_snoc, set_here, set_else}
use Rattle.search_trees.specs.Task.{Task}
use Rattle.steal_pool.specs.declared.account.Tally.{Tally}
use Rattle.steal_pool.specs.Account.{Fits, FitsAt, FitsEach, HasSources, Pushed, Took, IsEmptied, IsWithin, opened, newcomer, spent, one_more_out, taken_in, with_pushed, with_taken, live_count, all_pushed, all_taken}
use Rattle.steal_pool.proofs.Orders.{then_same, first_same, second_first, more_in_one, less_in_one, only_one, same_in_all}

abbrev weight_of : Tally → ℕ
weight_of v = cond v.live 1 0

-- the count after a change of one view
total_set : (views : List Tally) (port : ℕ) (v w : Tally) → get_elem? views port ≡ some v
    → live_count (set views port w) + weight_of v ≡ live_count views + weight_of w
total_set [] port v w e = absurd (some-ne-none v (sym e))
total_set (x ∷ xs) zero v w e =
    let is : weight_of x ≡ weight_of v = ap weight_of (some-injective x v e) in omega (arith, sum_by-cons weight_of w xs, sum_by-cons weight_of x xs)
total_set (x ∷ xs) (suc port) v w e = omega (arith, sum_by-cons weight_of x (set xs port w), sum_by-cons weight_of x xs, total_set xs port v w e)

same_count : (views : List Tally) (port : ℕ) (v w : Tally) → get_elem? views port ≡ some v → w.live ≡ v.live → live_count (set views port w) ≡ live_count views
same_count views port v w at e = let h = total_set views port v w at in let is : weight_of w ≡ weight_of v = ap (λ (b : Bool). cond b 1 0) e in omega arith

weight_le : (views : List Tally) (port : ℕ) (v : Tally) → get_elem? views port ≡ some v → weight_of v ≤ live_count views
weight_le [] port v e = absurd (some-ne-none v (sym e))
weight_le (x ∷ xs) zero v e = let is : weight_of x ≡ weight_of v = ap weight_of (some-injective x v e) in omega (arith, sum_by-cons weight_of x xs)
weight_le (x ∷ xs) (suc port) v e = omega (arith, sum_by-cons weight_of x xs, weight_le xs port v e)

each_set : (F : ℕ → Tally → Type 0) (views : List Tally) (port : ℕ) (w : Tally) → F port w
    → ((j : ℕ) (u : Tally) → j ≢ port → get_elem? views j ≡ some u → F j u) → (j : ℕ) (u : Tally) → get_elem? (set views port w) j ≡ some u → F j u
each_set F views port w mine others j u e = ⊎_elim (λ (x : (j ≡ port) × (w ≡ u)). subst (λ (y : ℕ × Tally). F y.0 y.1) (λ i. (sym x.0 i, x.1 i)) mine)
    (λ (x : (j ≢ port) × (get_elem? views j ≡ some u)). others j u x.0 x.1) (at_set views port j w u e)

at_length : (views : List Tally) (port : ℕ) (v : Tally) → get_elem? views port ≡ some v → port < length views
at_length [] port v e = absurd (some-ne-none v (sym e))
at_length (x ∷ xs) zero v e = omega arith
at_length (x ∷ xs) (suc port) v e = let h = at_length xs port v e in omega arith

pushed_of : Tally → List Task
pushed_of v = v.pushed

-- the fits of all views where one view keeps all but its lists
same_each : (views : List Tally) (port : ℕ) (v w : Tally) → get_elem? views port ≡ some v → w.live ≡ v.live → w.owner ≡ v.owner → w.out ≡ v.out
    → (v.owner ≡ false → w.pushed ≡ []) → (w.live ≡ false → (w.pushed ≡ []) × (w.taken ≡ [])) → FitsEach (live_count views) views
    → FitsEach (live_count (set views port w)) (set views port w)
same_each views port v w at live owner out others ended each =
    let same = same_count views port v w at live in let mine = each port v at in
    each_set (FitsAt (live_count (set views port w))) views port w
    (record {
      owner = λ o. let f = mine.owner (sym owner ∙ o) in (f.0, same ∙ f.1 ∙ ap (λ (k : ℕ). k + 1) (sym out));
      others = λ o. others
          (sym owner ∙ o);
      ended = ended;
    })
    (λ j u other e. let f = each j u e in record { owner = λ o. ((f.owner o).0, same ∙ (f.owner o).1); others = f.others; ended = f.ended })

begins_each : (port : ℕ) (v : Tally) → get_elem? (opened ∷ []) port ≡ some v → FitsAt 1 port v
begins_each zero v e = subst (FitsAt 1 0) (some-injective opened v e) (record { owner = λ _. (refl, refl); others = λ _. refl; ended = λ _. (refl, refl) })
begins_each (suc port) v e = absurd (some-ne-none v (sym e))

pub begins : (P : Task → Type 0) → Fits P [] (opened ∷ [])
begins P = record { balance = IsPermutation-refl []; each = begins_each; tasks = All-nil P }

pub pushes : (P : Task → Type 0) (port : ℕ) (v : Tally) (xs : List Task) → All P xs → v.owner ≡ true → v.live ≡ true
    → deque.Pushes (Fits P) port v xs (Pushed v xs)
pushes P port v xs all owner live items views h at =
    let w = with_pushed v xs in
    let ts = all_taken views in
    let more : IsPermutation (all_pushed (set views port w)) (xs ++ all_pushed views) = more_in_one (λ (u : Tally). u.pushed) views port v w xs at refl in
    let same : all_taken (set views port w) ≡ ts = same_in_all (λ (u : Tally). u.taken) views port v w at refl in
    let around : IsPermutation (xs ++ all_pushed views) ((ts ++ items) ++ xs) = IsPermutation-trans _ _ _
    (IsPermutation-append_right xs _ _ h.balance) (IsPermutation-append_comm xs (ts ++ items)) in (
      w,
      record {
        balance = then_same _ _ _ (IsPermutation-trans _ _ _ more around) (append_assoc ts items xs ∙ ap (λ (l : List Task). l ++ (items ++ xs)) (sym same));
        each = same_each views port v w at refl refl refl (λ o. absurd (true≢false (sym owner ∙ o))) (λ dead. absurd (true≢false (sym live ∙ dead))) h.each;
        tasks = All-append P items xs h.tasks all;
      },
      refl,
    )

-- some tasks leave the deque, and one pass has taken them
leaves : (P : Task → Type 0) (port : ℕ) (v : Tally) (xs : List Task) → v.live ≡ true → (items : List Task) (views : List Tally) → All P items
    → IsPermutation (all_pushed views) (all_taken views ++ (xs ++ items)) → FitsEach (live_count views) views → get_elem? views port ≡ some v
    → Fits P items (set views port (with_taken v xs))
leaves P port v xs live items views all balance each at =
    let w = with_taken v xs in
    let ts = all_taken views in
    let more : IsPermutation (all_taken (set views port w)) (xs ++ ts) = more_in_one (λ (u : Tally). u.taken) views port v w xs at refl in
    let same : all_pushed (set views port w) ≡ all_pushed views = same_in_all (λ (u : Tally). u.pushed) views port v w at refl in
    let around : IsPermutation (ts ++ (xs ++ items)) (xs ++ (ts ++ items)) = second_first ts xs items in
    let end : IsPermutation (xs ++ (ts ++ items)) (all_taken (set views port w) ++ items) = first_same _ _ _ (sym (append_assoc xs ts items))
    (IsPermutation-append_left items _ _ (IsPermutation-sym _ _ more)) in
    record {
      balance = first_same _ _ _ same (IsPermutation-trans _ _ _ balance (IsPermutation-trans _ _ _ around end));
      each = same_each views port v w at refl refl refl (each port v at).others (λ dead. absurd (true≢false (sym live ∙ dead))) each;
      tasks = all;
    }

-- what is true of each of two lists is true of either
all_before : (P : Task → Type 0) (xs ys : List Task) → All P (xs ++ ys) → All P xs
all_before P xs ys all k d h = subst P (get_or_append_left xs ys d k h) (all k d (omega (arith, h, length-append xs ys)))

all_behind : (P : Task → Type 0) (xs ys : List Task) → All P (xs ++ ys) → All P ys
all_behind P xs ys all k d h =
    let place : length xs + k - length xs ≡ k = omega arith in
    subst P (get_or-append_right xs ys (length xs) (length xs + k) d refl (omega arith) ∙ ap (λ (n : ℕ). get_or ys n d) place)
    (all (length xs + k) d (omega (arith, h, length-append xs ys)))

weightless : (b : Bool) → cond {A = ℕ} b 1 0 ≡ 0 → b ≡ false
weightless true e = absurd (omega arith)
weightless false e = refl

-- with no other pass out, all others are no more
others_ended : (views : List Tally) (port : ℕ) (v : Tally) → get_elem? views port ≡ some v → v.live ≡ true → live_count views ≡ 1
    → FitsEach (live_count views) views → (j : ℕ) (u : Tally) → j ≢ port → get_elem? views j ≡ some u → (u.pushed ≡ []) × (u.taken ≡ [])
others_ended views port v at live one each j u apart there =
    let ws = set views j spent in
    let less : live_count ws + weight_of u ≡ live_count views + 0 = total_set views j u spent there in
    let mine : weight_of v ≡ 1 = ap (λ (k : Bool). cond k 1 0) live in
    let le : weight_of v ≤ live_count ws = weight_le ws port v (set_else views j port spent (λ e. apart (sym e)) ∙ at) in
    let none : weight_of u ≡ 0 = omega arith in
    (each j u there).ended (weightless u.live none)

-- and then all that was pushed and taken is this one's
alone : (P : Task → Type 0) (port : ℕ) (v : Tally) (items : List Task) (views : List Tally) → Fits P items views → get_elem? views port ≡ some v
    → v.owner ≡ true → v.live ≡ true → v.out ≡ 0 → (all_pushed views ≡ v.pushed) × (all_taken views ≡ v.taken)
alone P port v items views h at is_owner live none_out =
    let one : live_count views ≡ 1 = ((h.each port v at).owner is_owner).1 ∙ ap (λ (k : ℕ). k + 1) none_out in
    let ended = others_ended views port v at live one h.each in (
      only_one (λ (u : Tally). u.pushed) views port v at (λ j u apart e. (ended j u apart e).0),
      only_one (λ (u : Tally). u.taken) views port v at (λ j u apart e. (ended j u apart e).1),
    )

within : (P : Task → Type 0) (port : ℕ) (v : Tally) (items : List Task) (views : List Tally) → Fits P items views → get_elem? views port ≡ some v → IsWithin v
within P port v items views h at is_owner live none_out =
    let mine = alone P port v items views h at is_owner live none_out in
    let pushed : all_pushed views ≡ v.pushed = mine.0 in
    let taken : all_taken views ≡ v.taken = mine.1 in
    let same : length (all_taken views ++ items) ≡ length (all_pushed views) = length_permutation _ _ h.balance in
    let p : length (all_pushed views) ≡ length v.pushed = ap length pushed in
    let t : length (all_taken views) ≡ length v.taken = ap length taken in
    omega (arith, length-append (all_taken views) items)

sources : (P : Task → Type 0) (port : ℕ) (v : Tally) (items : List Task) (views : List Tally) → Fits P items views → get_elem? views port ≡ some v
    → HasSources v
sources P port v items views h at is_owner live none_out =
    let mine = alone P port v items views h at is_owner live none_out in
    λ t there.
    let among : Contains (all_taken views ++ items) t = Contains-append_left (all_taken views) items t
    (subst (λ (l : List Task). Contains l t) (sym mine.1) there) in
    subst (λ (l : List Task). Contains l t) mine.0 (Contains-permutation (all_taken views ++ items) (all_pushed views) t
    (IsPermutation-sym _ _ h.balance) among)

pub learns : (P : Task → Type 0) (port : ℕ) (v : Tally) → deque.Learns (Fits P) port v (λ items. IsWithin v × HasSources v)
learns P port v items views h at = (within P port v items views h at, sources P port v items views h at)

-- what is known of a pass that took these
taken_of : (P : Task → Type 0) (port : ℕ) (v : Tally) (xs items : List Task) (views : List Tally) → Fits P items (set views port (with_taken v xs))
    → get_elem? views port ≡ some v → All P xs → Took P v xs (with_taken v xs)
taken_of P port v xs items views now at all =
    let w = with_taken v xs in
    let here : get_elem? (set views port w) port ≡ some w = set_here views port w (at_length views port v at) in
    record {
      after = refl;
      within = within P port w items (set views port w) now here;
      sources = sources P port w items (set views port w)
          now here;
      tasks = all;
    }

pub takes : (P : Task → Type 0) (port : ℕ) (v : Tally) → v.live ≡ true → deque.Takes (Fits P) port v 1 (Took P v)
takes P port v live xs items views _ _ h at =
    let w = with_taken v xs in let now = leaves P port v xs live items views (all_behind P xs items h.tasks) h.balance h.each at in
    (w, now, taken_of P port v xs items views now at (all_before P xs items h.tasks))

pub pops : (P : Task → Type 0) (port : ℕ) (v : Tally) → v.live ≡ true → deque.Pops (Fits P) port v (Took P v)
pops P port v live x items views h at =
    let xs = x ∷ [] in let w = with_taken v xs in
    let now = leaves P port v xs live items views (all_before P items xs h.tasks)
    (IsPermutation-trans _ _ _ h.balance (IsPermutation-append_right (all_taken views) _ _ (IsPermutation-append_comm items xs))) h.each at in
    (w, now, taken_of P port v xs items views now at (all_behind P items xs h.tasks))

newcomer_fits : (count port : ℕ) → FitsAt count port newcomer
newcomer_fits count port = record { owner = λ o. absurd (true≢false (sym o)); others = λ _. refl; ended = λ dead. absurd (true≢false dead) }

spent_fits : (count port : ℕ) → FitsAt count port spent
spent_fits count port = record { owner = λ o. absurd (true≢false (sym o)); others = λ _. refl; ended = λ _. (refl, refl) }

all_snoc : (f : Tally → List Task) (views : List Tally) (r : Tally) → f r ≡ [] → flat_map f (views ++ r ∷ []) ≡ flat_map f views
all_snoc f views r e =
    flat_map-append f views (r ∷ []) ∙ (ap (λ (l : List Task). flat_map f views ++ l) (ap (λ (l : List Task). l ++ []) e) ∙ append-nil (flat_map f views))

pub forks : (P : Task → Type 0) (port : ℕ) (v : Tally) → v.owner ≡ true → deque.Forks (Fits P) port v (one_more_out v) newcomer
forks P port v is_owner items views h at =
    let l = one_more_out v in let vs = set views port l in let ws = vs ++ newcomer ∷ [] in let mine = h.each port v at in
    let count : live_count ws ≡ live_count views + 1 = sum_by_push weight_of vs newcomer ∙ ap (λ (k : ℕ). k + 1) (same_count views port v l at refl) in
    let first : (port ≡ 0) × (live_count views ≡ v.out + 1) = mine.owner is_owner in
    let pushed : all_pushed ws ≡ all_pushed views = all_snoc (λ (u : Tally). u.pushed) vs newcomer refl
    ∙ same_in_all (λ (u : Tally). u.pushed) views port v l at refl in
    let taken : all_taken ws ≡ all_taken views = all_snoc (λ (u : Tally). u.taken) vs newcomer refl
    ∙ same_in_all (λ (u : Tally). u.taken) views port v l at refl in
    let old : (j : ℕ) (u : Tally) → get_elem? vs j ≡ some u → FitsAt (live_count ws) j u =
    each_set (FitsAt (live_count ws)) views port l
    (record { owner = λ _. (first.0, count ∙ ap (λ (k : ℕ). k + 1) first.1); others = mine.others; ended = mine.ended })
    (λ j u other e. let f = h.each j u e in record { owner = λ o. absurd (other ((f.owner o).0 ∙ sym first.0)); others = f.others; ended = f.ended }) in
    record {
      balance = first_same _ _ _ pushed (then_same _ _ _ h.balance (ap (λ (l : List Task). l ++ items) (sym taken)));
      each =
          λ j u e. ⊎_elim (old j u) (λ (is : newcomer ≡ u). subst (FitsAt (live_count ws) j) is (newcomer_fits (live_count ws) j)) (at_snoc vs newcomer u j e);
      tasks = h.tasks;
    }

pub settles : (P : Task → Type 0) (port : ℕ) (v : Tally) → deque.Finds (Fits P) port v (IsEmptied v)
settles P port v views h at is_owner live none_out =
    let mine = alone P port v [] views h at is_owner live none_out in
    first_same _ _ _ (sym mine.0) (then_same _ _ _ h.balance (append-nil (all_taken views) ∙ mine.1))

pub merges : (P : Task → Type 0) (port : ℕ) (v : Tally) (other : ℕ) (w : Tally) → v.owner ≡ true → v.live ≡ true → w.owner ≡ false → w.live ≡ true
    → deque.Merges (Fits P) port v other w (taken_in v w) spent
merges P port v other w is_owner live guest alive items views h at two at' =
    let b = taken_in v w in let vs = set views port b in let ws = set vs other spent in let zs = set views other spent in
    let apart : port ≢ other = λ e. two (sym e) in
    let was : get_elem? views other ≡ some w = ⊎_elim (λ x. absurd (two x.0)) (λ x. x.1) (at_set views port other b w at') in
    let mine = h.each port v at in let theirs = h.each other w was in
    let first : (port ≡ 0) × (live_count views ≡ v.out + 1) = mine.owner is_owner in
    let here : get_elem? zs port ≡ some v = set_else views other port spent apart ∙ at in
    let stays : get_elem? ws port ≡ some b = set_else vs other port spent apart ∙ set_here views port b (at_length views port v at) in
    let turned : ws ≡ set zs port b = set_comm views port other b spent apart in
    let left : live_count ws ≡ v.out =
    let count : live_count vs ≡ live_count views = same_count views port v b at refl in
    let less : live_count ws + weight_of w ≡ live_count vs + 0 = total_set vs other w spent at' in
    let one : weight_of w ≡ 1 = ap (λ (k : Bool). cond k 1 0) alive in
    let all : live_count views ≡ v.out + 1 = first.1 in omega arith in
    let some_out : 1 ≤ v.out =
    let one : weight_of b ≡ 1 = ap (λ (k : Bool). cond k 1 0) live in let le = weight_le ws port b stays in omega arith in
    let pushed : all_pushed ws ≡ all_pushed views =
    same_in_all (λ (u : Tally). u.pushed) vs other w spent at' (sym (theirs.others guest)) ∙ same_in_all (λ (u : Tally). u.pushed) views port v b at refl in
    let taken : IsPermutation (all_taken ws) (all_taken views) =
    first_same _ _ _ (ap all_taken turned) (IsPermutation-trans _ _ _ (more_in_one (λ (u : Tally). u.taken) zs port v b w.taken here refl)
    (IsPermutation-sym _ _ (less_in_one (λ (u : Tally). u.taken) views other w spent was refl))) in
    record {
      balance = first_same _ _ _ pushed (IsPermutation-trans _ _ _ h.balance (IsPermutation-append_left items _ _ (IsPermutation-sym _ _ taken)));
      each = each_set (FitsAt (live_count ws)) vs other spent (spent_fits (live_count ws) other)
          (λ j u elsewhere e. ⊎_elim
          (λ (x : (j ≡ port) × (b ≡ u)). subst (λ (y : ℕ × Tally). FitsAt (live_count ws) y.0 y.1) (λ i. (sym x.0 i, x.1 i)) (record {
            owner = λ _. (first.0, omega arith);
            others = mine.others;
            ended = λ dead. absurd (true≢false (sym live ∙ dead));
          }))
          (λ (x : (j ≢ port) × (get_elem? views j ≡ some u)). let f = h.each j u x.1 in record
          { owner = λ o. absurd (x.0 ((f.owner o).0 ∙ sym first.0)); others = f.others; ended = f.ended })
          (at_set views port j b u e));
      tasks = h.tasks;
    }

-- All hands of a pool while its passes are joined, and while what is left is drained.
use Rattle.std.proofs.Common.{◌≡◌, ℕ, suc, ◌<◌, ◌≤◌, ◌+◌, ◌-◌, List, [], ◌∷◌, ◌++◌, length, take, set, refl, sym, ap, ◌∙◌, subst, arith, append_assoc, ⊎_elim, length-append}
use Rattle.std.specs.Prelude.{Contains, IsPermutation, Option, Some, None, IfNone, IfSome}
use Rattle.std.specs.List.{flat_map}
use Rattle.std.proofs.lemmas.Grind.{flat_map-append}
use Rattle.std.proofs.Math.Seq.{take-length}
use Rattle.std.proofs.lemmas.List.{append-nil, set-set, length-map}
use Rattle.std.proofs.lemmas.List.Elements.{All-contains, Contains-append_cases}
use Rattle.std.proofs.lemmas.List.Sorted.{length_permutation, Contains-permutation, IsPermutation-sym}
use mathlib.Core.Option.{some, some-injective}
use lib.ListN.{get_elem?}
use Rattle.crossbeam_deque.proofs.Lists.{set_again, set_here}
use Rattle.search_trees.specs.Account.{IsSourced}
use Rattle.search_trees.specs.Task.{Task}
use Rattle.steal_pool.specs.declared.door.Door.{Door}
use Rattle.steal_pool.specs.declared.hand.Hand.{Hand}
use Rattle.steal_pool.specs.Door.{DequeId, deque_of, deques_of, taken_by}
use Rattle.steal_pool.specs.Hand.{pushed, taken, own_taken, own_deque, deques, out_count, ChangesAt, AddsDoor, ClosesDoor, PopsTask, PopsNone, CountsOwn, HasSources, IsWithin, AllWithin, IsHandOf, IsClosed, all_pushed, all_taken}
use Rattle.steal_pool.proofs.Orders.{then_same, first_same, second_first, more_in_one, same_in_all, more_by, each_balanced, each_sourced, in_one, nil_of_length, there_is, snoc_injective, at_length}
use Rattle.steal_pool.proofs.OneHand.{one_task}
use Rattle.steal_pool.proofs.Pools.{Each, each_change, take_snoc, map_append, less_cases}

-- a hand while the hand `from` gives its ways back: those from `outs` on are closed, and it has the first `ways` of them
pub record Left {J : Type 0} (ids : List DequeId) (from outs ways place : ℕ) (h : Hand J) : Type 0 where
  pub own : get_elem? ids place ≡ some (own_deque h)
  pub closed : outs ≤ place → out_count h + (from + 1) ≡ length ids
  pub unclosed : place < outs → out_count h + from ≡ length ids
  pub before : place < from → length h.doors.items ≡ 0
  pub here : place ≡ from → deques h ≡ take ways ids
  pub after : from < place → deques h ≡ ids

whole : (ids : List DequeId) (n : ℕ) → n ≡ length ids → take n ids ≡ ids
whole ids n long = ap (λ (j : ℕ). take j ids) long ∙ take-length ids

pub whole_pool : {J : Type 0} → (ids : List DequeId) (n : ℕ) (hands : List (Hand J)) → n ≡ length ids → n ≡ length hands
    → ((place : ℕ) (h : Hand J) → get_elem? hands place ≡ some h → IsHandOf ids place h) → Each (Left ids 0 n n) hands
whole_pool ids n hands long many all k h e =
    let p = all k h e in let small : k < n = rw many (at_length hands k h e) in
    record {
      own = p.own;
      closed = λ le. absurd (omega arith);
      unclosed = λ less. let o = p.out in omega arith;
      before = λ less. absurd (omega arith);
      here = λ is. p.deques ∙ sym (whole ids n long);
      after = λ less. p.deques;
    }

-- there is a way to give back
pub some_way : {J : Type 0} → (ids : List DequeId) (from p : ℕ) (hands : List (Hand J)) → p < length ids → from < length hands
    → Each (Left ids from (p + 1) (p + 1)) hands → ((g : Hand J) → get_elem? hands from ≡ some g → g.doors.items ≡ []) → ⊥
some_way ids from p hands small inside all none =
    let g = there_is hands from inside in let x = there_is ids p small in
    let m = all from g.0 g.1 in
    let e : [] ≡ take p ids ++ x.0 ∷ [] = sym (ap deques_of (none g.0 g.1)) ∙ (m.here refl ∙ take_snoc ids p x.0 x.1) in
    let l : 0 ≡ length (take p ids ++ x.0 ∷ []) = ap length e in
    omega (arith, length-append (take p ids) (x.0 ∷ []))

last_way : {J : Type 0} → (ids : List DequeId) (p : ℕ) (doors : List (Door J)) (d : Door J) → p < length ids
    → deques_of (doors ++ d ∷ []) ≡ take (p + 1) ids → (deques_of doors ≡ take p ids) × (get_elem? ids p ≡ some (deque_of d))
last_way ids p doors d small e =
    let x = there_is ids p small in
    let same = snoc_injective (deques_of doors) (take p ids) (deque_of d) x.0 (sym (map_append deque_of doors (d ∷ [])) ∙ (e ∙ take_snoc ids p x.0 x.1)) in
    (same.0, x.1 ∙ ap some (sym same.1))

pub gives_back : {J : Type 0} → (ids : List DequeId) (from p : ℕ) (old : List (Hand J)) (d : Door J) (new : List (Hand J)) → p < length ids
    → Each (Left ids from (p + 1) (p + 1)) old → ChangesAt old from (λ g h. AddsDoor h d g) new
    → Each (Left ids from (p + 1) p) new × (get_elem? ids p ≡ some (deque_of d))
gives_back ids from p old d new small all change =
    let m = all from change.0 change.2 in let a = change.4 in
    let last = last_way ids p change.1.doors.items d small (sym (ap deques_of a.doors) ∙ m.here refl) in (
      each_change (Left ids from (p + 1) (p + 1)) (Left ids from (p + 1) p) old from (λ g h. AddsDoor h d g) new all change
          (λ k h apart m. record { own = m.own; closed = m.closed; unclosed = m.unclosed; before = m.before; after = m.after; here = λ is. absurd (apart is) })
          (λ g h m a. record {
            own = m.own ∙ ap some a.own;
            closed = λ le. ap (λ (j : ℕ). j + (from + 1)) (sym a.out) ∙ m.closed le;
            unclosed = λ less. ap (λ (j : ℕ). j + from) (sym a.out) ∙ m.unclosed less;
            before = λ less. absurd (omega arith);
            after = λ less. absurd (omega arith);
            here = λ is. (last_way ids p h.doors.items d small (sym (ap deques_of a.doors) ∙ m.here refl)).0;
          }),
      last.1,
    )

pub leads : {J : Type 0} → (ids : List DequeId) (from outs ways p : ℕ) (hands : List (Hand J)) (d : Door J) → Each (Left ids from outs ways) hands
    → get_elem? ids p ≡ some (deque_of d) → (g : Hand J) → get_elem? hands p ≡ some g → deque_of d ≡ own_deque g
leads ids from outs ways p hands d all there g at = some-injective _ _ (sym there ∙ (all p g at).own)

pub closes : {J : Type 0} → (ids : List DequeId) (from p : ℕ) (old : List (Hand J)) (d : Door J) (new : List (Hand J)) → from < length ids
    → Each (Left ids from (p + 1) p) old → ChangesAt old p (λ g h. ClosesDoor g d h) new → Each (Left ids from p p) new
closes ids from p old d new inside all change =
    each_change (Left ids from (p + 1) p) (Left ids from p p) old p (λ g h. ClosesDoor g d h) new all change
    (λ k h apart m. record {
      own = m.own;
      before = m.before;
      here = m.here;
      after = m.after;
      closed = λ le. m.closed
          (omega arith);
      unclosed = λ less. m.unclosed (omega arith);
    })
    (λ g h m c. record {
      own = m.own ∙ ap some (sym c.own);
      closed = λ le. let o = c.out in let u = m.unclosed (omega arith) in omega arith;
      unclosed = λ less. absurd (omega arith);
      before = λ less. ap length c.doors ∙ m.before less;
      here = λ is. ap deques_of c.doors ∙ m.here is;
      after = λ less. ap deques_of c.doors ∙ m.after less;
    })

pub turns_back : {J : Type 0} → (ids : List DequeId) (from n : ℕ) (hands : List (Hand J)) → n ≡ length ids → n ≡ length hands
    → Each (Left ids from 0 0) hands → Each (Left ids (from + 1) n n) hands
turns_back ids from n hands long many all k h e =
    let m = all k h e in let small : k < n = rw many (at_length hands k h e) in
    record {
      own = m.own;
      closed = λ le. absurd (omega arith);
      unclosed = λ less. m.closed (omega arith);
      before =
          λ less. ⊎_elim (λ (l : k < from). m.before l) (λ (is : k ≡ from). sym (length-map h.doors.items deque_of) ∙ ap length (m.here is))
          (less_cases k from less);
      here = λ is. m.after (omega arith) ∙ sym (whole ids n long);
      after = λ less. m.after (omega arith);
    }

pub all_closed : {J : Type 0} → (ids : List DequeId) (n : ℕ) (hands : List (Hand J)) → n ≡ length ids → n ≡ length hands
    → Each (Left ids n n n) hands → IsClosed hands
all_closed ids n hands long many all k h e =
    let m = all k h e in let small : k < n = rw many (at_length hands k h e) in (m.before small, (let u = m.unclosed small in omega arith))

-- what was pushed stays, and what was taken through the way leaves the one hand and comes to the other
pub given_back : {J : Type 0} → (from : ℕ) (old : List (Hand J)) (d : Door J) (new : List (Hand J)) → ChangesAt old from (λ g h. AddsDoor h d g) new
    → (all_pushed new ≡ all_pushed old) × IsPermutation (all_taken old) (taken_by d ++ all_taken new)
given_back {J} from old d new change =
    let g = change.0 in let h = change.1 in let at = change.2 in let a = change.4 in
    let is : new ≡ set old from h = change.3 in
    let there : get_elem? (set old from h) from ≡ some h = set_here old from h (at_length old from g at) in
    let undone : set (set old from h) from g ≡ old = set-set old from h g ∙ set_again old from g at in
    let more : taken g ≡ taken h ++ taken_by d =
    ap (λ (l : List Task). l ++ flat_map taken_by g.doors.items) a.own_taken
    ∙ (ap (λ (l : List (Door J)). own_taken h ++ flat_map taken_by l) a.doors
    ∙ (ap (λ (l : List Task). own_taken h ++ l) (flat_map-append taken_by h.doors.items (d ∷ []) ∙ ap
    (λ (l : List Task). flat_map taken_by h.doors.items ++ l) (append-nil (taken_by d)))
    ∙ sym (append_assoc (own_taken h) (flat_map taken_by h.doors.items) (taken_by d)))) in (
      ap all_pushed is ∙ same_in_all pushed old from g h at (sym a.pushed),
      first_same _ _ _ (ap all_taken (sym undone)) (then_same _ _ _ (more_in_one taken (set old from h) from h g (taken_by d) there more)
          (ap (λ (l : List (Hand J)). taken_by d ++ all_taken l) (sym is))),
    )

pub taken_back : {J : Type 0} → (p : ℕ) (old : List (Hand J)) (d : Door J) (new : List (Hand J)) → ChangesAt old p (λ g h. ClosesDoor g d h) new
    → (all_pushed new ≡ all_pushed old) × IsPermutation (all_taken new) (taken_by d ++ all_taken old)
taken_back {J} p old d new change =
    let g = change.0 in let h = change.1 in let at = change.2 in let c = change.4 in
    let is : new ≡ set old p h = change.3 in
    let rest = flat_map taken_by g.doors.items in
    let now : taken h ≡ (own_taken g ++ taken_by d) ++ rest =
    ap (λ (l : List Task). l ++ flat_map taken_by h.doors.items) c.own_taken ∙ ap
    (λ (l : List (Door J)). (own_taken g ++ taken_by d) ++ flat_map taken_by l) c.doors in
    let more : IsPermutation (taken h) (taken_by d ++ taken g) = first_same _ _ _ (now ∙ append_assoc (own_taken g) (taken_by d) rest)
    (second_first (own_taken g) (taken_by d) rest) in (
      ap all_pushed is ∙ same_in_all pushed old p g h at c.pushed,
      first_same _ _ _ (ap all_taken is) (more_by taken old p g h (taken_by d) at more),
    )

-- the hands below `place` have found their deques empty
pub record Emptied {J : Type 0} (place : ℕ) (first : List (Hand J)) (hands : List (Hand J)) : Type 0 where
  pub closed : IsClosed hands
  pub within : AllWithin hands
  pub same_pushed : all_pushed hands ≡ all_pushed first
  pub same_taken : all_taken hands ≡ all_taken first
  pub balance : (k : ℕ) (h : Hand J) → get_elem? hands k ≡ some h → k < place → IsPermutation (pushed h) (taken h)

abbrev ClosedAt : {J : Type 0} → ℕ → Hand J → Type 0
ClosedAt k h = (length h.doors.items ≡ 0) × (out_count h ≡ 0)

abbrev WithinAt : {J : Type 0} → ℕ → Hand J → Type 0
WithinAt k h = IsWithin h

less_same : (a b c d : ℕ) → c ≡ a → d ≡ b → a ≤ b → c ≤ d
less_same a b c d e f h = omega arith

own_alone : {J : Type 0} → (h : Hand J) → length h.doors.items ≡ 0 → taken h ≡ own_taken h
own_alone {J} h none = ap (λ (l : List (Door J)). own_taken h ++ flat_map taken_by l) (nil_of_length h.doors.items none) ∙ append-nil (own_taken h)

pub next_empty : {J : Type 0} → (place : ℕ) (first old new : List (Hand J)) → Emptied place first old → ChangesAt old place PopsNone new
    → Emptied (place + 1) first new
next_empty {J} place first old new was change =
    let g = change.0 in let h = change.1 in let at = change.2 in let is : new ≡ set old place h = change.3 in let p = change.4 in
    let G : ℕ → Hand J → Type 0 = λ k x. k < place + 1 → IsPermutation (pushed x) (taken x) in
    record {
      closed =
          each_change ClosedAt ClosedAt old place PopsNone new was.closed change (λ k x apart c. c) (λ g h c p. (ap length p.doors ∙ c.0, p.same.out ∙ c.1));
      within =
          each_change WithinAt WithinAt old place PopsNone new was.within change (λ k x apart w. w)
          (λ g h w p. less_same _ _ _ _ (ap length p.own_taken) (ap length p.pushed) w);
      same_pushed = (ap all_pushed is ∙ same_in_all pushed old place g h at p.pushed) ∙ was.same_pushed;
      same_taken = (ap all_taken is ∙ same_in_all taken old place g h at p.taken) ∙ was.same_taken;
      balance =
          each_change (λ k x. ClosedAt k x × (k < place → IsPermutation (pushed x) (taken x))) G old place PopsNone new
          (λ k x e. (was.closed k x e, was.balance k x e)) change
          (λ k x apart f less. ⊎_elim f.1 (λ is. absurd (apart is)) (less_cases k place less))
          (λ g h f p less. then_same _ _ _ (p.balance (p.same.out ∙ f.0.1)) (sym (own_alone h (ap length p.doors ∙ f.0.0))));
    }

pub next_closed : {J : Type 0} → (place : ℕ) (first old new : List (Hand J)) (t : Task) → Emptied place first old
    → ChangesAt old place (λ g h. PopsTask g t h) new → IsClosed new
next_closed place first old new t was change =
    each_change ClosedAt ClosedAt old place (λ g h. PopsTask g t h) new was.closed change (λ k x apart c. c)
    (λ g h c p. (ap length p.doors ∙ c.0, p.same.out ∙ c.1))

pub next_pushed : {J : Type 0} → (place : ℕ) (first old new : List (Hand J)) (t : Task) → Emptied place first old
    → ChangesAt old place (λ g h. PopsTask g t h) new → all_pushed new ≡ all_pushed first
next_pushed place first old new t was change =
    (ap all_pushed change.3 ∙ same_in_all pushed old place change.0 change.1 change.2 change.4.pushed) ∙ was.same_pushed

pub next_taken : {J : Type 0} → (place : ℕ) (first old new : List (Hand J)) (t : Task) → Emptied place first old
    → ChangesAt old place (λ g h. PopsTask g t h) new → IsPermutation (all_taken new) (t ∷ all_taken first)
next_taken place first old new t was change =
    first_same _ _ _ (ap all_taken change.3) (then_same _ _ _ (more_by taken old place change.0 change.1 (t ∷ []) change.2 change.4.taken)
    (ap (λ (l : List Task). t ∷ l) was.same_taken))

-- and it was pushed
pub next_source : {J : Type 0} → (place : ℕ) (first old new : List (Hand J)) (t : Task) → Emptied place first old
    → ChangesAt old place (λ g h. PopsTask g t h) new → Contains (all_pushed new) t
next_source {J} place first old new t was change =
    let g = change.0 in let h = change.1 in let at = change.2 in let p = change.4 in
    let closed = was.closed place g at in
    let there : get_elem? new place ≡ some h = ap (λ (l : List (Hand J)). get_elem? l place) change.3 ∙ set_here old place h (at_length old place g at) in
    let first_of : Contains (t ∷ taken g) t = (0, omega arith, refl) in
    let has : Contains (taken h) t = Contains-permutation (t ∷ taken g) (taken h) t (IsPermutation-sym _ _ p.taken) first_of in
    let own : Contains (own_taken h) t = subst (λ (l : List Task). Contains l t) (own_alone h (ap length p.doors ∙ closed.0)) has in
    in_one pushed new place h t there (p.sources (p.same.out ∙ closed.1) t own)

pub all_balanced : {J : Type 0} → (place : ℕ) (first hands : List (Hand J)) → length hands ≤ place → Emptied place first hands
    → IsPermutation (all_pushed hands) (all_taken hands)
all_balanced place first hands long was = each_balanced pushed taken hands (λ k h e. let small = at_length hands k h e in was.balance k h e (omega arith))

pub by_ways : {J : Type 0} → (ids : List DequeId) (from ways p : ℕ) (hands : List (Hand J)) → ways ≡ p + 1 → Each (Left ids from ways ways) hands
    → Each (Left ids from (p + 1) (p + 1)) hands
by_ways ids from ways p hands is all = subst (λ (w : ℕ). Each (Left ids from w w) hands) is all

pub next_within : {J : Type 0} → (place : ℕ) (first old new : List (Hand J)) (t : Task) → Emptied place first old
    → ChangesAt old place (λ g h. PopsTask g t h) new → AllWithin new
next_within place first old new t was change =
    each_change (λ k x. ClosedAt k x × WithinAt k x) WithinAt old place (λ g h. PopsTask g t h) new (λ k x e. (was.closed k x e, was.within k x e))
    change (λ k x apart c. c.1) (λ g h c p. p.within (p.same.out ∙ c.0.1))

-- the hands below `place` are counted
pub record Counted {J : Type 0} (place : ℕ) (hands : List (Hand J)) : Type 0 where
  pub closed : IsClosed hands
  pub within : (k : ℕ) (h : Hand J) → get_elem? hands k ≡ some h → k < place → IsWithin h
  pub sources : (k : ℕ) (h : Hand J) → get_elem? hands k ≡ some h → k < place → HasSources h

pub counts : {J : Type 0} → (place : ℕ) (old new : List (Hand J)) → Counted place old → ChangesAt old place CountsOwn new
    → Counted (place + 1) new × (all_pushed new ≡ all_pushed old) × (all_taken new ≡ all_taken old)
counts {J} place old new was change =
    let g = change.0 in let h = change.1 in let at = change.2 in let is : new ≡ set old place h = change.3 in let p = change.4 in
    let G : ℕ → Hand J → Type 0 = λ k x. k < place + 1 → IsWithin x in (
      record {
        closed =
            each_change ClosedAt ClosedAt old place CountsOwn new was.closed change (λ k x apart c. c) (λ g h c p. (ap length p.doors ∙ c.0, p.same.out ∙ c.1));
        within = each_change (λ k x. ClosedAt k x × (k < place → IsWithin x)) G old place CountsOwn new (λ k x e. (was.closed k x e, was.within k x e)) change
            (λ k x apart f less. ⊎_elim f.1 (λ (is : k ≡ place). absurd (apart is)) (less_cases k place less))
            (λ g h f p less. p.within (p.same.out ∙ f.0.1));
        sources =
            each_change (λ k x. ClosedAt k x × (k < place → HasSources x)) (λ k x. k < place + 1 → HasSources x) old place CountsOwn new
            (λ k x e. (was.closed k x e, was.sources k x e)) change
            (λ k x apart f less. ⊎_elim f.1 (λ (is : k ≡ place). absurd (apart is)) (less_cases k place less))
            (λ g h f p less. p.sources (p.same.out ∙ f.0.1));
      },
      ap all_pushed is ∙ same_in_all pushed old place g h at p.pushed,
      ap all_taken is ∙ same_in_all taken old place g h at p.taken,
    )

total_within : {J : Type 0} → (hands : List (Hand J)) → IsClosed hands → AllWithin hands → length (all_taken hands) ≤ length (all_pushed hands)
total_within [] c w = omega arith
total_within (h ∷ hs) c w =
    let rest = total_within hs (λ k x e. c (suc k) x e) (λ k x e. w (suc k) x e) in
    let mine = w 0 h refl in
    let alone : length (taken h) ≡ length (own_taken h) = ap length (own_alone h (c 0 h refl).0) in
    omega (arith, length-append (taken h) (all_taken hs), length-append (pushed h) (all_pushed hs))

pub fewer : {J : Type 0} → (old new : List (Hand J)) (t : Task) → IsClosed new → AllWithin new → all_pushed new ≡ all_pushed old
    → IsPermutation (all_taken new) (t ∷ all_taken old) → length (all_pushed new) - length (all_taken new) < length (all_pushed old) - length (all_taken old)
fewer old new t closed within same more =
    let w = total_within new closed within in
    let p : length (all_pushed new) ≡ length (all_pushed old) = ap length same in
    let n : length (t ∷ all_taken old) ≡ length (all_taken new) = length_permutation _ _ more in
    omega arith

pub fewer_after : {J : Type 0} → (old new : List (Hand J)) (r : Option Task) → IsClosed new → AllWithin new → all_pushed new ≡ all_pushed old
    → IfSome r (λ t. IsPermutation (all_taken new) (t ∷ all_taken old))
    → IfSome r (λ _. length (all_pushed new) - length (all_taken new) < length (all_pushed old) - length (all_taken old))
fewer_after old new None closed within same more = tt
fewer_after old new (Some t) closed within same more = fewer old new t closed within same more

-- what all hands took was pushed
pub all_sourced : {J : Type 0} → (hands : List (Hand J)) → IsClosed hands → ((k : ℕ) (h : Hand J) → get_elem? hands k ≡ some h → HasSources h)
    → IsSourced Task (all_pushed hands) (all_taken hands)
all_sourced {J} hands closed each =
    each_sourced pushed taken hands (λ k h e t there. each k h e t (subst (λ (l : List Task). Contains l t) (own_alone h (closed k h e).0) there))

-- and so it stays where what was taken since was pushed
pub sourced_still : (pushed_then pushed_now taken_then taken_now : List Task) (r : Option Task) → pushed_now ≡ pushed_then
    → IfSome r (Contains pushed_now) → IfSome r (λ t. IsPermutation taken_now (t ∷ taken_then)) → IfNone r (taken_now ≡ taken_then)
    → IsSourced Task pushed_then taken_then → IsSourced Task pushed_now taken_now
sourced_still pushed_then pushed_now taken_then taken_now None same source more kept was = λ t there.
    subst (λ (l : List Task). Contains l t) (sym same) (was t (subst (λ (l : List Task). Contains l t) kept there))
sourced_still pushed_then pushed_now taken_then taken_now (Some x) same source more kept was = λ t there.
    ⊎_elim (λ (here : Contains (x ∷ []) t). All-contains (Contains pushed_now) (x ∷ []) t (one_task (Contains pushed_now) x source) here)
    (λ (before : Contains taken_then t). subst (λ (l : List Task). Contains l t) (sym same) (was t before))
    (Contains-append_cases (x ∷ []) taken_then t (Contains-permutation taken_now (x ∷ taken_then) t more there))

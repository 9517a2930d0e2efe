use Rattle.std.proofs.Common.{rules, arith, ◌≡◌, ℕ, ◌<◌, ◌+◌, ◌-◌, length, sym, ◌∙◌, refl, subst, vec_len, IsPermutation}
use Rattle.std.proofs.lemmas.List.Sorted.{IsPermutation-refl, IsPermutation-trans, IsPermutation-sym}
use Rattle.steal_pool.specs.Hand.{all_taken}
use Rattle.steal_pool.proofs.Pools.{Each}
use Rattle.steal_pool.proofs.Drains.{Left, whole_pool, some_way, gives_back, leads, closes, turns_back, all_closed, given_back, taken_back, by_ways, counts, all_sourced}
use Rattle.steal_pool.proofs.Orders.{first_same, at_length}
use Rattle.steal_pool.proofs.draining.drain.Goals as goal

pub loop-from-init : goal.loop-from-init
loop-from-init g c =
    let count : c.len-count.result ≡ length c.args.hands.items = search rules in
    let long = c.requires.1 in
    (c.requires.0, long ∙ sym count, search rules, whole_pool _ _ _ (count ∙ sym long) count c.requires.2, refl, IsPermutation-refl _)

pub unreachable-requires : goal.unreachable-requires
unreachable-requires g c =
    let inv = c.loop-left.invariant in
    let p = c.len-count.result - 1 - c.loop-left.left in
    let ways : ℕ = inv.1 in
    let sum : ways + c.loop-left.left ≡ c.len-count.result = inv.2 in
    let is : ways ≡ p + 1 = omega arith in
    let long : length inv.0 ≡ c.len-count.result = inv.3 in
    let small : p < length inv.0 = omega arith in
    let many : vec_len c.loop-left.hands ≡ length c.loop-left.hands.items = search rules in
    let count : vec_len c.loop-left.hands ≡ c.len-count.result = inv.4 in
    let inside : c.loop-from.from < length c.loop-left.hands.items = omega arith in
    some_way inv.0 c.loop-from.from p c.loop-left.hands.items small inside (by_ways _ _ _ _ _ is inv.5) c.in_default.ensures.none

pub close_at-requires-clause-leads : goal.close_at-requires-clause-leads
close_at-requires-clause-leads g c =
    let inv = c.loop-left.invariant in
    let p = c.len-count.result - 1 - c.loop-left.left in
    let ways : ℕ = inv.1 in
    let sum : ways + c.loop-left.left ≡ c.len-count.result = inv.2 in
    let is : ways ≡ p + 1 = omega arith in
    let long : length inv.0 ≡ c.len-count.result = inv.3 in
    let small : p < length inv.0 = omega arith in
    let back = gives_back inv.0 c.loop-from.from p _ _ _ small (by_ways _ _ _ _ _ is inv.5) c.in-Some.ensures.some in
    leads inv.0 c.loop-from.from (p + 1) p p _ c.in-Some.door back.0 back.1

pub loop-left-preserved : goal.loop-left-preserved
loop-left-preserved g c =
    let inv = c.loop-left.invariant in
    let p = c.len-count.result - 1 - c.loop-left.left in
    let ways : ℕ = inv.1 in
    let sum : ways + c.loop-left.left ≡ c.len-count.result = inv.2 in
    let is : ways ≡ p + 1 = omega arith in
    let long : length inv.0 ≡ c.len-count.result = inv.3 in
    let small : p < length inv.0 = omega arith in
    let inside : c.loop-from.from < length inv.0 = omega arith in
    let back = gives_back inv.0 c.loop-from.from p _ _ _ small (by_ways _ _ _ _ _ is inv.5) c.in-Some.ensures.some in
    let given = given_back _ _ _ _ c.in-Some.ensures.some in
    let taken = taken_back _ _ _ _ c.close_at.ensures.closes in
    let same : IsPermutation (all_taken c.close_at.new.hands.items) (all_taken c.loop-left.hands.items) = IsPermutation-trans _ _ _ taken.1
    (IsPermutation-sym _ _ given.1) in (
      inv.0,
      p,
      omega arith,
      long,
      search rules,
      closes inv.0 c.loop-from.from p _ _ _ inside back.0 c.close_at.ensures.closes,
      taken.0
          ∙ (given.0 ∙ inv.6),
      IsPermutation-trans _ _ _ same inv.7,
    )

pub loop-from-preserved : goal.loop-from-preserved
loop-from-preserved g c =
    let inv = c.loop-left.invariant in
    let ways : ℕ = inv.1 in
    let sum : ways + c.loop-left.left ≡ c.len-count.result = inv.2 in
    let none : ways ≡ 0 = omega arith in
    let many : vec_len c.loop-left.hands ≡ length c.loop-left.hands.items = search rules in (
      inv.0,
      inv.3,
      inv.4,
      turns_back _ _ _ _ (sym inv.3) (sym inv.4 ∙ many) (subst
          (λ (w : ℕ). Each (Left inv.0 c.loop-from.from w w) c.loop-left.hands.items) none inv.5),
      inv.6,
      inv.7,
    )

pub loop-place-init : goal.loop-place-init
loop-place-init g c =
    let inv = c.loop-from.invariant in
    let end : c.loop-from.from ≡ c.len-count.result = omega arith in
    let many : vec_len c.loop-from.hands ≡ length c.loop-from.hands.items = search rules in
    let closed = all_closed inv.0 c.len-count.result _ (sym inv.1) (sym inv.2 ∙ many)
    (subst (λ (f : ℕ). Each (Left inv.0 f c.len-count.result c.len-count.result) c.loop-from.hands.items) end inv.3) in
    (inv.2, record { closed = closed; within = λ k h e less. absurd (omega arith); sources = λ k h e less. absurd (omega arith) }, inv.4, inv.5)

pub loop-place-preserved : goal.loop-place-preserved
loop-place-preserved g c =
    let inv = c.loop-place.invariant in
    let more = counts _ _ _ inv.1 c.count_at.ensures.counts in
    (search rules, more.0, more.1 ∙ inv.2, first_same _ _ _ more.2 inv.3)

pub invariant_of-result : goal.invariant_of-result
invariant_of-result g c =
    let inv = c.loop-place.invariant in
    let many : vec_len c.loop-place.hands ≡ length c.loop-place.hands.items = search rules in
    let count : vec_len c.loop-place.hands ≡ c.len-count.result = inv.0 in
    record { closed = inv.1.closed; within = λ k h e. let small = at_length c.loop-place.hands.items k h e in inv.1.within k h e (omega arith) }

pub returns-clause-sourced : goal.returns-clause-sourced
returns-clause-sourced g c =
    let inv = c.loop-place.invariant in
    let many : vec_len c.loop-place.hands ≡ length c.loop-place.hands.items = search rules in
    let count : vec_len c.loop-place.hands ≡ c.len-count.result = inv.0 in
    all_sourced c.loop-place.hands.items inv.1.closed (λ k h e. let small = at_length c.loop-place.hands.items k h e in inv.1.sources k h e (omega arith))

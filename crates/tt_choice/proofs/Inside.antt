-- What agrees with a choice agrees with each choice that it is inside, so the extremes draw together inside.
use Rattle.std.proofs.Common.{◌≡◌, ℕ, ◌<◌, ◌≤◌, List, [], ◌∷◌, length, length-append, slice_index}
use Rattle.std.proofs.Common.{Option, None, Some, arith, inl, inr, refl, ◌∙◌, get_or-set_other, get_or-set_same}
use Rattle.std.proofs.lemmas.Bool.{cases_eq}
use Rattle.ttp_model.specs.declared.step.Kind.{Kind}
use Rattle.ttp_model.specs.Instance.{Instance, node_at}
use Rattle.ttp_model.specs.Rules.{IsInstance}
use Rattle.tt_choice.specs.Choice.{Choice, IsChoice, Agrees, BeginsWith, IsFixedTo, ArePair, fixed_cap, fixed_channel, least_round, greatest_round}
use Rattle.tt_choice.specs.declared.decision.Decision.{Decision}
use Rattle.tt_choice.specs.declared.decision.Decision.TheVariants as decided
use Rattle.tt_choice.specs.declared.reversal.Reversal.{Reversal}
use Rattle.tt_choice.specs.Changes.{choice_after, place_next, fix_option, order_pair, at_most, at_least, fix_channel}
use Rattle.tt_choice.specs.Kinds.{IsOpen, children, child, decision_of}
use Rattle.tt_choice.specs.Decisions.{IsOpenDecision}
use Rattle.tt_choice.specs.Extremes.{Measure, IsLeastOf, IsMostOf, start_at, end_at, cap_at, dur_at, start_least, start_most, end_least, end_most, cap_least, cap_most, dur_least}
use Rattle.tt_choice.specs.Inside.{IsInside, IsKeptBy}
use Rattle.tt_choice.proofs.Before.{put_kept}
use Rattle.tt_choice.proofs.Extend.{first_part}
use Rattle.tt_choice.proofs.Rows.{decision_is_open}
use Rattle.tt_choice.proofs.Exact.{start_least_is_least, start_most_is_most, end_least_is_least, end_most_is_most, cap_least_is_least, cap_most_is_most, dur_least_is_least}

pub begins_too : (i : Instance) (inner outer : Choice) (order : List ℕ) → IsInside i inner outer → BeginsWith inner.prefix order → BeginsWith outer.prefix order
begins_too i inner outer order inside begins k h = begins k (omega (arith, h, inside.longer)) ∙ inside.prefix k h

pub fixed_too : (one other : Option ℕ) (number : ℕ) → IsKeptBy one other → IsFixedTo other number → IsFixedTo one number
fixed_too None other number kept fixed = tt
fixed_too (Some one) other number kept fixed = rw kept at fixed

pub Agrees-outside : (i : Instance) (inner outer : Choice) (order caps : List ℕ) → IsInside i inner outer → Agrees i inner order caps → Agrees i outer order caps
Agrees-outside i inner outer order caps inside agrees = record {
  nodes = agrees.nodes;
  prefix = begins_too i inner outer order inside agrees.prefix;
  caps_length = agrees.caps_length;
  own = agrees.own;
  fixed = λ n h. fixed_too (fixed_cap outer n) (fixed_cap inner n) (slice_index caps n) (inside.fixed n h) (agrees.fixed n h);
}

least_rises : (i : Instance) (inner outer : Choice) (measure : Measure) (low high : ℕ) → IsInside i inner outer → IsLeastOf i outer measure low → IsLeastOf i inner measure high → low ≤ high
least_rises i inner outer measure low high inside least reached =
    let above = least.bound reached.order reached.caps (Agrees-outside i inner outer reached.order reached.caps inside reached.agrees) in
    omega (arith, above, reached.reached)

most_falls : (i : Instance) (inner outer : Choice) (measure : Measure) (low high : ℕ) → IsInside i inner outer → IsMostOf i outer measure high → IsMostOf i inner measure low → low ≤ high
most_falls i inner outer measure low high inside most reached =
    let below = most.bound reached.order reached.caps (Agrees-outside i inner outer reached.order reached.caps inside reached.agrees) in
    omega (arith, below, reached.reached)

-- The extremes, where each of the two is a choice of the instance.
module _ (i : Instance) (inner outer : Choice) (w : IsInstance i) (ok : IsChoice i inner) (well : IsChoice i outer) (inside : IsInside i inner outer) (n : ℕ) (there : n < length i.nodes) where
  pub start_least_rises : (r : ℕ) → start_least i outer n r ≤ start_least i inner n r
  start_least_rises r = least_rises i inner outer (start_at i n r) _ _ inside (start_least_is_least i outer n r w well there) (start_least_is_least i inner n r w ok there)

  pub start_most_falls : (r : ℕ) → start_most i inner n r ≤ start_most i outer n r
  start_most_falls r = most_falls i inner outer (start_at i n r) _ _ inside (start_most_is_most i outer n r w well there) (start_most_is_most i inner n r w ok there)

  pub end_least_rises : (r : ℕ) → end_least i outer n r ≤ end_least i inner n r
  end_least_rises r = least_rises i inner outer (end_at i n r) _ _ inside (end_least_is_least i outer n r w well there) (end_least_is_least i inner n r w ok there)

  pub end_most_falls : (r : ℕ) → end_most i inner n r ≤ end_most i outer n r
  end_most_falls r = most_falls i inner outer (end_at i n r) _ _ inside (end_most_is_most i outer n r w well there) (end_most_is_most i inner n r w ok there)

  pub cap_least_rises : cap_least i outer n ≤ cap_least i inner n
  cap_least_rises = least_rises i inner outer (cap_at n) _ _ inside (cap_least_is_least i outer n w well there) (cap_least_is_least i inner n w ok there)

  pub cap_most_falls : cap_most i inner n ≤ cap_most i outer n
  cap_most_falls = most_falls i inner outer (cap_at n) _ _ inside (cap_most_is_most i outer n w well there) (cap_most_is_most i inner n w ok there)

  pub dur_least_rises : dur_least i outer n ≤ dur_least i inner n
  dur_least_rises = least_rises i inner outer (dur_at i n) _ _ inside (dur_least_is_least i outer n w well there) (dur_least_is_least i inner n w ok there)

-- Whatever is kept, a choice is inside itself.
pub IsInside-keeping : (i : Instance) (c : Choice) (kept : List Reversal) → IsInside i c (record c { kept = kept })
IsInside-keeping i c kept = record {
  longer = omega arith;
  prefix = λ k h. refl;
  fixed = λ n h. same_kept (fixed_cap c n);
  pairs = λ p q is. is;
  from = λ m h. omega arith;
  until = λ m h. omega arith;
  channels = λ m h. same_kept (fixed_channel c m);
}
  where
    same_kept : (one : Option ℕ) → IsKeptBy one one
    same_kept None = tt
    same_kept (Some fixed) = refl

pub IsInside-self : (i : Instance) (c : Choice) → IsInside i c c
IsInside-self i c = IsInside-keeping i c c.kept

-- Each decision leads inside.
pub IsInside-place : (i : Instance) (c : Choice) (n : ℕ) → IsInside i (place_next c n) c
IsInside-place i c n =
    let is = IsInside-self i c in
    record {
      longer = omega (arith, length-append c.prefix (n ∷ []));
      prefix = λ k h. first_part c.prefix (n ∷ []) k h;
      fixed = is.fixed;
      pairs = is.pairs;
      from = is.from;
      until = is.until;
      channels = is.channels;
    }

pub IsInside-fix : (i : Instance) (c : Choice) (n k : ℕ) → fixed_cap c n ≡ None → IsInside i (fix_option i c n k) c
IsInside-fix i c n k none =
    let is = IsInside-self i c in
    record {
      longer = is.longer;
      prefix = is.prefix;
      fixed = λ m h. elim (cases_eq m n) [
        | inl same ↦ rw (same, none) tt
        | inr differ ↦ rw (get_or-set_other c.fixed n m (Some (slice_index (node_at i n).capacities k)) None differ) (is.fixed m h)
      ];
      pairs = is.pairs;
      from = is.from;
      until = is.until;
      channels = is.channels;
    }

pub IsInside-order : (i : Instance) (c : Choice) (p q : ℕ) → IsChoice i c → ArePair i p q → IsInside i (order_pair c p q) c
IsInside-order i c p q ok pair =
    let is = IsInside-self i c in
    record {
      longer = is.longer;
      prefix = is.prefix;
      fixed = is.fixed;
      pairs = λ j k holds. put_kept c.before p q j k (omega (arith, pair.first, ok.processes)) (omega (arith, pair.second, ok.processes)) (rw ok.processes ok.tests) holds;
      from = is.from;
      until = is.until;
      channels = is.channels;
    }

pub IsInside-at_most : (i : Instance) (c : Choice) (m r : ℕ) → IsChoice i c → m < length i.messages → r ≤ greatest_round c m → IsInside i (at_most c m r) c
IsInside-at_most i c m r ok there below =
    let is = IsInside-self i c in
    record {
      longer = is.longer;
      prefix = is.prefix;
      fixed = is.fixed;
      pairs = is.pairs;
      from = is.from;
      until = λ k h. elim (cases_eq k m) [
        | inl same ↦ rw (same, get_or-set_same c.hi m r 0 (omega (arith, there, ok.hi_length))) below
        | inr differ ↦ omega (arith, get_or-set_other c.hi m k r 0 differ)
      ];
      channels = is.channels;
    }

pub IsInside-at_least : (i : Instance) (c : Choice) (m r : ℕ) → IsChoice i c → m < length i.messages → least_round c m ≤ r → IsInside i (at_least c m r) c
IsInside-at_least i c m r ok there above =
    let is = IsInside-self i c in
    record {
      longer = is.longer;
      prefix = is.prefix;
      fixed = is.fixed;
      pairs = is.pairs;
      from = λ k h. elim (cases_eq k m) [
        | inl same ↦ rw (same, get_or-set_same c.lo m r 0 (omega (arith, there, ok.lo_length))) above
        | inr differ ↦ omega (arith, get_or-set_other c.lo m k r 0 differ)
      ];
      until = is.until;
      channels = is.channels;
    }

pub IsInside-fix_channel : (i : Instance) (c : Choice) (m k : ℕ) → fixed_channel c m ≡ None → IsInside i (fix_channel c m k) c
IsInside-fix_channel i c m k none =
    let is = IsInside-self i c in
    record {
      longer = is.longer;
      prefix = is.prefix;
      fixed = is.fixed;
      pairs = is.pairs;
      from = is.from;
      until = is.until;
      channels = λ n h. elim (cases_eq n m) [
        | inl same ↦ rw (same, none) tt
        | inr differ ↦ rw (get_or-set_other c.channels m n (Some k) None differ) (is.channels n h)
      ];
    }

pub IsInside-after : (i : Instance) (c : Choice) (δ : Decision) → IsChoice i c → IsOpenDecision i c δ → IsInside i (choice_after i c δ) c
IsInside-after i c (decided.Place n) ok is = IsInside-place i c n
IsInside-after i c (decided.Cap n k) ok is = IsInside-fix i c n k is.free.1
IsInside-after i c (decided.Before p q) ok is = IsInside-order i c p q ok is.pair
IsInside-after i c (decided.AtMost m r) ok is = IsInside-at_most i c m r ok is.message (omega (arith, is.below))
IsInside-after i c (decided.AtLeast m r) ok is = IsInside-at_least i c m r ok is.message (omega (arith, is.above))
IsInside-after i c (decided.Channel m k) ok is = IsInside-fix_channel i c m k is.free.free

-- and so each child is inside
pub IsInside-child : (i : Instance) (c : Choice) (kind : Kind) (k : ℕ) → IsChoice i c → IsOpen i c kind → k < children i c kind → IsInside i (child i c kind k) c
IsInside-child i c kind k ok is there = IsInside-after i c (decision_of i c kind k) ok (decision_is_open i c kind k is there)

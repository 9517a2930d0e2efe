-- What some of the decisions make is wider than what all of them make, and they are open there too.
use Rattle.std.proofs.Common.{◌≡◌, ℕ, ◌*◌, ◌<◌, ◌==◌, ◌&&◌, not, List, [], ◌∷◌, ◌++◌, length, slice_index, Option, None, Some}
use Rattle.std.proofs.Common.{Bool, true, false, IsTrue, IsFalse, arith, inl, inr, refl, ap, sym, subst, ◌∙◌, append_assoc, get_or-set_other, get_or-set_same}
use Rattle.std.specs.List.{list_any}
use Rattle.std.proofs.lemmas.List.{append-nil}
use Rattle.std.proofs.lemmas.Bool.{cases_eq, both_ways}
use Rattle.ttp_model.specs.Instance.{Instance, node_at}
use Rattle.tt_choice.specs.declared.decision.Decision.{Decision}
use Rattle.tt_choice.specs.declared.decision.Decision.TheVariants as decided
use Rattle.ttp_model.specs.declared.plan.Plan.{Plan}
use Rattle.ttp_model.specs.Plans.{channel_of}
use Rattle.tt_choice.specs.Choice.{Choice, IsChoice, IsIn, ArePair, fixed_cap, fixed_channel, is_before}
use Rattle.tt_choice.specs.Branches.{order_pair}
use Rattle.tt_choice.specs.Decisions.{choice_after, choice_after_all, IsOpenDecision, AreOpenDecisions}
use Rattle.tt_choice.specs.Inside.{IsInside, IsKeptBy}
use Rattle.tt_choice.specs.Kept.{Marked, keep, drop, all_of, kept_of, takes_place, KeepsPlaces, places_kept}
use Rattle.tt_choice.proofs.Before.{put_kept, put_only, put_same}
use Rattle.tt_choice.proofs.Open.{node_outside, pair_outside, cut_outside, channel_outside}
use Rattle.tt_choice.proofs.Decisions.{IsChoice-after}
use Rattle.tt_choice.proofs.Inside.{begins_too, fixed_too, IsInside-self, IsInside-after}

kept_twice : (one other last : Option ℕ) → IsKeptBy one other → IsKeptBy other last → IsKeptBy one last
kept_twice None other last first second = tt
kept_twice (Some fixed) other last first second = rw first at second

pub IsInside-trans : (i : Instance) (a b c : Choice) → IsInside i a b → IsInside i b c → IsInside i a c
IsInside-trans i a b c first second = record {
  longer = omega (arith, first.longer, second.longer);
  prefix = λ k h. first.prefix k (omega (arith, h, second.longer)) ∙ second.prefix k h;
  fixed = λ n h. kept_twice (fixed_cap c n) (fixed_cap b n) (fixed_cap a n) (second.fixed n h) (first.fixed n h);
  pairs = λ p q holds. first.pairs p q (second.pairs p q holds);
  from = λ m h. omega (arith, first.from m h, second.from m h);
  until = λ m h. omega (arith, first.until m h, second.until m h);
  channels = λ m h. kept_twice (fixed_channel c m) (fixed_channel b m) (fixed_channel a m) (second.channels m h) (first.channels m h);
}

-- plans in a choice are in each choice that it is inside of
pub IsIn-outside : (i : Instance) (inner outer : Choice) (plan : Plan) → IsInside i inner outer → IsIn i inner plan → IsIn i outer plan
IsIn-outside i inner outer plan inside is = record {
  lengths = is.lengths;
  prefix = begins_too i inner outer plan.order inside is.prefix;
  fixed = λ n h. fixed_too (fixed_cap outer n) (fixed_cap inner n) (slice_index plan.caps n) (inside.fixed n h) (is.fixed n h);
  pairs = λ p q holds. is.pairs p q (inside.pairs p q holds);
  ranges = λ m h. (omega (arith, inside.from m h, (is.ranges m h).0), omega (arith, inside.until m h, (is.ranges m h).1));
  channels = λ m h. fixed_too (fixed_channel outer m) (fixed_channel inner m) (channel_of plan m) (inside.channels m h) (is.channels m h);
}

-- with more decisions a choice is inside the one without them
inside_more : (i : Instance) (c : Choice) (ds : List Decision) → IsChoice i c → AreOpenDecisions i c ds → IsInside i (choice_after_all i c ds) c
inside_more i c [] ok are = IsInside-self i c
inside_more i c (δ ∷ ds) ok are =
    IsInside-trans i (choice_after_all i (choice_after i c δ) ds) (choice_after i c δ) c
    (inside_more i (choice_after i c δ) ds (IsChoice-after i c δ ok are.0) are.1)
    (IsInside-after i c δ ok are.0)

pub inside_front : (i : Instance) (c : Choice) (ds es : List Decision) → IsChoice i c → AreOpenDecisions i c (ds ++ es) → IsInside i (choice_after_all i c (ds ++ es)) (choice_after_all i c ds)
inside_front i c [] es ok are = inside_more i c es ok are
inside_front i c (δ ∷ ds) es ok are = inside_front i (choice_after i c δ) ds es (IsChoice-after i c δ ok are.0) are.1

-- c is made by all decisions so far, d by those that are kept; `all` says whether all places so far are kept
pub record IsWider (i : Instance) (all : Bool) (c d : Choice) : Type 0 where
  pub well : IsChoice i c
  pub also : IsChoice i d
  pub inside : IsInside i c d
  pub rest : List ℕ
  pub front : c.prefix ≡ d.prefix ++ rest
  pub whole : IsTrue all → rest ≡ []

pub same_prefix : (i : Instance) (all : Bool) (c d : Choice) → IsWider i all c d → IsTrue all → c.prefix ≡ d.prefix
same_prefix i all c d wide is = wide.front ∙ ap (λ (rest : List ℕ). d.prefix ++ rest) (wide.whole is) ∙ append-nil d.prefix

and_false : (b : Bool) → (b && false) ≡ false
and_false true = refl
and_false false = refl

and_true : (b : Bool) → (b && true) ≡ true → b ≡ true
and_true true holds = refl
and_true false holds = holds

module _ (i : Instance) (all : Bool) (c d : Choice) (wide : IsWider i all c d) where
  -- a decision that is open where all are made is open where some are
  pub open_wider : (δ : Decision) → (IsTrue (takes_place δ) → IsTrue all) → IsOpenDecision i c δ → IsOpenDecision i d δ
  open_wider (decided.Place n) places is = record {
    node = is.node;
    new = subst (λ (prefix : List ℕ). IsFalse (list_any (λ (m : ℕ). m == n) prefix)) (same_prefix i all c d wide (places refl)) is.new;
  }
  open_wider (decided.Cap n k) places is = record { free = node_outside i c d wide.inside n is.free; option = is.option }
  open_wider (decided.Before p q) places is = pair_outside i c d wide.inside p q is
  open_wider (decided.AtMost m r) places is = cut_outside i c d wide.inside m r is
  open_wider (decided.AtLeast m r) places is = record {
    message = is.message;
    above = omega (arith, is.above, wide.inside.from m is.message);
    to = omega (arith, is.to, wide.inside.until m is.message);
  }
  open_wider (decided.Channel m k) places is = record { free = channel_outside i c d wide.inside m is.free; known = is.known }

  both_fixed : (n k m : ℕ) → n < length i.nodes → m < length i.nodes → IsKeptBy (fixed_cap (choice_after i d (decided.Cap n k)) m) (fixed_cap (choice_after i c (decided.Cap n k)) m)
  both_fixed n k m there h =
      let option = Some (slice_index (node_at i n).capacities k) in
      elim (cases_eq m n) [
        | inl same ↦ rw (same, get_or-set_same d.fixed n option None (omega (arith, there, wide.also.fixed_length)), get_or-set_same c.fixed n option None (omega (arith, there, wide.well.fixed_length))) refl
        | inr differ ↦ rw (get_or-set_other d.fixed n m option None differ, get_or-set_other c.fixed n m option None differ) (wide.inside.fixed m h)
      ]

  both_on_it : (m k n : ℕ) → m < length i.messages → n < length i.messages → IsKeptBy (fixed_channel (choice_after i d (decided.Channel m k)) n) (fixed_channel (choice_after i c (decided.Channel m k)) n)
  both_on_it m k n there h = elim (cases_eq n m) [
    | inl same ↦ rw (same, get_or-set_same d.channels m (Some k) None (omega (arith, there, wide.also.channels_length)), get_or-set_same c.channels m (Some k) None (omega (arith, there, wide.well.channels_length))) refl
    | inr differ ↦ rw (get_or-set_other d.channels m n (Some k) None differ, get_or-set_other c.channels m n (Some k) None differ) (wide.inside.channels n h)
  ]

  both_ordered : (p q : ℕ) → ArePair i p q → (j k : ℕ) → IsTrue (is_before (order_pair d p q) j k) → IsTrue (is_before (order_pair c p q) j k)
  both_ordered p q pair j k holds =
      let row : p < c.before.processes = omega (arith, pair.first, wide.well.processes) in
      let column : q < c.before.processes = omega (arith, pair.second, wide.well.processes) in
      let size : length c.before.tests ≡ c.before.processes * c.before.processes = rw wide.well.processes wide.well.tests in
      elim (put_only d.before p q j k (omega (arith, pair.first, wide.also.processes)) (omega (arith, pair.second, wide.also.processes)) holds) [
        | inl old ↦ put_kept c.before p q j k row column size (wide.inside.pairs j k old)
        | inr new ↦ rw (new.0, new.1) (put_same c.before p q row column size)
      ]

  -- so with one decision more that is kept
  inside_both : (δ : Decision) → (IsTrue (takes_place δ) → IsTrue all) → IsOpenDecision i c δ → IsInside i (choice_after i c δ) (choice_after i d δ)
  inside_both (decided.Place n) places is =
      let same = same_prefix i all c d wide (places refl) in
      record {
        longer = rw same (omega arith);
        prefix = rw same (λ k h. refl);
        fixed = wide.inside.fixed;
        pairs = wide.inside.pairs;
        from = wide.inside.from;
        until = wide.inside.until;
        channels = wide.inside.channels;
      }
  inside_both (decided.Cap n k) places is = record {
    longer = wide.inside.longer;
    prefix = wide.inside.prefix;
    fixed = λ m h. both_fixed n k m is.free.0 h;
    pairs = wide.inside.pairs;
    from = wide.inside.from;
    until = wide.inside.until;
    channels = wide.inside.channels;
  }
  inside_both (decided.Before p q) places is = record {
    longer = wide.inside.longer;
    prefix = wide.inside.prefix;
    fixed = wide.inside.fixed;
    pairs = both_ordered p q is.pair;
    from = wide.inside.from;
    until = wide.inside.until;
    channels = wide.inside.channels;
  }
  inside_both (decided.AtMost m r) places is = record {
    longer = wide.inside.longer;
    prefix = wide.inside.prefix;
    fixed = wide.inside.fixed;
    pairs = wide.inside.pairs;
    from = wide.inside.from;
    until = λ k h. elim (cases_eq k m) [
      | inl same ↦ rw (same, get_or-set_same c.hi m r 0 (omega (arith, is.message, wide.well.hi_length)), get_or-set_same d.hi m r 0 (omega (arith, is.message, wide.also.hi_length))) (omega arith)
      | inr differ ↦ omega (arith, get_or-set_other c.hi m k r 0 differ, get_or-set_other d.hi m k r 0 differ, wide.inside.until k h)
    ];
    channels = wide.inside.channels;
  }
  inside_both (decided.AtLeast m r) places is = record {
    longer = wide.inside.longer;
    prefix = wide.inside.prefix;
    fixed = wide.inside.fixed;
    pairs = wide.inside.pairs;
    from = λ k h. elim (cases_eq k m) [
      | inl same ↦ rw (same, get_or-set_same c.lo m r 0 (omega (arith, is.message, wide.well.lo_length)), get_or-set_same d.lo m r 0 (omega (arith, is.message, wide.also.lo_length))) (omega arith)
      | inr differ ↦ omega (arith, get_or-set_other c.lo m k r 0 differ, get_or-set_other d.lo m k r 0 differ, wide.inside.from k h)
    ];
    until = wide.inside.until;
    channels = wide.inside.channels;
  }
  inside_both (decided.Channel m k) places is = record {
    longer = wide.inside.longer;
    prefix = wide.inside.prefix;
    fixed = wide.inside.fixed;
    pairs = wide.inside.pairs;
    from = wide.inside.from;
    until = wide.inside.until;
    channels = λ n h. both_on_it m k n is.free.message h;
  }

  rest_both : (δ : Decision) → (IsTrue (takes_place δ) → IsTrue all) → (choice_after i c δ).prefix ≡ (choice_after i d δ).prefix ++ wide.rest
  rest_both (decided.Place n) places =
      let is = places refl in
      ap (λ (prefix : List ℕ). prefix ++ n ∷ []) (same_prefix i all c d wide is)
      ∙ sym (append-nil (d.prefix ++ n ∷ []))
      ∙ ap (λ (rest : List ℕ). (d.prefix ++ n ∷ []) ++ rest) (sym (wide.whole is))
  rest_both (decided.Cap n k) places = wide.front
  rest_both (decided.Before p q) places = wide.front
  rest_both (decided.AtMost m r) places = wide.front
  rest_both (decided.AtLeast m r) places = wide.front
  rest_both (decided.Channel m k) places = wide.front

  pub wider_kept : (δ : Decision) → (IsTrue (takes_place δ) → IsTrue all) → IsOpenDecision i c δ → IsWider i all (choice_after i c δ) (choice_after i d δ)
  wider_kept δ places is = record {
    well = IsChoice-after i c δ wide.well is;
    also = IsChoice-after i d δ wide.also (open_wider δ places is);
    inside = inside_both δ places is;
    rest = wide.rest;
    front = rest_both δ places;
    whole = wide.whole;
  }

  rest_one : (δ : Decision) → (rest : List ℕ) × ((choice_after i c δ).prefix ≡ d.prefix ++ rest) × (IsTrue (all && not (takes_place δ)) → rest ≡ [])
  rest_one (decided.Place n) = (
    wide.rest ++ n ∷ [],
    ap (λ (prefix : List ℕ). prefix ++ n ∷ []) wide.front ∙ append_assoc d.prefix wide.rest (n ∷ []),
    (λ holds. absurd (both_ways _ (and_false all) holds)),
  )
  rest_one (decided.Cap n k) = (wide.rest, wide.front, λ holds. wide.whole (and_true all holds))
  rest_one (decided.Before p q) = (wide.rest, wide.front, λ holds. wide.whole (and_true all holds))
  rest_one (decided.AtMost m r) = (wide.rest, wide.front, λ holds. wide.whole (and_true all holds))
  rest_one (decided.AtLeast m r) = (wide.rest, wide.front, λ holds. wide.whole (and_true all holds))
  rest_one (decided.Channel m k) = (wide.rest, wide.front, λ holds. wide.whole (and_true all holds))

  -- and with one that isn't
  pub wider_dropped : (δ : Decision) → IsOpenDecision i c δ → IsWider i (all && not (takes_place δ)) (choice_after i c δ) d
  wider_dropped δ is =
      let more = rest_one δ in
      record {
        well = IsChoice-after i c δ wide.well is;
        also = wide.also;
        inside = IsInside-trans i (choice_after i c δ) c d (IsInside-after i c δ wide.well is) wide.inside;
        rest = more.0;
        front = more.1;
        whole = more.2;
      }

-- all decisions and the kept ones, from where they are the same on
pub wider_itself : (i : Instance) (c : Choice) → IsChoice i c → IsWider i true c c
wider_itself i c ok = record {
  well = ok;
  also = ok;
  inside = IsInside-self i c;
  rest = [];
  front = sym (append-nil c.prefix);
  whole = λ _. refl;
}

-- the kept ones are open, one after another, and make what is wider
pub open_kept : (i : Instance) (all : Bool) (c d : Choice) (ms : List Marked) → IsWider i all c d → AreOpenDecisions i c (all_of ms) → KeepsPlaces all ms → AreOpenDecisions i d (kept_of ms)
open_kept i all c d [] wide are places = tt
open_kept i all c d (keep δ ∷ ms) wide are places =
    (open_wider i all c d wide δ places.0 are.0, open_kept i all (choice_after i c δ) (choice_after i d δ) ms (wider_kept i all c d wide δ places.0 are.0) are.1 places.1)
open_kept i all c d (drop δ ∷ ms) wide are places =
    open_kept i (all && not (takes_place δ)) (choice_after i c δ) d ms (wider_dropped i all c d wide δ are.0) are.1 places

pub wider_kept_all : (i : Instance) (all : Bool) (c d : Choice) (ms : List Marked) → IsWider i all c d → AreOpenDecisions i c (all_of ms) → KeepsPlaces all ms → IsWider i (places_kept all ms) (choice_after_all i c (all_of ms)) (choice_after_all i d (kept_of ms))
wider_kept_all i all c d [] wide are places = wide
wider_kept_all i all c d (keep δ ∷ ms) wide are places =
    wider_kept_all i all (choice_after i c δ) (choice_after i d δ) ms (wider_kept i all c d wide δ places.0 are.0) are.1 places.1
wider_kept_all i all c d (drop δ ∷ ms) wide are places =
    wider_kept_all i (all && not (takes_place δ)) (choice_after i c δ) d ms (wider_dropped i all c d wide δ are.0) are.1 places

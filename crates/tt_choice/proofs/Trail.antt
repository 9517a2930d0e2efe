-- Decisions that are kept, and taken back.
use Rattle.std.proofs.Common.{◌≡◌, ℕ, ◌-◌, List, [], ◌∷◌, ◌++◌, length, slice_index, slice_set, take, Some, None, true, false, arith, refl, ap, sym, ◌∙◌}
use Rattle.std.proofs.lemmas.List.{length-append, take-append-le, take_all, set-set, set-get_or, same_from_push}
use Rattle.ttp_model.specs.Instance.{Instance, node_at}
use Rattle.tt_choice.specs.declared.decision.Decision.{Decision}
use Rattle.tt_choice.specs.declared.decision.Decision.TheVariants as decided
use Rattle.tt_choice.specs.declared.reversal.Reversal.{Reversal}
use Rattle.tt_choice.specs.declared.reversal.Reversal.TheVariants.{Unplace, Free, Unorder, Most, Least, FreeChannel}
use Rattle.tt_choice.specs.Precedence.{place_in, put_before, take_back}
use Rattle.tt_choice.specs.Choice.{Choice, IsChoice, bare}
use Rattle.tt_choice.specs.Branches.{IsUnplaced, IsUnorderedPair, CutsRange, IsFreeChannel}
use Rattle.tt_choice.specs.Decisions.{choice_after, choice_after_all, IsFreeOption, IsFreeOnChannel, IsOpenDecision, reversal_of, kept_after, taken_back, IsUndone}
use Rattle.tt_choice.proofs.Before.{test_of}
use Rattle.tt_choice.proofs.Decisions.{IsChoice-after}

-- Which decisions are kept changes nothing else.
pub IsChoice-keeping : (i : Instance) (c : Choice) (kept : List Reversal) → IsChoice i c → IsChoice i (record c { kept = kept })
IsChoice-keeping i c kept ok = record {
  few = ok.few;
  nodes = ok.nodes;
  once = ok.once;
  fixed_length = ok.fixed_length;
  options = ok.options;
  processes = ok.processes;
  tests = ok.tests;
  pairs = ok.pairs;
  unordered = ok.unordered;
  lo_length = ok.lo_length;
  hi_length = ok.hi_length;
  ranges = ok.ranges;
  within = ok.within;
  channels_length = ok.channels_length;
  channels = ok.channels;
}

pub IsUnplaced-keeping : (i : Instance) (c : Choice) (kept : List Reversal) (n : ℕ) → IsUnplaced i c n → IsUnplaced i (record c { kept = kept }) n
IsUnplaced-keeping i c kept n is = record { node = is.node; new = is.new }

pub IsUnorderedPair-keeping : (i : Instance) (c : Choice) (kept : List Reversal) (p q : ℕ) → IsUnorderedPair i c p q → IsUnorderedPair i (record c { kept = kept }) p q
IsUnorderedPair-keeping i c kept p q is = record { pair = is.pair; not_before = is.not_before; not_after = is.not_after }

pub CutsRange-keeping : (i : Instance) (c : Choice) (kept : List Reversal) (m r : ℕ) → CutsRange i c m r → CutsRange i (record c { kept = kept }) m r
CutsRange-keeping i c kept m r is = record { message = is.message; from = is.from; below = is.below }

pub IsFreeChannel-keeping : (i : Instance) (c : Choice) (kept : List Reversal) (m : ℕ) → IsFreeChannel i c m → IsFreeChannel i (record c { kept = kept }) m
IsFreeChannel-keeping i c kept m is = record { message = is.message; free = is.free }

pub IsOpenDecision-keeping : (i : Instance) (c : Choice) (kept : List Reversal) (d : Decision) → IsOpenDecision i c d → IsOpenDecision i (record c { kept = kept }) d
IsOpenDecision-keeping i c kept (decided.Place n) is = IsUnplaced-keeping i c kept n is
IsOpenDecision-keeping i c kept (decided.Cap n k) is = record { free = is.free; option = is.option }
IsOpenDecision-keeping i c kept (decided.Before p q) is = IsUnorderedPair-keeping i c kept p q is
IsOpenDecision-keeping i c kept (decided.AtMost m r) is = CutsRange-keeping i c kept m r is
IsOpenDecision-keeping i c kept (decided.AtLeast m r) is = record { message = is.message; above = is.above; to = is.to }
IsOpenDecision-keeping i c kept (decided.Channel m k) is = record { free = IsFreeChannel-keeping i c kept m is.free; known = is.known }

pub after-bare : (i : Instance) (c : Choice) (d : Decision) → choice_after i (bare c) d ≡ choice_after i c d
after-bare i c (decided.Place n) = refl
after-bare i c (decided.Cap n k) = refl
after-bare i c (decided.Before p q) = refl
after-bare i c (decided.AtMost m r) = refl
after-bare i c (decided.AtLeast m r) = refl
after-bare i c (decided.Channel m k) = refl

-- A choice that a change made keeps no decision, and is its own bare copy.
pub none_kept-after : (i : Instance) (c : Choice) (d : Decision) → (choice_after i c d).kept ≡ []
none_kept-after i c (decided.Place n) = refl
none_kept-after i c (decided.Cap n k) = refl
none_kept-after i c (decided.Before p q) = refl
none_kept-after i c (decided.AtMost m r) = refl
none_kept-after i c (decided.AtLeast m r) = refl
none_kept-after i c (decided.Channel m k) = refl

pub none_kept-after_all : (i : Instance) (c : Choice) (ds : List Decision) → c.kept ≡ [] → (choice_after_all i c ds).kept ≡ []
none_kept-after_all i c [] none = none
none_kept-after_all i c (d ∷ ds) none = none_kept-after_all i (choice_after i c d) ds (none_kept-after i c d)

pub bare-same : (c : Choice) → c.kept ≡ [] → bare c ≡ c
bare-same c none = λ j. record c { kept = sym none j }

pub IsChoice-kept_after : (i : Instance) (c : Choice) (d : Decision) → IsChoice i c → IsOpenDecision i c d → IsChoice i (kept_after i c d)
IsChoice-kept_after i c d ok is = IsChoice-keeping i (choice_after i c d) (c.kept ++ reversal_of c d ∷ []) (IsChoice-after i c d ok is)

-- A list or a table is what it was.
last_dropped : (xs : List ℕ) (n : ℕ) → take (length (xs ++ n ∷ []) - 1) (xs ++ n ∷ []) ≡ xs
last_dropped xs n =
    let long : length (xs ++ n ∷ []) - 1 ≡ length xs = omega (arith, length-append xs (n ∷ [])) in
    rw long (take-append-le (length xs) xs (n ∷ []) (omega arith) ∙ take_all (length xs) xs (omega arith))

free_again : (i : Instance) (c : Choice) (n k : ℕ) → IsFreeOption i c n k → slice_set (slice_set c.fixed n (Some (slice_index (node_at i n).capacities k))) n None ≡ c.fixed
free_again i c n k is = set-set c.fixed n (Some (slice_index (node_at i n).capacities k)) None ∙ (ap (slice_set c.fixed n) (sym is.free.1) ∙ set-get_or c.fixed n None)

taken_out : (i : Instance) (c : Choice) (p q : ℕ) → IsChoice i c → IsUnorderedPair i c p q → take_back (put_before c.before p q) p q ≡ c.before
taken_out i c p q ok is =
    let test = test_of c.before p q (omega (arith, ok.processes, is.pair.first)) (omega (arith, ok.processes, is.pair.second)) in
    let tests = set-set c.before.tests (place_in c.before p q) true false ∙ (ap (slice_set c.before.tests (place_in c.before p q)) (sym is.not_before ∙ test) ∙ set-get_or c.before.tests (place_in c.before p q) false) in
    ap (λ xs. record { processes = c.before.processes; tests = xs }) tests

round_again : (xs : List ℕ) (m r : ℕ) → slice_set (slice_set xs m r) m (slice_index xs m) ≡ xs
round_again xs m r = set-set xs m r (slice_index xs m) ∙ set-get_or xs m 0

channel_again : (i : Instance) (c : Choice) (m k : ℕ) → IsFreeOnChannel i c m k → slice_set (slice_set c.channels m (Some k)) m None ≡ c.channels
channel_again i c m k is = set-set c.channels m (Some k) None ∙ (ap (slice_set c.channels m) (sym is.free.free) ∙ set-get_or c.channels m None)

-- So is a choice that is decided on and taken back.
pub taken_back-kept_after : (i : Instance) (c : Choice) (d : Decision) → IsChoice i c → IsOpenDecision i c d → record (taken_back (kept_after i c d) (reversal_of c d)) { kept = c.kept } ≡ c
taken_back-kept_after i c (decided.Place n) ok is = λ j. record c { prefix = last_dropped c.prefix n j }
taken_back-kept_after i c (decided.Cap n k) ok is = λ j. record c { fixed = free_again i c n k is j }
taken_back-kept_after i c (decided.Before p q) ok is = λ j. record c { before = taken_out i c p q ok is j }
taken_back-kept_after i c (decided.AtMost m r) ok is = λ j. record c { hi = round_again c.hi m r j }
taken_back-kept_after i c (decided.AtLeast m r) ok is = λ j. record c { lo = round_again c.lo m r j }
taken_back-kept_after i c (decided.Channel m k) ok is = λ j. record c { channels = channel_again i c m k is j }

pub undone-kept_after : (i : Instance) (c back : Choice) (d : Decision) → IsChoice i c → IsOpenDecision i c d → IsUndone (kept_after i c d) back → back ≡ c
undone-kept_after i c back d ok is undone = undone c.kept (reversal_of c d) refl ∙ taken_back-kept_after i c d ok is

-- What the last kept decision changed is changed back, whichever it is.
taken_same : (c : Choice) (kept : List Reversal) (r : Reversal) → record (taken_back (record c { kept = kept }) r) { kept = kept } ≡ record (taken_back c r) { kept = kept }
taken_same c kept Unplace = refl
taken_same c kept (Free n) = refl
taken_same c kept (Unorder p q unordered) = refl
taken_same c kept (Most m r) = refl
taken_same c kept (Least m r) = refl
taken_same c kept (FreeChannel m) = refl

pub undone : (old new : Choice) (kept : List Reversal) (r : Reversal) → old.kept ≡ kept ++ r ∷ [] → new ≡ record (taken_back (record old { kept = kept }) r) { kept = kept } → (i : Instance) (c : Choice) (d : Decision) → IsChoice i c → IsOpenDecision i c d → old ≡ kept_after i c d → new ≡ c
undone old new kept r last made i c d ok is after =
    let same = same_from_push kept c.kept r (reversal_of c d) (sym last ∙ ap (λ (x : Choice). x.kept) after) in
    made ∙ (taken_same old kept r ∙ ((λ j. record (taken_back (after j) (same.1 j)) { kept = same.0 j }) ∙ taken_back-kept_after i c d ok is))

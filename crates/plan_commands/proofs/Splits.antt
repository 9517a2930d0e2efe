-- What was taken from a bundle's reader is split as the bundle is, and its parts' answers are the bundle's.
use Rattle.std.proofs.Common.{◌≡◌, ℕ, ◌+◌, ◌-◌, ◌≤◌, List, ◌++◌, length, take, drop, Ok, Err, Result, MatchResult, arith, ap, sym, ◌∙◌, refl, length-take, length-drop, append-nil, subst}
use Rattle.std.proofs.lemmas.List.{get_or_append_left, take-append-le, drop-append-le}
use Rattle.command_streams.specs.declared.input.Taken.{Taken}
use Rattle.command_streams.specs.declared.input.Stop.TheVariants.{AtEnd}
use Rattle.command_streams.specs.declared.ending.Fault.{Fault}
use Rattle.command_streams.specs.declared.ending.Fault.TheVariants.{InstanceText, Memory, PlanText, Plan, StatedDelay, TooLong, Unread}
use Rattle.command_streams.specs.declared.ending.Source.TheVariants as source
use Rattle.ttp_model.specs.Instance.{Instance}
use Rattle.command_streams.specs.Streams.{IsTaken}
use Rattle.plan_commands.specs.declared.verdict.Verified.{Verified}
use Rattle.command_streams.specs.Instances.{HasInstance, IsInstanceFault}
use Rattle.plan_commands.specs.Verdicts.{IsPlanFault, IsVerifiedPlan}
use Rattle.plan_commands.specs.Bundles.{IsMark, IsFirstMark, IsBundleOf, IsVerifiedBundle, IsRefusedBundle}

-- a mark has all its bytes
pub mark_within : (bytes : List ℕ) (at : ℕ) → IsMark bytes at → at + 3 ≤ length bytes
mark_within bytes at is = omega (arith, ap length is.text, length-take 3 (drop at bytes), length-drop at bytes)

-- the three bytes at a place are the same with more bytes behind
text_same : (bytes rest : List ℕ) (at : ℕ) → at + 3 ≤ length bytes → take 3 (drop at (bytes ++ rest)) ≡ take 3 (drop at bytes)
text_same bytes rest at within =
    ap (take 3) (drop-append-le at bytes rest (omega arith)) ∙ take-append-le 3 (drop at bytes) rest (omega (arith, length-drop at bytes))

module _ (bytes rest : List ℕ) where
  -- a mark is one with more bytes behind too
  mark_before : (at : ℕ) → IsMark bytes at → IsMark (bytes ++ rest) at
  mark_before at is =
      let within = mark_within bytes at is in
      record {
        line = λ some. get_or_append_left bytes rest 0 (at - 1) (omega (arith, within, some)) ∙ is.line some;
        text = text_same bytes rest at within ∙ is.text;
      }

  -- and without them, where it ends before them
  mark_back : (at : ℕ) → at + 3 ≤ length bytes → IsMark (bytes ++ rest) at → IsMark bytes at
  mark_back at within is = record {
    line = λ some. sym (get_or_append_left bytes rest 0 (at - 1) (omega (arith, within, some))) ∙ is.line some;
    text = sym (text_same bytes rest at within) ∙ is.text;
  }

  first_mark_before : (at : ℕ) → IsFirstMark bytes at → IsFirstMark (bytes ++ rest) at
  first_mark_before at first =
      let within = mark_within bytes at first.is in
      record {
        is = mark_before at first.is;
        first = λ earlier lt is. first.first earlier lt (mark_back earlier (omega (arith, within, lt)) is);
      }

-- the parts of the bundle: the front is what was taken before the mark
pub split_at : (bytes rest all : List ℕ) (at : ℕ) → all ≡ bytes ++ rest → IsFirstMark bytes at → IsBundleOf all (take at bytes) (drop (at + 3) all)
split_at bytes rest all at is first =
    let within = mark_within bytes at first.is in
    record {
      at = at;
      first = subst (λ xs. IsFirstMark xs at) (sym is) (first_mark_before bytes rest at first);
      front = sym (ap (take at) is ∙ take-append-le at bytes rest (omega (arith, within)));
      behind = refl;
    }

module _ (limit : ℕ) (taken : Taken) (all : List ℕ) (at : ℕ) (is_taken : IsTaken limit taken all) (first : IsFirstMark taken.bytes.items at) where
  pub refused_front : (fault : Fault) → IsInstanceFault (take at taken.bytes.items) fault → IsRefusedBundle all fault
  refused_front Memory refused = tt
  refused_front (Unread source.Instance) refused = tt
  refused_front (TooLong source.Instance) refused = record {
    instance = take at taken.bytes.items;
    plan = drop (at + 3) all;
    split = split_at taken.bytes.items is_taken.rest all at is_taken.first first;
    refused = refused;
  }
  refused_front (InstanceText error) refused = record {
    instance = take at taken.bytes.items;
    plan = drop (at + 3) all;
    split = split_at taken.bytes.items is_taken.rest all at is_taken.first first;
    refused = refused;
  }
  refused_front fault refused = absurd refused

  pub unread_plan : (i : Instance) → HasInstance (take at taken.bytes.items) i → IsRefusedBundle all (Unread source.Plan)
  unread_plan i has_instance = record {
    instance = take at taken.bytes.items;
    plan = drop (at + 3) all;
    split = split_at taken.bytes.items is_taken.rest all at is_taken.first first;
    refused = record { problem = i; has_instance = has_instance };
  }

module _ (limit : ℕ) (taken : Taken) (all : List ℕ) (at : ℕ) (is_taken : IsTaken limit taken all) (ended : taken.stop ≡ AtEnd)
    (first : IsFirstMark taken.bytes.items at) where
  -- nothing is behind what was taken
  all_taken : all ≡ taken.bytes.items
  all_taken =
      let until = rw ended at is_taken.until in
      is_taken.first ∙ ap (λ (rest : List ℕ). taken.bytes.items ++ rest) until.1 ∙ append-nil taken.bytes.items

  split_all : IsBundleOf all (take at taken.bytes.items) (drop (at + 3) taken.bytes.items)
  split_all = record {
    at = at;
    first = subst (λ xs. IsFirstMark xs at) (sym all_taken) first;
    front = ap (take at) (sym all_taken);
    behind = ap (drop (at + 3)) (sym all_taken);
  }

  module _ (i : Instance) (has_instance : HasInstance (take at taken.bytes.items) i) where
    verified_all : (v : Verified) → IsVerifiedPlan i (drop (at + 3) taken.bytes.items) v → IsVerifiedBundle all v
    verified_all v verified = record {
      instance = take at taken.bytes.items;
      plan = drop (at + 3) taken.bytes.items;
      split = split_all;
      verified = record { has_instance = rw verified.of has_instance; has_plan = rw verified.of verified.has_plan };
    }

    refused_all : (fault : Fault) → IsPlanFault i (drop (at + 3) taken.bytes.items) fault → IsRefusedBundle all fault
    refused_all Memory refused = tt
    refused_all (PlanText error) refused = record {
      instance = take at taken.bytes.items;
      plan = drop (at + 3) taken.bytes.items;
      split = split_all;
      refused = record { problem = i; has_instance = has_instance; refused = refused };
    }
    refused_all (Plan fault) refused = record {
      instance = take at taken.bytes.items;
      plan = drop (at + 3) taken.bytes.items;
      split = split_all;
      refused = record { problem = i; has_instance = has_instance; refused = refused };
    }
    refused_all (StatedDelay delay) refused = record {
      instance = take at taken.bytes.items;
      plan = drop (at + 3) taken.bytes.items;
      split = split_all;
      refused = record { problem = i; has_instance = has_instance; refused = refused };
    }
    refused_all fault refused = absurd refused

    pub outcome_all : (result : Result Verified Fault)
        → MatchResult result (IsVerifiedPlan i (drop (at + 3) taken.bytes.items)) (IsPlanFault i (drop (at + 3) taken.bytes.items))
        → MatchResult result (IsVerifiedBundle all) (IsRefusedBundle all)
    outcome_all (Ok v) verified = verified_all v verified
    outcome_all (Err fault) refused = refused_all fault refused

-- What stays known of constraints that leave no plan while more of them are left out, told or found to be open.
use Rattle.std.proofs.Common.{◌≡◌, ◌⊎◌, ℕ, false, IsTrue, All, Contains, List, [], ◌∷◌, ◌++◌, take, drop, arith, inl, inr, sym, subst, ◌∙◌, slice_index_or}
use Rattle.std.specs.List.{AllPairs}
use Rattle.std.proofs.lemmas.Bool.{true≢false}
use Rattle.std.proofs.lemmas.List.{take-append-drop}
use Rattle.std.proofs.lemmas.List.Elements.{All-contains, All-nil, All-push, Contains-append_cases, Contains-append_left, Contains-get_or, Contains-push, Contains-push_cases}
use Rattle.std.proofs.lemmas.List.Quantifiers.{all_pairs_push}
use Rattle.std.specs.List.Sorted.{IsPermutation}
use Rattle.std.proofs.lemmas.List.Sorted.{All-permutation, Contains-permutation}
use Rattle.ttp_model.specs.Instance.{Instance}
use Rattle.ttp_model.specs.Rules.{IsInstance}
use Rattle.planner.specs.outcome.Options.{Options}
use Rattle.plan_questions.specs.Searches.{IsShown}
use Rattle.instance_variants.specs.declared.kept.constraints.Constraint.{Constraint}
use Rattle.instance_variants.specs.declared.kept.constraints.Constraints.{Constraints}
use Rattle.instance_variants.specs.Constraints.{all_of, keeps, listed, without, without_all}
use Rattle.instance_variants.specs.Only.{only}
use Rattle.instance_variants.specs.Fewer.{AreAmong}
use Rattle.instance_variants.proofs.KeptLaws.{plan_by_fewer}
use Rattle.instance_variants.proofs.Leaving.{among_same, among_trans, all_left_out, fewer_left}
use Rattle.instance_variants.proofs.Keeps.{kept_among, kept_listed, listed_kept, all_gone}
use Rattle.plan_questions.specs.declared.conflicts.conflict.Conflict.{Conflict}
use Rattle.plan_questions.specs.Conflicts.{AreApart, IsConstraintOf, IsDecided, IsNarrowing, IsNeeded}

-- those that were needed still are among fewer
needed_by_fewer : (i : Instance) (fewer more : Constraints) (cs : List Constraint) → IsInstance i → AreAmong fewer more → All (IsNeeded i more) cs → All (IsNeeded i fewer) cs
needed_by_fewer i fewer more cs good among each = λ k past below.
    let c : Constraint = slice_index_or cs k past in
    plan_by_fewer i (without fewer c) (without more c) good (fewer_left fewer more c among) (each k past below)

-- what was decided is so of fewer, where no fewer are told
decided_by_fewer : (i : Instance) (options : Options) (fewer more : Constraints) (old new : List Constraint) (c : Constraint) → AreAmong fewer more
    → (Contains old c → Contains new c) → IsDecided i options more old c → IsDecided i options fewer new c
decided_by_fewer i options fewer more old new c among grown (inl there) = inl (grown there)
decided_by_fewer i options fewer more old new c among grown (inr still) =
    inr (record { more = still.more; among = among_trans fewer more still.more among still.among; stopped = still.stopped })

nothing_there : (c : Constraint) → Contains [] c → ⊥
nothing_there c at = omega (arith, at.1)

pub in_two : (xs front back : List Constraint) (n : ℕ) → front ≡ take n xs → back ≡ drop n xs → xs ≡ front ++ back
in_two xs front back n is_front is_back = rw (is_front, is_back) (sym (take-append-drop n xs))

none_apart : AllPairs AreApart []
none_apart j k d less inside = absurd (omega (arith, inside))

-- at first all are still to be left out
pub begins : (i : Instance) (options : Options) (conflict : Conflict) → conflict.kept ≡ all_of i → IsShown (only i conflict.kept) options conflict.cert
    → conflict.needed.items ≡ [] → conflict.pending.items ≡ listed conflict.kept → IsNarrowing i options conflict
begins i options conflict kept shown needed pending = record {
  known = record {
    fewer = rw kept (among_same (all_of i));
    shown = shown;
    there = rw needed (All-nil (IsConstraintOf i));
    needed = rw needed (All-nil (IsNeeded i conflict.kept));
    once = rw needed none_apart;
  };
  waits = rw (pending, kept) (listed_kept (all_of i));
  decided = λ c is. inl (rw pending (kept_listed conflict.kept c is));
}

module _ (i : Instance) (options : Options) (good : IsInstance i) (old new : Conflict) (h : IsNarrowing i options old) (rest : List Constraint) (waits : All (IsConstraintOf i) rest) where
  -- a part of what was to be left out is
  pub left_narrowing : (part : List Constraint) → old.pending.items ≡ rest ++ part → IsPermutation rest new.pending.items → new.kept ≡ without_all old.kept part
      → IsShown (only i new.kept) options new.cert → new.needed.items ≡ old.needed.items → IsNarrowing i options new
  left_narrowing part was turned kept shown needed =
      let among : AreAmong new.kept old.kept = rw kept (all_left_out old.kept part) in
      record {
        known = record {
          fewer = among_trans new.kept old.kept (all_of i) among h.known.fewer;
          shown = shown;
          there = rw needed h.known.there;
          needed = rw needed (needed_by_fewer i new.kept old.kept old.needed.items good among h.known.needed);
          once = rw needed h.known.once;
        };
        waits = All-permutation (IsConstraintOf i) rest new.pending.items turned waits;
        decided = λ c is. elim (h.decided c (kept_among new.kept old.kept c among is)) [
          | inl waits ↦ elim (Contains-append_cases rest part c (subst (λ (cs : List Constraint). Contains cs c) was waits)) [
            | inl still ↦ inl (Contains-permutation rest new.pending.items c turned still)
            | inr gone ↦ absurd (true≢false (sym (rw kept at is) ∙ All-contains (λ one. keeps (without_all old.kept part) one ≡ false) part c (all_gone old.kept part) gone))
          ]
          | inr done ↦ inr (decided_by_fewer i options new.kept old.kept old.needed.items new.needed.items c among (λ there. rw needed there) done)
        ];
      }

  module _ (last : Constraint) (was : old.pending.items ≡ rest ++ last ∷ []) (now : new.pending.items ≡ rest) (kept : new.kept ≡ old.kept) (cert : new.cert ≡ old.cert) where
    -- the last one is decided, and others were
    still_decided : (grown : (c : Constraint) → Contains old.needed.items c → Contains new.needed.items c) → IsDecided i options old.kept new.needed.items last
        → (c : Constraint) → IsTrue (keeps new.kept c) → Contains new.pending.items c ⊎ IsDecided i options new.kept new.needed.items c
    still_decided grown here c is = elim (h.decided c (rw kept at is)) [
      | inl waits ↦ elim (Contains-push_cases rest last c (subst (λ (cs : List Constraint). Contains cs c) was waits)) [
        | inl still ↦ inl (rw now still)
        | inr same ↦ inr (rw kept (subst (IsDecided i options old.kept new.needed.items) same here))
      ]
      | inr done ↦ inr (decided_by_fewer i options new.kept old.kept old.needed.items new.needed.items c (rw kept (among_same old.kept)) (grown c) done)
    ]

    -- it needs no telling
    pub decided_narrowing : new.needed.items ≡ old.needed.items → IsDecided i options old.kept old.needed.items last → IsNarrowing i options new
    decided_narrowing needed here = record {
      known = record {
        fewer = rw kept h.known.fewer;
        shown = rw (kept, cert) h.known.shown;
        there = rw needed h.known.there;
        needed = rw (kept, needed) h.known.needed;
        once = rw needed h.known.once;
      };
      waits = rw now waits;
      decided = still_decided (λ c there. rw needed there) (rw needed here);
    }

    -- it is told as needed
    pub told_narrowing : new.needed.items ≡ old.needed.items ++ last ∷ [] → IsConstraintOf i last → IsNeeded i old.kept last → ¬ Contains old.needed.items last
        → IsNarrowing i options new
    told_narrowing needed of is other = record {
      known = record {
        fewer = rw kept h.known.fewer;
        shown = rw (kept, cert) h.known.shown;
        there = rw needed (All-push (IsConstraintOf i) old.needed.items last h.known.there of);
        needed = rw (kept, needed) (All-push (IsNeeded i old.kept) old.needed.items last h.known.needed is);
        once = rw needed (all_pairs_push AreApart old.needed.items last h.known.once
            (λ k d inside same. other (subst (Contains old.needed.items) same (Contains-get_or old.needed.items k d inside))));
      };
      waits = rw now waits;
      decided = still_decided (λ c there. rw needed (Contains-append_left old.needed.items (last ∷ []) c there)) (inl (rw needed (Contains-push old.needed.items last)));
    }

-- in what order it is left to do changes nothing of what is known
pub turned_narrowing : (i : Instance) (options : Options) (old new : Conflict) → IsNarrowing i options old → new.kept ≡ old.kept → new.cert ≡ old.cert
    → new.needed.items ≡ old.needed.items → IsPermutation old.pending.items new.pending.items → IsNarrowing i options new
turned_narrowing i options old new h kept cert needed turned = record {
  known = record {
    fewer = rw kept h.known.fewer;
    shown = rw (kept, cert) h.known.shown;
    there = rw needed h.known.there;
    needed = rw (kept, needed) h.known.needed;
    once = rw needed h.known.once;
  };
  waits = All-permutation (IsConstraintOf i) old.pending.items new.pending.items turned h.waits;
  decided = λ c is. elim (h.decided c (rw kept at is)) [
    | inl waits ↦ inl (Contains-permutation old.pending.items new.pending.items c turned waits)
    | inr done ↦ inr (rw (kept, needed) done)
  ];
}

-- What is known once a search has said whether constraints can be left out, and how much less is left to do then.
use Rattle.std.proofs.Common.{◌≡◌, ◌⊎◌, ◌-◌, ◌^◌, ◌<◌, All, List, [], ◌∷◌, ◌++◌, length, slice_index_or, Option, None, Some, arith, length-append, inl, inr, refl, subst, ◌∙◌}
use Rattle.std.specs.List.Sorted.{IsPermutation}
use Rattle.std.proofs.lemmas.List.Elements.{All-contains, Contains-append_left, Contains-get_or, Contains-push}
use Rattle.std.proofs.lemmas.List.Sorted.{IsPermutation-refl, length_permutation}
use Rattle.ttp_model.specs.Instance.{Instance}
use Rattle.ttp_model.specs.Rules.{IsInstance}
use Rattle.certificate.specs.Cert.{Cert}
use Rattle.planner.specs.outcome.Options.{Options}
use Rattle.instance_variants.specs.declared.kept.constraints.Constraint.{Constraint}
use Rattle.instance_variants.specs.declared.kept.constraints.Constraints.{Constraints}
use Rattle.instance_variants.specs.Constraints.{all_of, listed, without_all}
use Rattle.instance_variants.specs.Only.{only}
use Rattle.instance_variants.specs.Fewer.{HasPlan}
use Rattle.instance_variants.proofs.Leaving.{among_same}
use Rattle.plan_questions.specs.declared.conflicts.conflict.Conflict.{Conflict}
use Rattle.plan_questions.specs.Searches.{IsShown, WasStopped}
use Rattle.plan_questions.specs.Conflicts.{IsBegun, IsConstraintOf, IsNarrowing}
use Rattle.plan_questions.specs.declared.conflicts.leaving.Without.{Without}
use Rattle.plan_questions.specs.declared.conflicts.leaving.Without.TheVariants.{NoPlan, SomePlan, Unknown}
use Rattle.plan_questions.specs.Leaving.{AreLeftOut, IsTolder, IsToldNow, LeavesOut, left_to_do}
use Rattle.plan_questions.proofs.Narrowed.{begins, decided_narrowing, left_narrowing, told_narrowing, turned_narrowing}

-- what holds of all holds of those in front
front_all : {X : Type 0} (P : X → Type 0) (front back : List X) → All P (front ++ back) → All P front
front_all P front back each = λ k past below.
    let x = slice_index_or front k past in
    All-contains P (front ++ back) x each (Contains-append_left front back x (Contains-get_or front k past below))

-- fewer that are pending are less to do, whatever is tried next
pub fewer_to_do : (old new : Conflict) → length new.pending.items < length old.pending.items → left_to_do new < left_to_do old
fewer_to_do old new fewer = omega (arith, fewer)

-- as many that are pending are less to do where fewer are tried next
pub shorter_to_do : (old new : Conflict) → new.pending ≡ old.pending → new.stride < old.stride → new.stride < 2 ^ 64 - 1 → left_to_do new < left_to_do old
shorter_to_do old new same less small = let many : length new.pending.items ≡ length old.pending.items = rw same refl in omega (arith, many, less, small)

-- none is told yet, in whatever order they are to be left out
pub begun_turned : (i : Instance) (options : Options) (kept : Constraints) (cert : Cert) (begun new : Conflict) → kept ≡ all_of i → IsShown (only i kept) options cert
    → begun.kept ≡ kept → begun.cert ≡ cert → begun.needed.items ≡ [] → begun.pending.items ≡ listed kept → new.kept ≡ begun.kept → new.cert ≡ begun.cert
    → new.needed ≡ begun.needed → IsPermutation begun.pending.items new.pending.items → IsBegun i options new
begun_turned i options kept cert begun new whole shown same_kept same_cert untold pending new_kept new_cert needed turned =
    let first = begins i options begun (same_kept ∙ whole) (rw (same_kept, same_cert) shown) untold (rw same_kept pending) in
    record { narrowing = turned_narrowing i options begun new first new_kept new_cert (rw needed refl) turned; untold = rw needed untold }

-- some are no longer pending, and the others are turned
pub turned_closer : (old new : Conflict) (rest part : List Constraint) → old.pending.items ≡ rest ++ part → IsPermutation rest new.pending.items
    → 0 < length part → left_to_do new < left_to_do old
turned_closer old new rest part was turned some =
    let before : length old.pending.items ≡ length (rest ++ part) = rw was refl in
    fewer_to_do old new (omega (arith, some, before, length-append rest part, length_permutation rest new.pending.items turned))

-- constraints are left out, and what is left to be is turned
module _ (i : Instance) (options : Options) (good : IsInstance i) (old at left new : Conflict) (h : IsNarrowing i options old) (rest part : List Constraint)
    (was : old.pending.items ≡ rest ++ part) (turned : IsPermutation rest new.pending.items) where
  pub left_turned : AreLeftOut i options at part left → at.kept ≡ old.kept → at.needed ≡ old.needed → new.kept ≡ left.kept → new.cert ≡ left.cert
      → new.needed ≡ left.needed → IsNarrowing i options new
  left_turned is at_kept at_needed kept cert needed =
      let waits = front_all (IsConstraintOf i) rest part (rw was at h.waits) in
      let now_kept : new.kept ≡ without_all old.kept part = rw (kept, is.kept, at_kept) refl in
      let now_needed : new.needed.items ≡ old.needed.items = rw (needed, is.needed, at_needed) refl in
      left_narrowing i options good old new h rest waits part was turned now_kept (rw (kept, cert) is.shown) now_needed

-- the last one of what is pending was taken out, and nothing is left out
module _ (i : Instance) (options : Options) (good : IsInstance i) (old at left : Conflict) (h : IsNarrowing i options old) (last : Constraint)
    (was : old.pending.items ≡ at.pending.items ++ last ∷ []) (at_kept : at.kept ≡ old.kept) (at_cert : at.cert ≡ old.cert) (at_needed : at.needed ≡ old.needed) (same : left ≡ at) where
  waits : All (IsConstraintOf i) at.pending.items
  waits = front_all (IsConstraintOf i) at.pending.items (last ∷ []) (rw was at h.waits)

  is_constraint : IsConstraintOf i last
  is_constraint = All-contains (IsConstraintOf i) old.pending.items last h.waits (rw was (Contains-push at.pending.items last))

  -- it may be needed
  pub open_narrowing : WasStopped (only i (without_all at.kept (last ∷ []))) options → IsNarrowing i options left
  open_narrowing stopped =
      let pending : left.pending.items ≡ at.pending.items = rw same refl in
      let kept : left.kept ≡ old.kept = rw (same, at_kept) refl in
      let cert : left.cert ≡ old.cert = rw (same, at_cert) refl in
      let needed : left.needed.items ≡ old.needed.items = rw (same, at_needed) refl in
      decided_narrowing i options good old left h at.pending.items waits last was pending kept cert needed
      (inr (record { more = old.kept; among = among_same old.kept; stopped = rw at_kept at stopped }))

  module _ (new : Conflict) (is : HasPlan (only i (without_all at.kept (last ∷ [])))) where
    now_narrowing : IsToldNow left last new → IsNarrowing i options new
    now_narrowing now =
        let pending : new.pending.items ≡ at.pending.items = rw (now.pending, same) refl in
        let kept : new.kept ≡ old.kept = rw (now.kept, same, at_kept) refl in
        let cert : new.cert ≡ old.cert = rw (now.cert, same, at_cert) refl in
        let before : left.needed.items ≡ old.needed.items = rw (same, at_needed) refl in
        told_narrowing i options good old new h at.pending.items waits last was pending kept cert (rw before at now.needed) is_constraint (rw at_kept at is)
        (rw before at now.other)

    -- it is needed, and told unless it was before
    pub needed_narrowing : (found : Option Constraint) → IsTolder left last new found → IsNarrowing i options new
    needed_narrowing None before =
        let e : new ≡ at = before.0 ∙ same in
        let pending : new.pending.items ≡ at.pending.items = rw e refl in
        let kept : new.kept ≡ old.kept = rw (e, at_kept) refl in
        let cert : new.cert ≡ old.cert = rw (e, at_cert) refl in
        let needed : new.needed.items ≡ old.needed.items = rw (e, at_needed) refl in
        let told : left.needed.items ≡ old.needed.items = rw (same, at_needed) refl in
        decided_narrowing i options good old new h at.pending.items waits last was pending kept cert needed (inl (rw told at before.1))
    needed_narrowing (Some one) now = now_narrowing now.0

-- nothing was left out
pub unless_left : (i : Instance) (options : Options) (old new : Conflict) (part : List Constraint) (without : Without) → LeavesOut i options old part new without
    → (without ≡ SomePlan) ⊎ (without ≡ Unknown) → new ≡ old
unless_left i options old new part NoPlan is (inl some) = absurd cc
unless_left i options old new part NoPlan is (inr unknown) = absurd cc
unless_left i options old new part SomePlan is other = is.0
unless_left i options old new part Unknown is other = is.0

-- fewer are tried next, which changes nothing of what is known
pub same_but_stride : (i : Instance) (options : Options) (old left new : Conflict) → IsNarrowing i options old → left ≡ old → new.kept ≡ left.kept → new.cert ≡ left.cert
    → new.needed ≡ left.needed → new.pending ≡ left.pending → IsNarrowing i options new
same_but_stride i options old left new h same kept cert needed pending =
    let now_pending : old.pending.items ≡ new.pending.items = rw (pending, same) refl in
    turned_narrowing i options old new h (rw (kept, same) refl) (rw (cert, same) refl) (rw (needed, same) refl)
    (subst (IsPermutation old.pending.items) now_pending (IsPermutation-refl old.pending.items))

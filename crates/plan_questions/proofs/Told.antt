-- What is told of constraints that leave no plan, once each is decided.
use Rattle.std.proofs.Common.{◌≡◌, ◌↔◌, ℕ, ◌+◌, ◌<◌, Bool, true, false, IsTrue, All, Contains, List, length, map, take, [], ◌∷◌, ◌++◌, slice_index_or, arith, inl, inr, refl, sym, subst}
use Rattle.std.proofs.lemmas.Bool.{true≢false}
use Rattle.std.proofs.lemmas.List.{get_or-map, length-map, map_push, take_more}
use Rattle.std.proofs.lemmas.List.Elements.{All-contains}
use Rattle.ttp_model.specs.Instance.{Instance}
use Rattle.ttp_model.specs.Rules.{IsInstance}
use Rattle.ttp_model.specs.Delays.{HasNoPlan}
use Rattle.certificate.specs.Cert.{Cert}
use Rattle.planner.specs.outcome.Options.{Options}
use Rattle.plan_questions.specs.declared.sought.Sought.{Sought}
use Rattle.plan_questions.specs.Searches.{Tells}
use Rattle.instance_variants.specs.declared.kept.constraints.Constraint.{Constraint}
use Rattle.instance_variants.specs.declared.kept.constraints.Constraints.{Constraints}
use Rattle.instance_variants.specs.Constraints.{all_of, keeps, listed}
use Rattle.instance_variants.specs.Only.{only}
use Rattle.instance_variants.proofs.KeptLaws.{no_plan_left}
use Rattle.instance_variants.proofs.Keeps.{listed_kept}
use Rattle.instance_variants.proofs.Whole.{all_is_whole}
use Rattle.plan_questions.specs.declared.conflicts.conflict.Conflict.{Conflict}
use Rattle.plan_questions.specs.declared.conflicts.needs.Need.{Need}
use Rattle.plan_questions.specs.Conflicts.{AreMarked, IsConflict, IsDecided, IsMarked, IsNarrowing, IsNeeded, IsTold}

all_before_map : {X Y : Type 0} (P : Y → Type 0) (f : X → Y) (xs : List X) → All P (map f xs) → All (λ x. P (f x)) xs
all_before_map P f xs each = λ k past below.
    let inside : k < length (map f xs) = omega (arith, below, length-map xs f) in
    subst P (get_or-map f xs k past (f past) below) (each k (f past) inside)

told_one : (i : Instance) (options : Options) (K : Constraints) (needed : List Constraint) (shown : Bool) (c : Constraint) → IsTrue shown ↔ Contains needed c →
    All (IsNeeded i K) needed → IsDecided i options K needed c → IsTold i options K shown c
told_one i options K needed true c marked each decided = All-contains (IsNeeded i K) needed c each (marked.0 refl)
told_one i options K needed false c marked each (inl there) = absurd (true≢false (sym (marked.1 there)))
told_one i options K needed false c marked each (inr still) = still

-- what is kept is decided, where nothing is still to be
all_decided : (i : Instance) (options : Options) (conflict : Conflict) → IsNarrowing i options conflict → conflict.pending.items ≡ [] → (c : Constraint)
    → IsTrue (keeps conflict.kept c) → IsDecided i options conflict.kept conflict.needed.items c
all_decided i options conflict h none c is = elim (h.decided c is) [
  | inl waits ↦ absurd (omega (arith, (rw none at waits).1))
  | inr done ↦ done
]

pub needs_marked : (i : Instance) (options : Options) (conflict : Conflict) (needs : List Need) → IsNarrowing i options conflict → conflict.pending.items ≡ [] →
    map (λ (need : Need). need.constraint) needs ≡ listed conflict.kept → All (IsMarked conflict.needed.items) needs
    → AreMarked i options conflict.kept conflict.needed.items needs
needs_marked i options conflict needs h none all marked = record {
  all = all;
  told = λ k past below.
      let need : Need = slice_index_or needs k past in
      let P : Constraint → Type 0 = λ one. keeps conflict.kept one ≡ true in
      let kept = all_before_map P (λ (one : Need). one.constraint) needs (rw all (listed_kept conflict.kept)) k past below in
      told_one i options conflict.kept conflict.needed.items need.is_shown need.constraint (marked k past below) h.known.needed
      (all_decided i options conflict h none need.constraint kept);
  marked = marked;
}

-- an instance by all its constraints is the instance
pub whole_told : (i : Instance) (options : Options) (K : Constraints) (sought : Sought) → IsInstance i → K ≡ all_of i →
    Tells (only i K) options sought → Tells i options sought
whole_told i options K sought good is tells = subst (λ j. Tells j options sought) (rw is (all_is_whole i good)) tells

pub conflict_shows : (i : Instance) (options : Options) (K : Constraints) (cert : Cert) (needed : List Constraint) → IsInstance i → IsConflict i options K cert needed → HasNoPlan i
conflict_shows i options K cert needed good c = no_plan_left i K good c.shown.none

-- what is told of one constraint more
pub one_more_told : (needs : List Need) (need : Need) (list : List Constraint) (k : ℕ) (past : Constraint) → map (λ (one : Need). one.constraint) needs ≡ take k list →
    k < length list → need.constraint ≡ slice_index_or list k past → map (λ (one : Need). one.constraint) (needs ++ need ∷ []) ≡ take (k + 1) list
one_more_told needs need list k past told inside is =
    rw (map_push (λ (one : Need). one.constraint) needs need, told, is) (sym (take_more list k past inside))

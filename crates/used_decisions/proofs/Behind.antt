-- What is known behind some steps was known at first, or one of them wrote it.
use Rattle.std.proofs.Common.{◌≡◌, ℕ, ◌+◌, ◌<◌, ◌⊎◌, min, max, List, [], ◌∷◌, arith, inl, inr, refl, ap, sym, subst, ◌∙◌}
use Rattle.std.proofs.lemmas.Bool.{cases_eq}
use Rattle.std.proofs.lemmas.List.{get_or-map}
use Rattle.ttp_model.specs.declared.step.Step.{Step}
use Rattle.ttp_model.specs.Instance.{Instance}
use Rattle.ttp_model.specs.Rules.{IsInstance}
use Rattle.tt_choice.specs.Choice.{IsChoice}
use Rattle.tt_choice.specs.Branches.{root_choice}
use Rattle.tt_choice.proofs.Before.{put_other}
use Rattle.tt_choice.proofs.Decisions.{IsChoice-after_all}
use Rattle.tt_choice.proofs.Root.{IsChoice-root}
use Rattle.sought_plans.specs.Known.{Known, Fits, first_facts, es_of, le_of, lo_of, top_of, bef_of}
use Rattle.sought_plans.specs.Conclusions.{Conclusion, StartsFrom, EndsUntil, SentFrom, SentBefore, GoesFirst, NothingLeft, IsAbout, sharpened, capped}
use Rattle.tt_infer.specs.Table.{IsLawful}
use Rattle.tt_infer.proofs.Keeps.{changed_there}
use Rattle.tt_infer.proofs.Sound.{step_is_about}
use Rattle.tt_infer.specs.declared.fact.Fact.{Fact}
use Rattle.tt_infer.specs.declared.fact.Fact.TheVariants.{Start, End, FirstRound, LateRound, Order, Closed}
use Rattle.tt_infer.specs.Targets.{fact_of}
use Rattle.tt_infer.specs.Reads.{AgreeOn}
use Rattle.tt_infer.specs.Shared.{IsWritten}
use Rattle.tt_infer.proofs.Rows.{target_is}
use Rattle.used_decisions.specs.Turns.{Path}
use Rattle.used_decisions.specs.declared.given.Given.{Given}
use Rattle.used_decisions.specs.declared.uses.Uses.{Uses}
use Rattle.used_decisions.specs.Steps.{AreRoundsKnown, IsBehind, IsGivenBy, IsReadOf, IsStepRead, IsStepTold, SaysFact, TellsFact, choice_of, decisions_of}
use Rattle.used_decisions.proofs.Gives.{least_there, greatest_there, order_there}

module _ (i : Instance) (f : Known) (fits : Fits i f) where
  start_kept : (k : Conclusion) → (p : ℕ) → (es_of f p ≡ es_of (sharpened i f k) p) ⊎ (Start p ≡ fact_of k)
  start_kept (StartsFrom q time) p = elim (cases_eq p q) [
    | inl same ↦ inr (ap Start same)
    | inr other ↦ inl (sym (changed_there f.es q p (max (es_of f q) (capped i time)) other))
  ]
  start_kept (EndsUntil q time) p = inl refl
  start_kept (SentFrom m r) p = inl refl
  start_kept (SentBefore m r) p = inl refl
  start_kept (GoesFirst x y) p = inl refl
  start_kept NothingLeft p = inl refl

  end_kept : (k : Conclusion) → (p : ℕ) → (le_of f p ≡ le_of (sharpened i f k) p) ⊎ (End p ≡ fact_of k)
  end_kept (StartsFrom q time) p = inl refl
  end_kept (EndsUntil q time) p = elim (cases_eq p q) [
    | inl same ↦ inr (ap End same)
    | inr other ↦ inl (sym (changed_there f.le q p (min (le_of f q) time) other))
  ]
  end_kept (SentFrom m r) p = inl refl
  end_kept (SentBefore m r) p = inl refl
  end_kept (GoesFirst x y) p = inl refl
  end_kept NothingLeft p = inl refl

  first_kept : (k : Conclusion) → (m : ℕ) → (lo_of f m ≡ lo_of (sharpened i f k) m) ⊎ (FirstRound m ≡ fact_of k)
  first_kept (StartsFrom q time) m = inl refl
  first_kept (EndsUntil q time) m = inl refl
  first_kept (SentFrom n r) m = elim (cases_eq m n) [
    | inl same ↦ inr (ap FirstRound same)
    | inr other ↦ inl (sym (changed_there f.lo n m (max (lo_of f n) (capped i r)) other))
  ]
  first_kept (SentBefore n r) m = inl refl
  first_kept (GoesFirst x y) m = inl refl
  first_kept NothingLeft m = inl refl

  late_kept : (k : Conclusion) → (m : ℕ) → (top_of f m ≡ top_of (sharpened i f k) m) ⊎ (LateRound m ≡ fact_of k)
  late_kept (StartsFrom q time) m = inl refl
  late_kept (EndsUntil q time) m = inl refl
  late_kept (SentFrom n r) m = inl refl
  late_kept (SentBefore n r) m = elim (cases_eq m n) [
    | inl same ↦ inr (ap LateRound same)
    | inr other ↦ inl (sym (changed_there f.top n m (min (top_of f n) r) other))
  ]
  late_kept (GoesFirst x y) m = inl refl
  late_kept NothingLeft m = inl refl

  order_kept : (k : Conclusion) → IsAbout i k → (p q : ℕ) → (bef_of f p q ≡ bef_of (sharpened i f k) p q) ⊎ (Order p q ≡ fact_of k)
  order_kept (StartsFrom x time) about p q = inl refl
  order_kept (EndsUntil x time) about p q = inl refl
  order_kept (SentFrom m r) about p q = inl refl
  order_kept (SentBefore m r) about p q = inl refl
  order_kept (GoesFirst x y) about p q =
      let row : x < f.bef.processes = omega (arith, fits.processes, about.0) in
      let column : y < f.bef.processes = omega (arith, fits.processes, about.1) in
      elim (cases_eq p x) [
        | inr other ↦ inl (sym (put_other f.bef x y p q row column (inl other)))
        | inl same ↦ elim (cases_eq q y) [
          | inr other ↦ inl (sym (put_other f.bef x y p q row column (inr other)))
          | inl also ↦ inr (rw (same, also) refl)
        ]
      ]
  order_kept NothingLeft about p q = inl refl

  closed_kept : (k : Conclusion) → (f.closed ≡ (sharpened i f k).closed) ⊎ (Closed ≡ fact_of k)
  closed_kept (StartsFrom x time) = inl refl
  closed_kept (EndsUntil x time) = inl refl
  closed_kept (SentFrom m r) = inl refl
  closed_kept (SentBefore m r) = inl refl
  closed_kept (GoesFirst x y) = inl refl
  closed_kept NothingLeft = inr refl

  -- a conclusion leaves each fact but its own
  fact_kept : (k : Conclusion) → IsAbout i k → (fact : Fact) → AgreeOn f (sharpened i f k) fact ⊎ (fact ≡ fact_of k)
  fact_kept k about (Start p) = start_kept k p
  fact_kept k about (End p) = end_kept k p
  fact_kept k about (FirstRound m) = first_kept k m
  fact_kept k about (LateRound m) = late_kept k m
  fact_kept k about (Order p q) = order_kept k about p q
  fact_kept k about Closed = closed_kept k

agree_twice : (a b c : Known) (fact : Fact) → AgreeOn a b fact → AgreeOn b c fact → AgreeOn a c fact
agree_twice a b c (Start p) one two = one ∙ two
agree_twice a b c (End p) one two = one ∙ two
agree_twice a b c (FirstRound m) one two = one ∙ two
agree_twice a b c (LateRound m) one two = one ∙ two
agree_twice a b c (Order p q) one two = one ∙ two
agree_twice a b c Closed one two = one ∙ two

agree_itself : (f : Known) (fact : Fact) → AgreeOn f f fact
agree_itself f (Start p) = refl
agree_itself f (End p) = refl
agree_itself f (FirstRound m) = refl
agree_itself f (LateRound m) = refl
agree_itself f (Order p q) = refl
agree_itself f Closed = refl

pub behind_none : (path : Path) → IsBehind path [] (first_facts path.instance (choice_of path))
behind_none path = λ fact. inl (agree_itself (first_facts path.instance (choice_of path)) fact)

-- one step more leaves what is known, or wrote it
pub behind_more : (path : Path) (before : List Step) (goal : ℕ) (f : Known) (step : Step) (next : Known) → IsInstance path.instance
    → Fits path.instance f → IsBehind path before f → IsLawful path.instance (choice_of path) goal f step next → IsBehind path (step ∷ before) next
behind_more path before goal f step next w fits behind lawful = λ fact.
    let i = path.instance in
    let k = lawful.conclusion in
    let about = step_is_about i (choice_of path) goal f step k w lawful.there lawful.premise lawful.concludes in
    elim (fact_kept i f fits k about fact) [
      | inr new ↦ inr (inl (new ∙ target_is i (choice_of path) goal f step k lawful.concludes))
      | inl same ↦ elim (behind fact) [
        | inr wrote ↦ inr (inr wrote)
        | inl first ↦ inl (agree_twice (first_facts i (choice_of path)) f next fact first (subst (λ (g : Known). AgreeOn f g fact) (sym lawful.known) same))
      ]
    ]

module _ (path : Path) (given : Given) (uses : Uses) (before : List Step) (read : IsReadOf path uses) (so : IsGivenBy path.instance given before) where
  path_choice : IsChoice path.instance (choice_of path)
  path_choice = IsChoice-after_all path.instance (root_choice path.instance) (decisions_of path.turns) (IsChoice-root path.instance read.rules) read.are_open

  -- so rounds are known as the choice says, but where a step gave more
  rounds_known : (f : Known) → IsBehind path before f → AreRoundsKnown path given f
  rounds_known f behind = record {
    least = λ m there. elim (behind (FirstRound m)) [ inl same ↦ inr (sym same) | inr wrote ↦ inl ((so.least m there).1 wrote) ];
    greatest = λ m there. elim (behind (LateRound m)) [
      | inl same ↦ inr (sym same ∙ get_or-map (λ r. r + 1) (choice_of path).hi m 0 0 (omega (arith, there, path_choice.hi_length)))
      | inr wrote ↦ inl ((so.greatest m there).1 wrote)
    ];
  }

  said_or_written : (fact : Fact) → TellsFact path given uses fact → SaysFact path uses fact ⊎ IsWritten path.instance before fact
  said_or_written (Start p) told = inl tt
  said_or_written (End p) told = inl tt
  said_or_written (FirstRound m) told = elim told [ inl is ↦ inr ((so.least m (least_there path.instance given m so.flags is)).0 is) | inr marked ↦ inl marked ]
  said_or_written (LateRound m) told =
      elim told [ inl is ↦ inr ((so.greatest m (greatest_there path.instance given m so.flags is)).0 is) | inr marked ↦ inl marked ]
  said_or_written (Order p q) told = elim told [
    | inl is ↦ let there = order_there path.instance given p q so.flags is in inr ((so.order p q there.0 there.1).0 is)
    | inr marked ↦ inl marked
  ]
  said_or_written Closed told = inl tt

  -- a step that was read is told behind the steps that gave what was given
  pub step_told : (step : Step) → IsStepRead path given uses step → IsStepTold path uses before step
  step_told step is = record {
    facts = λ goal f behind there fact reads. said_or_written fact (is.facts goal f (rounds_known f behind) there fact reads);
    limits = λ goal f behind there premise limit reads. is.limits goal f (rounds_known f behind) there premise limit reads;
  }

-- The reasons why a process waits, told one after another as steps from the first facts on.
use Rattle.std.proofs.Common.{◌≡◌, ℕ, ◌+◌, ◌-◌, ◌<◌, ◌≤◌, min, max, List, [], ◌∷◌, ◌++◌, length, slice_index, slice_set, replicate, All, IsFalse, arith, inl, inr, refl, ap, subst, ◌∙◌, length-set, get_or-set_same}
use Rattle.std.proofs.lemmas.List.{length-replicate, get_or-replicate}
use Rattle.std.proofs.lemmas.List.Elements.{All-nil, All-push, All-contains}
use Rattle.ttp_model.specs.declared.error.Place.TheVariants.{AtProcess, AtLink, AtMessage}
use Rattle.ttp_model.specs.declared.step.Step.{Step}
use Rattle.ttp_model.specs.declared.step.Step.TheVariants.{EsRelease, EsLink, EsBefore, EsArrive, LeOwn, XWindow}
use Rattle.ttp_model.specs.Instance.{Instance, process_at, message_at, link_at, source_of}
use Rattle.ttp_model.specs.Rules.{IsInstance, IsProcess}
use Rattle.tt_choice.specs.Choice.{Choice, IsChoice, IsComplete, least_round}
use Rattle.sought_plans.specs.Known.{Known, first_facts}
use Rattle.sought_plans.specs.Conclusions.{StartsFrom, EndsUntil, NothingLeft, sharpened, capped}
use Rattle.tt_infer.specs.Table.{IsDominance, rule, IsLawful}
use Rattle.tt_infer.specs.Leaves.{Lead}
use Rattle.tt_infer.proofs.Leaves.{Lead-append}
use Rattle.search_trees.proofs.Complete.{end_exact}
use Rattle.earliest_starts.specs.Clashes.{WaitsUntil, released, arrived, after}
use Rattle.branch_tree.specs.Closers.{IsClosedBy}

-- steps that hold of all valid plans lead from the first facts to what is known here, where plans may be left
pub record IsWay (i : Instance) (c : Choice) (goal : ℕ) (f : Known) : Type 0 where
  pub steps : List Step
  pub plain : All (λ step. ¬ IsDominance step) steps
  pub lead : Lead i c goal (first_facts i c) steps f
  pub left : IsFalse f.closed

-- what is known at first, but for the earliest starts
abbrev pub starting : Instance → Choice → List ℕ → Known
starting i c es = record (first_facts i c) { es = es }

-- a way to where a process is known to start at a time or later; a time past the horizon is known as the first one
pub record IsWayTo (i : Instance) (c : Choice) (goal p time : ℕ) : Type 0 where
  pub es : List ℕ
  pub all : length es ≡ length i.processes
  pub way : IsWay i c goal (starting i c es)
  pub known : capped i time ≤ slice_index es p

module _ (i : Instance) (c : Choice) (goal : ℕ) where
  pub start : IsWay i c goal (first_facts i c)
  start = record { steps = []; plain = All-nil (λ step. ¬ IsDominance step); lead = refl; left = refl }

  further : (f : Known) (step : Step) (g : Known) (way : IsWay i c goal f) → IsLawful i c goal f step g
      → Lead i c goal (first_facts i c) (way.steps ++ step ∷ []) g
  further f step g way lawful = Lead-append i c goal (first_facts i c) way.steps (step ∷ []) f g way.lead (way.left, (g, lawful, refl))

  -- one step more
  pub onward : (f : Known) (step : Step) (g : Known) → ¬ IsDominance step → IsWay i c goal f → IsLawful i c goal f step g → IsFalse g.closed → IsWay i c goal g
  onward f step g plain way lawful left = record {
    steps = way.steps ++ step ∷ [];
    plain = All-push (λ step. ¬ IsDominance step) way.steps step way.plain plain;
    lead = further f step g way lawful;
    left = left;
  }

  -- a closer at the end of a way
  pub closing : (f : Known) (step : Step) → IsWay i c goal f → (rule i c goal f step).there → (rule i c goal f step).premise
      → (rule i c goal f step).concludes NothingLeft → IsClosedBy i c goal step
  closing f step way there premise concludes = record {
    steps = way.steps;
    plain = way.plain;
    closes = (
      sharpened i f NothingLeft,
      further f step (sharpened i f NothingLeft) way
          (record { there = there; premise = premise; conclusion = NothingLeft; concludes = concludes; known = refl }),
      refl,
    );
  }

  -- one step more that is about a start
  starts : (es : List ℕ) (step : Step) (q from time : ℕ) → length es ≡ length i.processes → IsWay i c goal (starting i c es) → ¬ IsDominance step
      → q < length i.processes → (rule i c goal (starting i c es) step).there → (rule i c goal (starting i c es) step).premise
      → (rule i c goal (starting i c es) step).concludes (StartsFrom q from) → capped i time ≤ capped i from → IsWayTo i c goal q time
  starts es step q from time all way plain inside there premise concludes late = record {
    es = slice_set es q (max (slice_index es q) (capped i from));
    all = length-set es q _ ∙ all;
    way =
        onward (starting i c es) step (sharpened i (starting i c es) (StartsFrom q from)) plain way
        (record { there = there; premise = premise; conclusion = StartsFrom q from; concludes = concludes; known = refl }) refl;
    known = omega (arith, get_or-set_same es q (max (slice_index es q) (capped i from)) 0 (omega (arith, all, inside)), late);
  }

  module _ (w : IsInstance i) (ok : IsChoice i c) (done : IsComplete i c) where
    none_yet : length (replicate {A = ℕ} (length i.processes) 0) ≡ length i.processes
    none_yet = length-replicate {A = ℕ} (length i.processes) 0

    -- the steps of a chain of reasons
    pub reach : (p time : ℕ) → WaitsUntil i c p time → IsWayTo i c goal p time
    reach _ _ (released p inside) =
        starts (replicate (length i.processes) 0) (EsRelease p) p (process_at i p).release (process_at i p).release none_yet start (λ is. is)
        inside inside tt refl (omega arith)
    reach _ _ (arrived m p inside receives) =
        let n = source_of i m in
        let there : p < length i.processes = All-contains (IsProcess i) (message_at i m).receivers p (w.indices (AtMessage m) inside).1 receives in
        let exact = end_exact i c w ok done n (least_round c m) (w.indices (AtProcess (message_at i m).sender) (w.indices (AtMessage m) inside).0) in
        starts (replicate (length i.processes) 0) (EsArrive m p) p _ _ none_yet start (λ is. is) there (inside, receives) tt refl (omega (arith, exact))
    reach _ _ (after p q time waits (inl chosen)) =
        let before = reach p time waits in
        let pair = ok.pairs p q chosen in
        starts before.es (EsBefore p q) q (slice_index before.es p + (process_at i p).wcet) (time + (process_at i p).wcet) before.all before.way
        (λ is. is) pair.second pair chosen refl (omega (arith, before.known))
    reach _ _ (after p q time waits (inr link)) =
        let before = reach p time waits in
        let first = (link_at i link.link).before in
        let known : capped i (time + (process_at i p).wcet) ≤ capped i (slice_index before.es first + (process_at i first).wcet) = omega (
          arith,
          before.known,
          ap (slice_index before.es) link.before,
          ap (λ k. (process_at i k).wcet) link.before,
        ) in
        subst (λ (k : ℕ). IsWayTo i c goal k (time + (process_at i p).wcet)) link.after
        (starts before.es (EsLink link.link) (link_at i link.link).after (slice_index before.es first + (process_at i first).wcet)
        (time + (process_at i p).wcet) before.all before.way (λ is. is) (w.indices (AtLink link.link) link.is_there).1 link.is_there tt refl known)

    -- how late a process may end: by its deadline, the horizon and before the goal
    abbrev pub last_end : ℕ → ℕ
    last_end p = min i.cluster.horizon (min (min (process_at i p).deadline i.cluster.horizon) (goal - 1))

    -- a process that can't end by then
    pub no_window : (p time : ℕ) → p < length i.processes → WaitsUntil i c p time → last_end p < capped i time + (process_at i p).wcet
        → IsClosedBy i c goal (XWindow p)
    no_window p time inside waits late =
        let to = reach p time waits in
        let f = starting i c to.es in
        let own = min (min (process_at i p).deadline i.cluster.horizon) (goal - 1) in
        let g = sharpened i f (EndsUntil p own) in
        let way = onward f (LeOwn p) g (λ is. is) to.way
        (record { there = inside; premise = tt; conclusion = EndsUntil p own; concludes = refl; known = refl }) refl in
        let les = replicate (length i.processes) i.cluster.horizon in
        let count : length les ≡ length i.processes = length-replicate (length i.processes) i.cluster.horizon in
        let first : slice_index les p ≡ i.cluster.horizon = get_or-replicate {A = ℕ} (length i.processes) p i.cluster.horizon 0 inside in
        let here = get_or-set_same les p (min (slice_index les p) own) 0 (omega (arith, count, inside)) in
        closing g (XWindow p) way inside (omega (arith, here, first, to.known, late)) refl

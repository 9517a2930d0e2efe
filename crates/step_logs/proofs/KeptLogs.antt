-- Logs that go on after decisions.
use Rattle.std.proofs.Common.{◌≡◌, ℕ, suc, ◌<◌, ◌^◌, List, [], ◌∷◌, ◌++◌, length, take, drop, All, Some, IsTrue, IsFalse, arith, inl, inr, refl, ap, sym, subst, ◌∙◌}
use Rattle.std.proofs.lemmas.List.Elements.{All-nil, All-append, All-push, All-pop, All-take, All-drop}
use Rattle.ttp_model.specs.declared.plan.Plan.{Plan}
use Rattle.ttp_model.specs.declared.step.Step.{Step}
use Rattle.ttp_model.specs.Instance.{Instance}
use Rattle.ttp_model.specs.Rules.{IsInstance}
use Rattle.ttp_model.specs.Chains.{IsPathBound}
use Rattle.tt_choice.specs.declared.decision.Decision.{Decision}
use Rattle.tt_choice.specs.Choice.{Choice, IsChoice, IsComplete, bare}
use Rattle.tt_choice.specs.Branches.{root_choice}
use Rattle.tt_choice.specs.Decisions.{choice_after, IsOpenDecision, chosen}
use Rattle.tt_choice.proofs.Decisions.{after_all-more, open-more}
use Rattle.tt_choice.proofs.Trail.{IsChoice-keeping, bare-same, none_kept-after_all}
use Rattle.tt_infer.specs.Known.{first_facts}
use Rattle.tt_infer.specs.Facts.{Facts, AreFacts, after}
use Rattle.tt_infer.specs.Leaves.{LeadSharply, ClosesSharply}
use Rattle.step_logs.specs.Journal.{Journal, Advances}
use Rattle.step_logs.specs.PlansBelow.{IsPlanBelow}
use Rattle.step_logs.specs.Propagator.{IsLog, first_log, FollowsFrom, Checkpoint, IsCheckpoint, checkpoint_of, IsThinned, Propagator, IsPropagation}
use Rattle.step_logs.proofs.Counts.{closes_log, closes_of}

-- where a log that began without steps leads
pub log_of : (i : Instance) (c : Choice) (goal : ℕ) (start end : Journal) → start ≡ record { facts = record { instance = i; choice = c; goal = goal; known = first_facts i c }; steps = [] } → Advances start end → IsChoice i c → (IsFalse end.facts.known.closed → (bound : ℕ) → IsPathBound i bound → bound < goal) → (IsComplete i c → IsFalse end.facts.known.closed → (plan : Plan) × IsPlanBelow i c goal plan) → IsLog i c goal end
log_of i c goal start end begins advances ok above finds = record {
  facts = advances.facts ∙ ap (λ (log : Journal). after log.facts end.facts.known) begins;
  choice = ok;
  lead = subst (λ (steps : List Step). LeadSharply i c goal (first_facts i c) steps end.facts.known) (sym steps) (rw begins at advances.lead);
  above = above;
  finds = finds;
}
  where
    steps : end.steps ≡ advances.more
    steps = advances.steps ∙ ap (λ (log : Journal). log.steps ++ advances.more) begins

-- so after a decision on what these facts are about
pub level_of : (s : Facts) (d : Decision) (i : Instance) (chosen_so_far c : Choice) (goal : ℕ) (first : Facts) (room : List Step) (start end : Journal) → i ≡ s.instance → chosen_so_far ≡ s.choice → c ≡ choice_after i chosen_so_far d → goal ≡ s.goal → start ≡ record { facts = first; steps = room } → first ≡ record { instance = i; choice = c; goal = goal; known = first_facts i c } → room ≡ [] → Advances start end → IsChoice i c → ((bound : ℕ) → IsPathBound s.instance bound → bound < s.goal) → (IsComplete i c → IsFalse end.facts.known.closed → (plan : Plan) × IsPlanBelow i c goal plan) → IsLog s.instance (choice_after s.instance s.choice d) s.goal end
level_of s d i chosen_so_far c goal first room start end i_is chosen_is c_is goal_is start_is first_is room_is advances ok above finds =
    let begins : start ≡ record { facts = record { instance = i; choice = c; goal = goal; known = first_facts i c }; steps = [] } = start_is ∙ (λ j. record { facts = first_is j; steps = room_is j }) in
    let here : IsLog i c goal end = log_of i c goal start end begins advances ok (λ left bound is. omega (arith, above bound (subst (λ (k : Instance). IsPathBound k bound) i_is is), goal_is)) finds in
    let same : c ≡ choice_after s.instance s.choice d = c_is ∙ (λ j. choice_after (i_is j) (chosen_is j) d) in
    subst (λ (g : ℕ). IsLog s.instance (choice_after s.instance s.choice d) g end) goal_is
    (subst (λ (x : Choice). IsLog s.instance x goal end) same
    (subst (λ (k : Instance). IsLog k c goal end) i_is here))

-- before any decision
pub started : (i : Instance) (goal : ℕ) (log : Journal) → IsInstance i → IsLog i (root_choice i) goal log → IsPropagation (record { instance = i; goal = goal; decisions = []; kept = []; current = log })
started i goal log w is = record {
  instance = w;
  decisions = tt;
  current = is;
  kept = All-nil (IsCheckpoint i goal);
}

-- what is left of the checkpoints is so too
thinned_are : (i : Instance) (goal : ℕ) (old new : List Checkpoint) → IsThinned old new → All (IsCheckpoint i goal) old → All (IsCheckpoint i goal) new
thinned_are i goal old new (inl same) all = subst (All (IsCheckpoint i goal)) (sym same) all
thinned_are i goal old new (inr gone) all =
    let k = gone.0 in
    subst (All (IsCheckpoint i goal)) (sym gone.2)
    (All-append (IsCheckpoint i goal) (take k old) (drop (suc k) old) (All-take (IsCheckpoint i goal) k old all) (All-drop (IsCheckpoint i goal) (suc k) old all))

-- one decision more
decides : (p : Propagator) (d : Decision) (before : List Checkpoint) (log : Journal) → IsPropagation p → IsOpenDecision p.instance (chosen p.instance p.decisions) d → IsThinned p.kept before → IsLog p.instance (choice_after p.instance (chosen p.instance p.decisions) d) p.goal log → IsPropagation (record p { decisions = p.decisions ++ d ∷ []; kept = before ++ checkpoint_of p ∷ []; current = log })
decides p d before log is fresh thinned next = record {
  instance = is.instance;
  decisions = open-more p.instance (root_choice p.instance) p.decisions d is.decisions fresh;
  current = rw (after_all-more p.instance (root_choice p.instance) p.decisions d) next;
  kept = All-push (IsCheckpoint p.instance p.goal) before (checkpoint_of p) (thinned_are p.instance p.goal p.kept before thinned is.kept) (record { decisions = is.decisions; log = is.current });
}

-- back to the last checkpoint
undone : (p : Propagator) (rest : List Checkpoint) (before : Checkpoint) → IsPropagation p → p.kept ≡ rest ++ before ∷ [] → IsPropagation (record p { decisions = before.decisions; kept = rest; current = before.log })
undone p rest before is kept =
    let both = All-pop (IsCheckpoint p.instance p.goal) p.kept rest (Some before) kept is.kept in
    record { instance = is.instance; decisions = both.1.decisions; current = both.1.log; kept = both.0 }

-- the same, as a body makes it
pub undone_of : (p : Propagator) (rest : List Checkpoint) (before : Checkpoint) (ds : List Decision) (log current : Journal) → IsPropagation p → p.kept ≡ rest ++ before ∷ [] → before ≡ record { decisions = ds; log = log } → current ≡ log → IsPropagation (record p { decisions = ds; kept = rest; current = current })
undone_of p rest before ds log current is kept before_is current_is =
    subst (λ (l : Journal). IsPropagation (record p { decisions = ds; kept = rest; current = l })) (sym current_is)
    (subst (λ (c : Checkpoint). IsPropagation (record p { decisions = c.decisions; kept = rest; current = c.log })) before_is (undone p rest before is kept))

-- what closes
pub closes : (i : Instance) (c : Choice) (goal : ℕ) (log : Journal) → IsInstance i → IsLog i c goal log → IsTrue log.facts.known.closed → ClosesSharply i c (record { goal = goal; steps = log.steps }) × (length log.steps < 2 ^ 32)
closes i c goal log w is closed = closes_log i c w is.choice goal log.steps log.facts.known is.lead closed

-- The same, as a body makes it.
pub decides_of : (p : Propagator) (d : Decision) (ds : List Decision) (before all : List Checkpoint) (made : Checkpoint) (next current : Journal) → IsPropagation p → IsOpenDecision p.instance p.current.facts.choice d → ds ≡ p.decisions ++ d ∷ [] → IsThinned p.kept before → all ≡ before ++ made ∷ [] → made ≡ checkpoint_of p → current ≡ next → IsLog p.current.facts.instance (choice_after p.current.facts.instance p.current.facts.choice d) p.current.facts.goal next → IsPropagation (record p { decisions = ds; kept = all; current = current })
decides_of p d ds before all made next current is fresh ds_is thinned all_is made_is current_is log =
    let at = is.current.facts in
    let is_open : IsOpenDecision p.instance (chosen p.instance p.decisions) d = subst (λ (s : Facts). IsOpenDecision p.instance s.choice d) at fresh in
    let here : IsLog p.instance (choice_after p.instance (chosen p.instance p.decisions) d) p.goal next = subst (λ (s : Facts). IsLog s.instance (choice_after s.instance s.choice d) s.goal next) at log in
    let kept : all ≡ before ++ checkpoint_of p ∷ [] = all_is ∙ ap (λ (c : Checkpoint). before ++ c ∷ []) made_is in
    subst (λ (xs : List Decision). IsPropagation (record p { decisions = xs; kept = all; current = current })) (sym ds_is)
    (subst (λ (cs : List Checkpoint). IsPropagation (record p { decisions = p.decisions ++ d ∷ []; kept = cs; current = current })) (sym kept)
    (subst (λ (l : Journal). IsPropagation (record p { decisions = p.decisions ++ d ∷ []; kept = before ++ checkpoint_of p ∷ []; current = l })) (sym current_is) (decides p d before next is is_open thinned here)))

pub above_at : (p : Propagator) → IsPropagation p → IsFalse p.current.facts.known.closed → (bound : ℕ) → IsPathBound p.current.facts.instance bound → bound < p.current.facts.goal
above_at p is left bound at =
    let same = is.current.facts in
    let here : bound < p.goal = is.current.above left bound (subst (λ (s : Facts). IsPathBound s.instance bound) same at) in
    omega (arith, here, ap (λ (s : Facts). s.goal) same)

-- What is known before any decision, as a body makes it.
pub begun_of : (i : Instance) (goal : ℕ) (c : Choice) (first : Facts) (room : List Step) (start end : Journal) → c ≡ root_choice i → start ≡ record { facts = first; steps = room } → first ≡ record { instance = i; choice = c; goal = goal; known = first_facts i c } → room ≡ [] → Advances start end → IsChoice i c → (IsFalse end.facts.known.closed → (bound : ℕ) → IsPathBound i bound → bound < start.facts.goal) → (IsComplete i c → IsFalse end.facts.known.closed → (plan : Plan) × IsPlanBelow i c start.facts.goal plan) → IsLog i (root_choice i) goal end
begun_of i goal c first room start end c_is start_is first_is room_is advances ok above finds =
    let begins : start ≡ record { facts = record { instance = i; choice = c; goal = goal; known = first_facts i c }; steps = [] } = start_is ∙ (λ j. record { facts = first_is j; steps = room_is j }) in
    let at : start.facts.goal ≡ goal = ap (λ (log : Journal). log.facts.goal) begins in
    let here : IsLog i c goal end = log_of i c goal start end begins advances ok (λ left bound is. omega (arith, above left bound is, at)) (λ done left. subst (λ (g : ℕ). (plan : Plan) × IsPlanBelow i c g plan) at (finds done left)) in
    subst (λ (x : Choice). IsLog i x goal end) c_is here

pub started_of : (i : Instance) (goal : ℕ) (log : Journal) (ds : List Decision) (kept : List Checkpoint) → IsInstance i → IsLog i (root_choice i) goal log → ds ≡ [] → kept ≡ [] → IsPropagation (record { instance = i; goal = goal; decisions = ds; kept = kept; current = log })
started_of i goal log ds kept w is ds_is kept_is =
    subst (λ (xs : List Decision). IsPropagation (record { instance = i; goal = goal; decisions = xs; kept = kept; current = log })) (sym ds_is)
    (subst (λ (cs : List Checkpoint). IsPropagation (record { instance = i; goal = goal; decisions = []; kept = cs; current = log })) (sym kept_is)
    (started i goal log w is))

-- a log that is kept follows from the first facts
pub follows_at : (p : Propagator) → IsPropagation p → FollowsFrom p.current.facts.instance p.current.facts.choice p.current.facts.goal p.current
follows_at p is =
    let about : p.current.facts ≡ record { instance = p.instance; choice = chosen p.instance p.decisions; goal = p.goal; known = p.current.facts.known } = is.current.facts in
    rw about (record { more = p.current.steps; facts = refl; steps = refl; lead = is.current.lead })

-- What is known after decisions is of a choice that keeps none.
pub bare_at : (p : Propagator) (s : Facts) → IsPropagation p → s ≡ p.current.facts → bare s.choice ≡ s.choice
bare_at p s is s_is =
    let about : s ≡ record { instance = p.instance; choice = chosen p.instance p.decisions; goal = p.goal; known = p.current.facts.known } = s_is ∙ is.current.facts in
    subst (λ (t : Facts). bare t.choice ≡ t.choice) (sym about) (bare-same (chosen p.instance p.decisions) (none_kept-after_all p.instance (root_choice p.instance) p.decisions refl))

-- Steps that are taken again from the first facts on, and leave no plan.
pub trimmed_of : (s : Facts) (steps : List Step) (end : Journal) (known : Facts) → AreFacts s → bare s.choice ≡ s.choice → FollowsFrom s.instance (bare s.choice) s.goal end → known ≡ end.facts → steps ≡ end.steps → IsTrue known.known.closed → ClosesSharply s.instance s.choice (record { goal = s.goal; steps = steps }) × (length steps < 2 ^ 32)
trimmed_of s steps end known are none follows known_is steps_is closed =
    let done = closes_of s.instance (bare s.choice) are.instance (IsChoice-keeping s.instance s.choice [] are.choice) s.goal steps (first_log s.instance (bare s.choice) s.goal) end known refl follows known_is steps_is closed in
    (subst (λ (x : Choice). ClosesSharply s.instance x (record { goal = s.goal; steps = steps })) none done.0, done.1)

pub closes_at : (p : Propagator) (s : Facts) (steps : List Step) → IsPropagation p → s ≡ p.current.facts → steps ≡ p.current.steps → IsTrue p.current.facts.known.closed → ClosesSharply s.instance s.choice (record { goal = s.goal; steps = steps }) × (length steps < 2 ^ 32)
closes_at p s steps is s_is steps_is closed =
    let all = closes p.instance (chosen p.instance p.decisions) p.goal p.current is.instance is.current closed in
    let about : s ≡ record { instance = p.instance; choice = chosen p.instance p.decisions; goal = p.goal; known = p.current.facts.known } = s_is ∙ is.current.facts in
    subst (λ (xs : List Step). ClosesSharply s.instance s.choice (record { goal = s.goal; steps = xs }) × (length xs < 2 ^ 32)) (sym steps_is)
    (subst (λ (t : Facts). ClosesSharply t.instance t.choice (record { goal = t.goal; steps = p.current.steps }) × (length p.current.steps < 2 ^ 32)) (sym about) all)

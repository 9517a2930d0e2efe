-- The log of what was decided leads from what is known at first of all decisions, the last among them.
use Rattle.std.proofs.Common.{ℕ, List, [], ◌∷◌, ◌++◌, subst}
use Rattle.ttp_model.specs.Instance.{Instance}
use Rattle.tt_choice.specs.declared.decision.Decision.{Decision}
use Rattle.tt_choice.specs.Decisions.{chosen}
use Rattle.sought_plans.specs.Known.{first_facts}
use Rattle.path_bounds.specs.Propagation.{LeadSharply}
use Rattle.path_bounds.specs.Propagator.{Propagator, Decides, IsPropagation}

pub led_there : (old new : Propagator) (d : Decision) → Decides d old new → IsPropagation new
    → LeadSharply old.instance (chosen old.instance (old.decisions ++ d ∷ [])) old.goal
    (first_facts old.instance (chosen old.instance (old.decisions ++ d ∷ []))) new.current.steps new.current.facts.known
led_there old new d decides is =
    subst (λ (goal : ℕ). LeadSharply old.instance (chosen old.instance (old.decisions ++ d ∷ [])) goal
    (first_facts old.instance (chosen old.instance (old.decisions ++ d ∷ []))) new.current.steps new.current.facts.known) decides.goal
    (subst (λ (ds : List Decision). LeadSharply old.instance (chosen old.instance ds) new.goal
    (first_facts old.instance (chosen old.instance ds)) new.current.steps new.current.facts.known) decides.decisions
    (subst (λ (i : Instance). LeadSharply i (chosen i new.decisions) new.goal (first_facts i (chosen i new.decisions)) new.current.steps
    new.current.facts.known) decides.instance is.current.lead))

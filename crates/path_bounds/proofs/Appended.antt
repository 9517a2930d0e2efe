-- What a log that began with the first facts appends.
use Rattle.std.proofs.Common.{◌≡◌, ℕ, List, Result, IfOk, ap, sym, ◌∙◌}
use Rattle.ttp_model.specs.declared.error.MemoryFault.{MemoryFault}
use Rattle.ttp_model.specs.declared.step.Step.{Step}
use Rattle.ttp_model.specs.Instance.{Instance}
use Rattle.ttp_model.specs.Rules.{IsInstance}
use Rattle.tt_choice.specs.Choice.{Choice, IsChoice}
use Rattle.step_logs.specs.Known.{first_facts}
use Rattle.step_logs.specs.Facts.{Facts, after}
use Rattle.step_logs.specs.Journal.{Journal, Advances}
use Rattle.step_logs.proofs.RuledOut.{Lead-sharply}
use Rattle.step_logs.proofs.Counts.{few_steps}
use Rattle.path_bounds.specs.declared.reached.Reached.{Reached}
use Rattle.path_bounds.specs.Propagation.{Propagates, IsReached}

module _ (i : Instance) (c : Choice) (w : IsInstance i) (ok : IsChoice i c) where
  propagated : (goal : ℕ) (old new : List Step) (s : Facts) (answer : Result Reached MemoryFault)
      → Advances (record { facts = record { instance = i; choice = c; goal = goal; known = first_facts i c }; steps = old }) (record { facts = s; steps = new })
      → IfOk answer (IsReached i c goal s.known) → Propagates i c goal old new answer
  propagated goal old new s answer advances reached = record {
    more = advances.more;
    known = s.known;
    appended = advances.steps;
    lead = Lead-sharply i c goal (first_facts i c) advances.more s.known advances.lead;
    sharp = advances.lead;
    few = few_steps i c w ok goal advances.more s.known advances.lead;
    reached = reached;
  }

  -- so of a log that began there
  pub appended_of : (goal : ℕ) (old new : List Step) (start end : Journal) (s : Facts) (answer : Result Reached MemoryFault)
      → start ≡ record { facts = record { instance = i; choice = c; goal = goal; known = first_facts i c }; steps = old } → Advances start end
      → s ≡ end.facts → new ≡ end.steps → IfOk answer (IsReached i c goal s.known) → Propagates i c goal old new answer
  appended_of goal old new start end s answer begins advances same steps reached =
      propagated goal old new s answer (rw (← begins, same, steps) advances) reached

  -- what the log's facts are about
  pub about_of : (goal : ℕ) (old : List Step) (start end : Journal) (s : Facts)
      → start ≡ record { facts = record { instance = i; choice = c; goal = goal; known = first_facts i c }; steps = old } → Advances start end
      → s ≡ end.facts → s ≡ record { instance = i; choice = c; goal = goal; known = s.known }
  about_of goal old start end s begins advances same =
      same ∙ advances.facts ∙ ap (λ (log : Journal). after log.facts end.facts.known) begins
      ∙ ap (λ (t : Facts). after (record { instance = i; choice = c; goal = goal; known = first_facts i c }) t.known) (sym same)

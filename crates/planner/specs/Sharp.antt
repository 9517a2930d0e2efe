-- The steps of a leaf, one after another, and those after which more is known. Only private contracts ask for it.
use Rattle.std.specs.Prelude.{List, IsFalse, IsTrue}
use Rattle.ttp_model.specs.declared.step.Step.{Step}
use Rattle.sought_plans.specs.Known.{Known}
use Rattle.tt_infer.specs.Facts.{Facts}
use Rattle.tt_infer.specs.Table.{IsLawful}
use Rattle.tt_infer.specs.Leaves.{Lead, LeadSharply}

-- a plan may be left, and the step leads lawfully to this
pub record IsNext (s : Facts) (step : Step) (g : Known) : Type 0 where
  pub still : IsFalse s.known.closed
  pub lawful : IsLawful s.instance s.choice s.goal s.known step g

-- steps lead to where no plan is left
abbrev pub LeadsToEnd : Facts → List Step → Type 0
LeadsToEnd s steps = (g : Known) × Lead s.instance s.choice s.goal s.known steps g × IsTrue g.closed

-- the same, and more is known after each of them
abbrev pub LeadsSharplyToEnd : Facts → List Step → Type 0
LeadsSharplyToEnd s steps = (g : Known) × LeadSharply s.instance s.choice s.goal s.known steps g × IsTrue g.closed

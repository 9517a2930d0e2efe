-- A certificate of one leaf, whose first step isn't lawful, is refused.
use Rattle.std.proofs.Common.{◌≡◌, ℕ, List, [], ◌∷◌, Result, Ok, Err, IsErr, refl, subst}
use Rattle.ttp_model.specs.declared.step.Leaf.{Leaf}
use Rattle.ttp_model.specs.declared.step.Step.{Step}
use Rattle.ttp_model.specs.Instance.{Instance}
use Rattle.tt_choice.specs.Branches.{root_choice}
use Rattle.sought_plans.specs.Known.{Known, first_facts}
use Rattle.tt_infer.specs.Leaves.{Lead}
use Rattle.tt_infer.specs.Table.{IsLawful}
use Rattle.certificate.specs.declared.node.Node.TheVariants as node
use Rattle.certificate.specs.Cert.{Cert}
use Rattle.certificate.specs.Trees.{grow, none}
use Rattle.tree_check.specs.declared.fault.CertFault.{CertFault}
use Rattle.tree_check.specs.Faults.{IsJudged}
use Rattle.tree_check.specs.Proofs.{AreProofs}

module _ (i : Instance) (cert : Cert) (leaf : Leaf) (step : Step) (steps : List Step) where
  pub unlawful_first : (result : Result ℕ CertFault) → IsJudged i cert result → cert.tree ≡ grow (node.Leaf leaf) none none → leaf.steps ≡ step ∷ steps
      → ((g : Known) → ¬ IsLawful i (root_choice i) leaf.goal (first_facts i (root_choice i)) step g) → IsErr result
  unlawful_first (Ok low) says tree is unlawful =
      let proofs = subst (λ t. AreProofs i cert.low (root_choice i ∷ []) t) tree says.1.tree in
      let lead = subst (λ s. Lead i (root_choice i) leaf.goal (first_facts i (root_choice i)) s proofs.0.closes.0) is proofs.0.closes.1 in
      absurd (unlawful lead.1.0 lead.1.1)
  unlawful_first (Err fault) says tree is unlawful = refl

-- With one channel no line of what proves a bound speaks of channels: none is free, no step counts by channel, and no message is on the second.
use Rattle.std.proofs.Common.{◌≡◌, ℕ, suc, ◌≤◌, Bool, true, false, cond, List, [], ◌∷◌, ◌++◌, Option, Some, unwrap_or, All, refl, arith, ap, sym, ◌∙◌}
use Rattle.std.specs.Prelude.{◌==◌}
use Rattle.std.proofs.lemmas.Bool.{eqb-true}
use Rattle.std.proofs.lemmas.List.Elements.{All-nil, All-cons, All-append}
use Rattle.ttp_model.specs.declared.step.Kind.{Kind}
use Rattle.ttp_model.specs.declared.step.Kind.TheVariants.{Chan}
use Rattle.ttp_model.specs.declared.step.Step.{Step}
use Rattle.ttp_model.specs.declared.step.Step.TheVariants.{XChannel, XMirror}
use Rattle.ttp_model.specs.Instance.{Instance}
use Rattle.ttp_model.specs.Rules.{IsInstance}
use Rattle.tt_choice.specs.Choice.{Choice, IsChoice, fixed_channel}
use Rattle.tt_choice.specs.Branches.{IsOpen, root_choice}
use Rattle.tt_choice.proofs.Channels.{only_channel, no_channel_is_open}
use Rattle.tt_choice.proofs.Root.{IsChoice-root}
use Rattle.sought_plans.specs.Known.{Known, first_facts}
use Rattle.tt_infer.specs.Table.{rule}
use Rattle.tt_infer.specs.Leaves.{Lead}
use Rattle.certificate.specs.declared.node.Node.{Node}
use Rattle.certificate.specs.declared.node.Node.TheVariants.{Branch, Leaf}
use Rattle.certificate.specs.declared.version.Version.TheVariants.{One, Two}
use Rattle.certificate.specs.Trees.{Trees, none, grow, preorder}
use Rattle.certificate.specs.Versions.{answer_version, allows_kind, allows_step, AllowsStep, AllowsNode, Allows}
use Rattle.certificate.specs.Cert.{Cert}
use Rattle.certificate.proofs.Versions.{two_allows_all}
use Rattle.tree_check.specs.Proofs.{choices_below, Suits, AreProofs, Proves}
use Rattle.tree_check.proofs.Bounds.{below_are}

module _ (i : Instance) (alone : i.cluster.channels ≡ 1) where
  open_kind : (c : Choice) (kind : Kind) → IsChoice i c → IsOpen i c kind → allows_kind One kind ≡ true
  open_kind c (Chan m) ok is = absurd (no_channel_is_open i c m alone ok is)
  open_kind c kind ok is = refl

  lawful_step : (c : Choice) (goal : ℕ) (f : Known) (step : Step) → IsChoice i c → (rule i c goal f step).there → (rule i c goal f step).premise
      → allows_step One step ≡ true
  lawful_step c goal f (XChannel k n a b) ok there premise =
      let two : 2 ≤ i.cluster.channels = there.1.0 in
      absurd (omega (arith, alone, two))
  lawful_step c goal f (XMirror m) ok there premise =
      let second : fixed_channel c m ≡ Some 1 = premise.second in
      let same : 0 ≡ 1 = ap (λ (o : Option ℕ). unwrap_or o 0) (sym (only_channel i c m alone ok there) ∙ second) in
      absurd (omega (arith, same))
  lawful_step c goal f step ok there premise = refl

  lawful_steps : (c : Choice) (goal : ℕ) (f : Known) (steps : List Step) (g : Known) → IsChoice i c → Lead i c goal f steps g → All (AllowsStep One) steps
  lawful_steps c goal f [] g ok lead = All-nil (AllowsStep One)
  lawful_steps c goal f (step ∷ steps) g ok lead =
      All-cons (AllowsStep One) step steps (lawful_step c goal f step ok lead.1.1.there lead.1.1.premise) (lawful_steps c goal lead.1.0 steps g ok lead.1.2)

  suiting_node : (low : ℕ) (c : Choice) (node : Node) → IsChoice i c → Suits i low c node → AllowsNode One node
  suiting_node low c (Branch branch) ok suits = record { head = open_kind c branch.kind ok suits.is_open; steps = All-nil (AllowsStep One) }
  suiting_node low c (Leaf leaf) ok suits =
      record { head = refl; steps = lawful_steps c leaf.goal (first_facts i c) leaf.steps suits.closes.0 ok suits.closes.1 }

  proof_lines : (low : ℕ) (cs : List Choice) (trees : Trees) → All (IsChoice i) cs → AreProofs i low cs trees → Allows One trees
  proof_lines low [] none ok are = All-nil (AllowsNode One)
  proof_lines low [] (grow node below beside) ok are = absurd are
  proof_lines low (c ∷ cs) none ok are = absurd are
  proof_lines low (c ∷ cs) (grow node below beside) ok are =
      let first : IsChoice i c = ok 0 c (omega arith) in
      let others : All (IsChoice i) cs = λ k d h. ok (suc k) d (omega (arith, h)) in
      let under = proof_lines low (choices_below i c node) below (below_are i low c node first are.0) are.1.0 in
      let next = proof_lines low cs beside others are.1.1 in
      All-cons (AllowsNode One) node (preorder below ++ preorder beside) (suiting_node low c node first are.0)
      (All-append (AllowsNode One) (preorder below) (preorder beside) under next)

-- so version 1 allows them all
pub one_channel_is_allowed : (i : Instance) (cert : Cert) → IsInstance i → i.cluster.channels ≡ 1 → Proves i cert → Allows One cert.tree
one_channel_is_allowed i cert w alone proves =
    let root = All-cons (IsChoice i) (root_choice i) [] (IsChoice-root i w) (λ k d h. absurd (omega (arith, h))) in
    proof_lines i alone cert.low (root_choice i ∷ []) cert.tree root proves.tree

by_channels : (i : Instance) (cert : Cert) (alone : Bool) → (i.cluster.channels == 1) ≡ alone → IsInstance i → Proves i cert → Allows (cond alone One Two) cert.tree
by_channels i cert true is w proves = one_channel_is_allowed i cert w (eqb-true i.cluster.channels 1 is) proves
by_channels i cert false is w proves = two_allows_all cert.tree

-- the version of an instance's answers allows all lines of a certificate that proves its bound
pub answer_version_allows : (i : Instance) (cert : Cert) → IsInstance i → Proves i cert → Allows (answer_version i) cert.tree
answer_version_allows i cert w proves = by_channels i cert (i.cluster.channels == 1) refl w proves

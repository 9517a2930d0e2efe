-- Lines that version 1 allows speak of no channel.
use Rattle.std.proofs.Common.{◌≡◌, true, false, ap, subst, sym, ◌∙◌}
use Rattle.std.proofs.lemmas.List.Elements.{All-contains}
use Rattle.ttp_model.specs.declared.step.Kind.{Kind}
use Rattle.ttp_model.specs.declared.step.Kind.TheVariants.{Chan}
use Rattle.ttp_model.specs.declared.step.Step.TheVariants.{XChannel}
use Rattle.certificate.specs.declared.node.Node.TheVariants as node
use Rattle.certificate.specs.declared.version.Version.{Version}
use Rattle.certificate.specs.declared.version.Version.TheVariants.{One}
use Rattle.certificate.specs.Trees.{Trees, preorder}
use Rattle.certificate.specs.Versions.{allows_kind, AllowsStep, AllowsNode, Allows}
use Rattle.certificate.specs.Cert.{Cert}
use Rattle.evidence.specs.Channels.{SpeaksOfNoChannel}

pub speaks_of_none : (tree : Trees) → Allows One tree → SpeaksOfNoChannel tree
speaks_of_none tree allowed = record {
  branches = λ branch there m is.
      let own = All-contains (AllowsNode One) (preorder tree) (node.Branch branch) allowed there in
      let no : false ≡ true = sym (ap (λ (kind : Kind). allows_kind One kind) is) ∙ own.head in
      absurd cc;
  steps = λ leaf there k n a b step.
      let own = All-contains (AllowsNode One) (preorder tree) (node.Leaf leaf) allowed there in
      let no : false ≡ true = All-contains (AllowsStep One) leaf.steps (XChannel k n a b) own.steps step in
      absurd cc;
}

pub first_version_speaks_of_none : (cert : Cert) → Allows cert.version cert.tree → cert.version ≡ One → SpeaksOfNoChannel cert.tree
first_version_speaks_of_none cert allowed first = speaks_of_none cert.tree (subst (λ (version : Version). Allows version cert.tree) first allowed)

-- The certificate of a joined tree: its bound, its version, and what it proves.
use Rattle.std.proofs.Common.{◌≡◌, ℕ, ◌+◌, List, [], refl, sym, ap, subst, ◌∙◌}
use Rattle.ttp_model.specs.Instance.{Instance}
use Rattle.ttp_model.specs.Rules.{IsInstance}
use Rattle.ttp_model.specs.Delays.{IsLowerBound}
use Rattle.certificate.specs.declared.node.Node.{Node}
use Rattle.certificate.specs.declared.version.Version.TheVariants.{One}
use Rattle.certificate.specs.Trees.{Trees, trees_of}
use Rattle.certificate.specs.Versions.{answer_version, Allows}
use Rattle.certificate.specs.Cert.{Cert}
use Rattle.certificate.proofs.TreeLists.{preorder-trees_of}
use Rattle.tree_check.specs.Proofs.{Proves}
use Rattle.tree_check.proofs.Bounds.{proved_bound}
use Rattle.tree_check.proofs.OneChannel.{answer_version_allows}
use Rattle.side_by_side.specs.declared.frame.Frame.{Frame}
use Rattle.side_by_side.specs.declared.joining.Joining.{Joining}
use Rattle.side_by_side.specs.Joined.{IsJoinedTree}
use Rattle.side_by_side.specs.Joining.{IsJoining}
use Rattle.side_by_side.specs.Steps.{IsJoiningOf, IsStep}
use Rattle.side_by_side.specs.Bounds.{IsGreatestBound, IsRight, lowest}
use Rattle.side_by_side.proofs.LowBounds.{greatest_bound}
use Rattle.side_by_side.proofs.Stages.{joining_all}

pub made_bound : (i : Instance) (nodes : List Node) (low : ℕ) → IsRight i (trees_of nodes) → low ≡ lowest (i.cluster.horizon + 1) nodes
    → IsGreatestBound i (trees_of nodes) low
made_bound i nodes low right is =
    let same = ap (lowest (i.cluster.horizon + 1)) (preorder-trees_of nodes) ∙ sym is in
    subst (IsGreatestBound i (trees_of nodes)) same (greatest_bound i (trees_of nodes) right)

-- a certificate of that bound proves it, whatever its version
proves_it : (i : Instance) (tree : Trees) (low : ℕ) → IsGreatestBound i tree low → Proves i (record { version = One; low = low; tree = tree })
proves_it i tree low greatest = record { low = greatest.within; tree = greatest.proved }

pub made_lower : (i : Instance) (tree : Trees) (low : ℕ) → IsInstance i → IsGreatestBound i tree low → IsLowerBound i low
made_lower i tree low w greatest = proved_bound i (record { version = One; low = low; tree = tree }) w (proves_it i tree low greatest)

-- all its lines may stand in the version of the instance's answers
pub made_allowed : (i : Instance) (tree : Trees) (low : ℕ) → IsInstance i → IsGreatestBound i tree low → Allows (answer_version i) tree
made_allowed i tree low w greatest =
    answer_version_allows i (record { version = One; low = low; tree = tree }) w (proves_it i tree low greatest)

-- ---- the end of a join

pub made_joined : (i : Instance) (certs : List Cert) (first j : Joining) → first.instance.now ≡ i → first.certs.now ≡ certs → IsStep first j
    → IsJoiningOf j → j.frames.items ≡ [] → IsJoinedTree i certs (trees_of j.nodes.items) × IsRight i (trees_of j.nodes.items)
made_joined i certs first j instance_is certs_are step joining all =
    let same_instance : j.instance.now ≡ i = rw step.instance instance_is in
    let same_certs : j.certs.now ≡ certs = rw step.certs certs_are in
    let whole = joining_all j.instance.now j.certs.now j.walk j.sides.items j.nodes.items
    (subst (λ (fs : List Frame). IsJoining j.instance.now j.certs.now j.walk j.sides.items fs j.nodes.items) all joining) in
    subst (λ (cs : List Cert). IsJoinedTree i cs (trees_of j.nodes.items) × IsRight i (trees_of j.nodes.items)) same_certs
    (subst (λ (x : Instance). IsJoinedTree x j.certs.now (trees_of j.nodes.items) × IsRight x (trees_of j.nodes.items)) same_instance whole)

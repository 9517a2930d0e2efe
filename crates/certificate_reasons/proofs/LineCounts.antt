-- A certificate's text has as many bytes as lines, and more.
use Rattle.std.proofs.Common.{ℕ, ◌+◌, ◌≤◌, List, [], ◌∷◌, ◌++◌, ap, arith, length}
use Rattle.std.specs.List.{flat_map}
use Rattle.std.proofs.lemmas.List.{length-append}
use Rattle.ttp_model.specs.declared.step.Step.{Step}
use Rattle.certificate.specs.Cert.{Cert}
use Rattle.certificate.specs.declared.node.Node.{Node}
use Rattle.certificate.specs.declared.node.Node.TheVariants as node
use Rattle.certificate.specs.declared.version.Version.{Version}
use Rattle.certificate.specs.declared.version.Version.TheVariants.{One, Two}
use Rattle.certificate.specs.Lines.{lines, node_lines, total_lines}
use Rattle.certificate.specs.Spelling.{SpellsCert, line_with, node_text, step_text}
use Rattle.certificate.specs.Trees.{preorder}
use Rattle.certificate.specs.Versions.{version_line}
use Rattle.certificate.specs.Words.{head_of, head_words, low_words, step_words, steps_of}

steps_few : (steps : List Step) → length steps ≤ length (flat_map step_text steps)
unfolding step_text
steps_few [] = omega arith
steps_few (step ∷ steps) =
    let rest = steps_few steps in
    let all = length-append (step_text step) (flat_map step_text steps) in
    let own = length-append (line_with (step_words step)) (10 ∷ []) in
    omega (arith, rest, all, own)

node_few : (n : Node) → node_lines n ≤ length (node_text n)
unfolding node_text
node_few (node.Branch branch) =
    let own = length-append (line_with (head_words (head_of (node.Branch branch)))) (10 ∷ flat_map step_text (steps_of (node.Branch branch))) in
    omega (arith, own)
node_few (node.Leaf leaf) =
    let own = length-append (line_with (head_words (head_of (node.Leaf leaf)))) (10 ∷ flat_map step_text (steps_of (node.Leaf leaf))) in
    omega (arith, own, steps_few leaf.steps)

nodes_few : (nodes : List Node) → total_lines nodes ≤ length (flat_map node_text nodes)
nodes_few [] = omega arith
nodes_few (n ∷ nodes) =
    let rest = nodes_few nodes in
    let all = length-append (node_text n) (flat_map node_text nodes) in
    omega (arith, rest, all, node_few n)

-- the first line has more bytes than one
version_some : (version : Version) → 1 ≤ length (version_line version)
version_some One = omega arith
version_some Two = omega arith

pub lines_few : (text : List ℕ) (cert : Cert) → SpellsCert text cert → 3 + lines cert.tree ≤ length text
lines_few text cert spells =
    let is = ap (λ (t : List ℕ). length t) spells.spelled in
    let nodes = flat_map node_text (preorder cert.tree) in
    let few = nodes_few (preorder cert.tree) in
    let first = version_some cert.version in
    let one = length-append (version_line cert.version) (10 ∷ (line_with (low_words cert.low) ++ 10 ∷ nodes)) in
    let two = length-append (line_with (low_words cert.low)) (10 ∷ nodes) in
    omega (arith, is, few, first, one, two)

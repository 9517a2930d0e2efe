-- What is alike in all its parts is the same.
use Rattle.std.proofs.Common.{◌≡◌, ◌∙◌, ℕ, ◌==◌, Bool, true, List, [], ◌∷◌, refl, sym, ap}
use Rattle.std.specs.Cmp.Lexicographic.{pointwise, same_text}
use Rattle.std.proofs.lemmas.Bool.{and_parts, false≢true}
use Rattle.std.proofs.lemmas.Bool.Decides.{Decides-eqb}
use Rattle.std.specs.Cmp.{booleans_Decides}
use Rattle.ttp_model.specs.declared.parts.Node.{Node}
use Rattle.ttp_model.specs.declared.parts.Process.{Process}
use Rattle.ttp_model.specs.declared.parts.Link.{Link}
use Rattle.ttp_model.specs.declared.parts.Message.{Message}
use Rattle.ttp_model.specs.Instance.{Instance, instance_with}
use Rattle.instance_text.specs.Stated.{the_node, the_process, the_link, the_message}
use Rattle.ttp_model.specs.contracts.parts.NodePartialEq.TheImpl as nodes
use Rattle.ttp_model.specs.contracts.parts.ProcessPartialEq.TheImpl as processes
use Rattle.ttp_model.specs.contracts.parts.LinkPartialEq.TheImpl as links
use Rattle.ttp_model.specs.contracts.parts.MessagePartialEq.TheImpl as messages

-- lists are the same whose items are compared so that those alike are the same
pub lists_same : {A : Type 0} {E : A → A → Bool} → ((a b : A) → E a b ≡ true → a ≡ b)
    → (xs ys : List A) → pointwise E xs ys ≡ true → xs ≡ ys
lists_same same [] [] alike = refl
lists_same same [] (y ∷ ys) alike = absurd (false≢true alike)
lists_same same (x ∷ xs) [] alike = absurd (false≢true alike)
lists_same same (x ∷ xs) (y ∷ ys) alike =
    let (here, more) = and_parts _ _ alike in
    rw (same x y here, lists_same same xs ys more) refl

-- numbers that are alike are the same
number_same : (x y : ℕ) → (x == y) ≡ true → x ≡ y
number_same x y alike = (Decides-eqb x y).0 alike

-- nodes that are alike are the same
pub node_same : (a b : Node) → nodes.ghosts.eq a b ≡ true → a ≡ b
node_same a b alike =
    let (name, capacities) = and_parts _ _ alike in
    ap (λ n. the_node n a.capacities) (same_text _ _ (sym name)) ∙ ap (the_node b.name) (same_text _ _ (sym capacities))

-- links that are alike are the same
pub link_same : (a b : Link) → links.ghosts.eq a b ≡ true → a ≡ b
link_same a b alike =
    let (before, after) = and_parts _ _ alike in
    ap (λ n. the_link n a.after) (number_same _ _ before) ∙ ap (the_link b.before) (number_same _ _ after)

-- processes of the same five parts are the same
process_by : (a b : Process) → a.name ≡ b.name → a.node ≡ b.node → a.wcet ≡ b.wcet → a.release ≡ b.release
    → a.deadline ≡ b.deadline → a ≡ b
process_by a b name node wcet release deadline =
    ap (λ n. the_process n a.node a.wcet a.release a.deadline) name
    ∙ ap (λ n. the_process b.name n a.wcet a.release a.deadline) node
    ∙ ap (λ n. the_process b.name b.node n a.release a.deadline) wcet
    ∙ ap (λ n. the_process b.name b.node b.wcet n a.deadline) release
    ∙ ap (the_process b.name b.node b.wcet b.release) deadline

-- processes that are alike are the same
pub process_same : (a b : Process) → processes.ghosts.eq a b ≡ true → a ≡ b
process_same a b alike =
    let (name, more) = and_parts _ _ alike in
    let (node, times) = and_parts _ _ more in
    let (wcet, range) = and_parts _ _ times in
    let (release, deadline) = and_parts _ _ range in
    process_by a b (same_text _ _ (sym name)) (number_same _ _ node) (number_same _ _ wcet) (number_same _ _ release)
    (number_same _ _ deadline)

-- messages of the same five parts are the same
message_by : (a b : Message) → a.name ≡ b.name → a.sender ≡ b.sender → a.receivers ≡ b.receivers → a.bytes ≡ b.bytes
    → a.both ≡ b.both → a ≡ b
message_by a b name sender receivers bytes both =
    ap (λ n. the_message n a.sender a.receivers a.bytes a.both) name
    ∙ ap (λ n. the_message b.name n a.receivers a.bytes a.both) sender
    ∙ ap (λ n. the_message b.name b.sender n a.bytes a.both) receivers
    ∙ ap (λ n. the_message b.name b.sender b.receivers n a.both) bytes
    ∙ ap (the_message b.name b.sender b.receivers b.bytes) both

-- messages that are alike are the same
pub message_same : (a b : Message) → messages.ghosts.eq a b ≡ true → a ≡ b
message_same a b alike =
    let (name, more) = and_parts _ _ alike in
    let (sender, load) = and_parts _ _ more in
    let (receivers, size) = and_parts _ _ load in
    let (bytes, both) = and_parts _ _ size in
    message_by a b (same_text _ _ (sym name)) (number_same _ _ sender) (same_text _ _ (sym receivers)) (number_same _ _ bytes)
    ((booleans_Decides _ _).0 both)

-- instances of the same five parts are the same
pub instances_same : (i j : Instance) → i.cluster ≡ j.cluster → i.nodes ≡ j.nodes → i.processes ≡ j.processes
    → i.links ≡ j.links → i.messages ≡ j.messages → i ≡ j
instances_same i j cluster nodes processes links messages =
    ap (λ x. instance_with x i.nodes i.processes i.links i.messages) cluster
    ∙ ap (λ x. instance_with j.cluster x i.processes i.links i.messages) nodes
    ∙ ap (λ x. instance_with j.cluster j.nodes x i.links i.messages) processes
    ∙ ap (λ x. instance_with j.cluster j.nodes j.processes x i.messages) links
    ∙ ap (instance_with j.cluster j.nodes j.processes j.links) messages

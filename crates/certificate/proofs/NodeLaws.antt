-- The two laws of steps and of a node: what is read is spelled so, and what is spelled so is read.
use Rattle.std.proofs.Common.{◌≡◌, ℕ, zero, suc, ◌+◌, ◌≤◌, true, List, [], ◌∷◌, ◌++◌, length, All, Ok, refl, sym, ap, subst, ◌∙◌, append_assoc, arith}
use Rattle.std.specs.Prelude.{nat_le}
use Rattle.std.specs.List.{flat_map}
use Rattle.std.proofs.lemmas.List.Elements.{All-nil, All-cons, All-head, All-tail}
use Rattle.std.proofs.lemmas.Bool.{leb-true}
use Rattle.line_text.specs.Results.{check}
use Rattle.line_text.proofs.Results.{bind_ok, ok_is, check_ok}
use Rattle.ttp_model.specs.declared.step.Step.{Step}
use Rattle.certificate.specs.declared.fault.LineFault.TheVariants.{Depth}
use Rattle.certificate.specs.declared.fault.CertTextError.TheVariants.{At}
use Rattle.certificate.specs.declared.head.Head.{Head}
use Rattle.certificate.specs.declared.head.Head.TheVariants.{OfBranch, OfLeaf}
use Rattle.certificate.specs.declared.limits.TheConstants.{MOST_BRANCHES_ABOVE}
use Rattle.certificate.specs.declared.node.Node.{Node}
use Rattle.certificate.specs.declared.node.Node.TheVariants.{Branch, Leaf}
use Rattle.certificate.specs.Words.{IsLong, step_words, steps_with, head_words, heads_with, head_of, steps_of, count_of, node_of_head}
use Rattle.certificate.specs.Spelling.{line_with, step_text, node_text, StepHasText, NodeHasText}
use Rattle.certificate.specs.Reading.{line_at, said_in, text_step, steps_at, text_node}
use Rattle.certificate.proofs.Heads.{line_takes, line_again}
use Rattle.certificate.proofs.Said.{said_takes, said_again, line_lacks}
use Rattle.certificate.proofs.Tables.{steps_said, step_sayable, heads_said, head_sayable}
use Rattle.certificate.specs.declared.version.Version.{Version}
use Rattle.certificate.specs.Versions.{allows_step, allows_head, AllowsStep, AllowsNode}

-- ---- one step

pub step_takes : (version : Version) (line : ℕ) (text : List ℕ) (x : Step × List ℕ) → text_step version line text ≡ Ok x → (text ≡ step_text x.0 ++ x.1) × StepHasText x.0 × AllowsStep version x.0
unfolding text_step step_text
step_takes version line text x e =
    let first = bind_ok (line_at line text) _ x e in
    let step = bind_ok (said_in step_words steps_with (allows_step version) line first.0.0) _ x first.2 in
    let is : (step.0, first.0.1) ≡ x = ok_is (step.0, first.0.1) x step.2 in
    let said = said_takes step_words steps_with (allows_step version) IsLong steps_said line first.0.0 step.0 step.1 in
    let whole : text ≡ (line_with (step_words step.0) ++ 10 ∷ []) ++ first.0.1 =
    line_takes line text first.0.0 first.0.1 first.1 ∙ ap (λ (l : List ℕ). l ++ 10 ∷ first.0.1) said.0 ∙ sym (append_assoc (line_with (step_words step.0)) (10 ∷ []) first.0.1) in
    subst (λ (y : Step × List ℕ). (text ≡ step_text y.0 ++ y.1) × StepHasText y.0 × AllowsStep version y.0) is (whole, record { numbers = said.1; long = said.2 }, said.3)

pub step_again : (version : Version) (line : ℕ) (step : Step) (rest : List ℕ) → StepHasText step → AllowsStep version step → text_step version line (step_text step ++ rest) ≡ Ok (step, rest)
unfolding text_step step_text
step_again version line step rest has may =
    let sayable = step_sayable step has.long in
    ap (text_step version line) (append_assoc (line_with (step_words step)) (10 ∷ []) rest)
    ∙ rw (line_again line (line_with (step_words step)) rest (line_lacks step_words steps_with step sayable has.numbers), said_again step_words steps_with (allows_step version) line step sayable has.numbers may) refl

-- ---- steps

pub steps_take : (version : Version) (count line : ℕ) (text : List ℕ) (x : List Step × List ℕ) → steps_at version count line text ≡ Ok x
    → (text ≡ flat_map step_text x.0 ++ x.1) × (length x.0 ≡ count) × All StepHasText x.0 × All (AllowsStep version) x.0
unfolding steps_at
steps_take version zero line text x e =
    subst (λ (y : List Step × List ℕ). (text ≡ flat_map step_text y.0 ++ y.1) × (length y.0 ≡ 0) × All StepHasText y.0 × All (AllowsStep version) y.0) (ok_is ([], text) x e)
    (refl, refl, All-nil StepHasText, All-nil (AllowsStep version))
steps_take version (suc k) line text x e =
    let first = bind_ok (text_step version line text) _ x e in
    let others = bind_ok (steps_at version k (line + 1) first.0.1) _ x first.2 in
    let one = step_takes version line text first.0 first.1 in
    let more = steps_take version k (line + 1) first.0.1 others.0 others.1 in
    let whole : text ≡ flat_map step_text (first.0.0 ∷ others.0.0) ++ others.0.1 =
    one.0 ∙ ap (λ (t : List ℕ). step_text first.0.0 ++ t) more.0 ∙ sym (append_assoc (step_text first.0.0) (flat_map step_text others.0.0) others.0.1) in
    subst (λ (y : List Step × List ℕ). (text ≡ flat_map step_text y.0 ++ y.1) × (length y.0 ≡ suc k) × All StepHasText y.0 × All (AllowsStep version) y.0)
    (ok_is (first.0.0 ∷ others.0.0, others.0.1) x others.2)
    (whole, ap suc more.1, All-cons StepHasText first.0.0 others.0.0 one.1 more.2, All-cons (AllowsStep version) first.0.0 others.0.0 one.2 more.3)

pub steps_again : (version : Version) (line : ℕ) (steps : List Step) (rest : List ℕ) → All StepHasText steps → All (AllowsStep version) steps → steps_at version (length steps) line (flat_map step_text steps ++ rest) ≡ Ok (steps, rest)
unfolding steps_at
steps_again version line [] rest has may = refl
steps_again version line (step ∷ steps) rest has may =
    ap (steps_at version (suc (length steps)) line) (append_assoc (step_text step) (flat_map step_text steps) rest)
    ∙ rw (
      step_again version line step (flat_map step_text steps ++ rest) (All-head StepHasText step steps has) (All-head (AllowsStep version) step steps may),
      steps_again version (line + 1) steps rest (All-tail StepHasText step steps has) (All-tail (AllowsStep version) step steps may),
    ) refl

-- ---- a node

head_back : (head : Head) (steps : List Step) → length steps ≡ count_of head → (head_of (node_of_head head steps) ≡ head) × (steps_of (node_of_head head steps) ≡ steps)
head_back (OfBranch branch) [] e = (refl, refl)
head_back (OfBranch branch) (step ∷ steps) e = absurd (omega arith)
head_back (OfLeaf g k) steps e = (ap (OfLeaf g) e, refl)

node_back : (node : Node) → (node_of_head (head_of node) (steps_of node) ≡ node) × (count_of (head_of node) ≡ length (steps_of node))
node_back (Branch branch) = (refl, refl)
node_back (Leaf leaf) = (refl, refl)

node_joined : (text first after rest : List ℕ) (head : Head) (steps : List Step) → text ≡ first ++ 10 ∷ after → first ≡ line_with (head_words head) → after ≡ flat_map step_text steps ++ rest
    → head_of (node_of_head head steps) ≡ head → steps_of (node_of_head head steps) ≡ steps → text ≡ node_text (node_of_head head steps) ++ rest
unfolding node_text
node_joined text first after rest head steps a b c d e =
    a ∙ rw (b, c, d, e) (sym (append_assoc (line_with (head_words head)) (10 ∷ flat_map step_text steps) rest))

pub node_takes : (version : Version) (above line : ℕ) (text : List ℕ) (x : Node × List ℕ) → text_node version above line text ≡ Ok x → (text ≡ node_text x.0 ++ x.1) × NodeHasText x.0 × (above ≤ MOST_BRANCHES_ABOVE) × AllowsNode version x.0
unfolding text_node
node_takes version above line text x e =
    let first = bind_ok (line_at line text) _ x e in
    let head = bind_ok (said_in head_words heads_with (allows_head version) line first.0.0) _ x first.2 in
    let place = bind_ok (check (At line Depth) (nat_le above MOST_BRANCHES_ABOVE)) _ x head.2 in
    let steps = bind_ok (steps_at version (count_of head.0) (line + 1) first.0.1) _ x place.2 in
    let is : (node_of_head head.0 steps.0.0, steps.0.1) ≡ x = ok_is (node_of_head head.0 steps.0.0, steps.0.1) x steps.2 in
    let said = said_takes head_words heads_with (allows_head version) (λ head. Unit {0}) heads_said line first.0.0 head.0 head.1 in
    let taken = steps_take version (count_of head.0) (line + 1) first.0.1 steps.0 steps.1 in
    let back = head_back head.0 steps.0.0 taken.1 in
    let high : above ≤ MOST_BRANCHES_ABOVE = leb-true above MOST_BRANCHES_ABOVE (check_ok (At line Depth) (nat_le above MOST_BRANCHES_ABOVE) place.0 place.1) in
    subst (λ (y : Node × List ℕ). (text ≡ node_text y.0 ++ y.1) × NodeHasText y.0 × (above ≤ MOST_BRANCHES_ABOVE) × AllowsNode version y.0) is (
      node_joined text first.0.0 first.0.1 steps.0.1 head.0 steps.0.0 (line_takes line text first.0.0 first.0.1 first.1) said.0 taken.0 back.0 back.1,
      record { numbers = rw back.0 said.1; steps = rw back.1 taken.2 },
      high,
      record { head = rw back.0 said.3; steps = rw back.1 taken.3 },
    )

pub node_steps : (version : Version) (above line : ℕ) (text first after rest : List ℕ) (head : Head) (steps : List Step) → line_at line text ≡ Ok (first, after) → said_in head_words heads_with (allows_head version) line first ≡ Ok head → nat_le above MOST_BRANCHES_ABOVE ≡ true
    → steps_at version (count_of head) (line + 1) after ≡ Ok (steps, rest) → text_node version above line text ≡ Ok (node_of_head head steps, rest)
unfolding text_node
node_steps version above line text first after rest head steps a b c d = rw (a, b, c, d) refl

pub node_again : (version : Version) (above line : ℕ) (node : Node) (rest : List ℕ) → above ≤ MOST_BRANCHES_ABOVE → NodeHasText node → AllowsNode version node → text_node version above line (node_text node ++ rest) ≡ Ok (node, rest)
unfolding node_text
node_again version above line node rest high has may =
    let back = node_back node in
    let sayable = head_sayable (head_of node) in
    let high-test : nat_le above MOST_BRANCHES_ABOVE ≡ true = grind (arith, high) in
    let after = flat_map step_text (steps_of node) ++ rest in
    let first = line_again line (line_with (head_words (head_of node))) (flat_map step_text (steps_of node) ++ rest) (line_lacks head_words heads_with (head_of node) sayable has.numbers) in
    let regroup : node_text node ++ rest ≡ line_with (head_words (head_of node)) ++ 10 ∷ (flat_map step_text (steps_of node) ++ rest) =
    append_assoc (line_with (head_words (head_of node))) (10 ∷ flat_map step_text (steps_of node)) rest in
    let steps : steps_at version (count_of (head_of node)) (line + 1) (flat_map step_text (steps_of node) ++ rest) ≡ Ok (steps_of node, rest) =
    rw back.1 (steps_again version (line + 1) (steps_of node) rest has.steps may.steps) in
    ap (text_node version above line) regroup
    ∙ node_steps version above line (line_with (head_words (head_of node)) ++ 10 ∷ (flat_map step_text (steps_of node) ++ rest)) (line_with (head_words (head_of node))) (flat_map step_text (steps_of node) ++ rest) rest (head_of node) (steps_of node)
    first (said_again head_words heads_with (allows_head version) line (head_of node) sayable has.numbers may.head) high-test steps
    ∙ ap (λ (n : Node). Ok (n, rest)) back.0

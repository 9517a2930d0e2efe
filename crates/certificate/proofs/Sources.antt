-- What a source of lines says of a step and of a node, put together of what it says of their lines.
use Rattle.std.proofs.Common.{◌≡◌, ℕ, ◌+◌, ◌-◌, ◌≤◌, ◌<◌, true, false, List, [], ◌∷◌, ◌++◌, length, Ok, Err, refl, sym, ap, ◌∙◌, arith}
use Rattle.std.specs.Prelude.{nat_le}
use Rattle.ttp_model.specs.declared.step.Step.{Step}
use Rattle.certificate.specs.declared.fault.LineFault.TheVariants.{Depth}
use Rattle.certificate.specs.declared.fault.CertTextError.{CertTextError}
use Rattle.certificate.specs.declared.fault.CertTextError.TheVariants.{At, OutOfMemory}
use Rattle.certificate.specs.declared.fault.SourceFault.{SourceFault}
use Rattle.certificate.specs.declared.fault.SourceFault.TheVariants.{Read, TooLong, Text}
use Rattle.certificate.specs.declared.head.Head.{Head}
use Rattle.certificate.specs.declared.head.Head.TheVariants.{OfBranch, OfLeaf}
use Rattle.certificate.specs.Limits.{most_branches_above}
use Rattle.certificate.specs.Lines.{node_lines}
use Rattle.certificate.specs.Words.{head_words, heads_with, step_words, steps_with, count_of, node_of_head}
use Rattle.certificate.specs.Reading.{Reading, IsFaultOf, line_at, said_in, text_step, steps_at, text_node}
use Rattle.certificate.specs.Sources.{Origin, Says, Fails, HasText, IsFaultOn, OrMemory}
use Rattle.certificate.proofs.StepLoop.{with_steps, goes_on, step_fault, is_done}
use Rattle.certificate.proofs.NodeLaws.{node_steps}
use Rattle.certificate.specs.declared.version.Version.{Version}
use Rattle.certificate.specs.Versions.{allows_step, allows_head}

-- ---- faults

pub or_memory : (Stops : SourceFault → Type 0) (e : SourceFault) → Stops e → OrMemory Stops e
or_memory Stops Read h = h
or_memory Stops TooLong h = h
or_memory Stops (Text OutOfMemory) h = tt
or_memory Stops (Text (At line fault)) h = h

-- a fault of a part is one of the whole
pub of_part : {A B : Type 0} (e : SourceFault) (Stops Others : SourceFault → Type 0) (Here There : List ℕ → Type 0) (at : List ℕ → Reading A) (whole : List ℕ → Reading B)
    → ((x : SourceFault) → Stops x → Others x) → ((fault : CertTextError) → Fails Here at fault → Fails There whole fault)
    → IsFaultOn Stops Here at e → IsFaultOn Others There whole e
of_part Read Stops Others Here There at whole stop fails h = stop Read h
of_part TooLong Stops Others Here There at whole stop fails h = stop TooLong h
of_part (Text OutOfMemory) Stops Others Here There at whole stop fails h = stop (Text OutOfMemory) h
of_part (Text (At line fault)) Stops Others Here There at whole stop fails h = fails (At line fault) h

-- so is one of what a line says, or memory is refused
pub of_line : {A B : Type 0} (e : CertTextError) (Stops : SourceFault → Type 0) (There : List ℕ → Type 0) (said : Reading A) (whole : List ℕ → Reading B)
    → ((fault : CertTextError) → said ≡ Err fault → Fails There whole fault) → IsFaultOf (Unit {0}) e said → IsFaultOn (OrMemory Stops) There whole (Text e)
of_line OutOfMemory Stops There said whole fails h = tt
of_line (At line fault) Stops There said whole fails h = fails (At line fault) h

-- and of a line for which no memory is taken
pub of_bare_line : {A B : Type 0} (e : CertTextError) (Stops : SourceFault → Type 0) (There : List ℕ → Type 0) (said : Reading A) (whole : List ℕ → Reading B)
    → ((fault : CertTextError) → said ≡ Err fault → Fails There whole fault) → IsFaultOf ⊥ e said → IsFaultOn Stops There whole (Text e)
of_bare_line OutOfMemory Stops There said whole fails h = absurd h
of_bare_line (At line fault) Stops There said whole fails h = fails (At line fault) h

-- ---- a step

step_joined : (version : Version) (line : ℕ) (text first rest : List ℕ) (step : Step) → line_at line text ≡ Ok (first, rest) → said_in step_words steps_with (allows_step version) line first ≡ Ok step → text_step version line text ≡ Ok (step, rest)
unfolding text_step
step_joined version line text first rest step a b = rw (a, b) refl

step_without_line : (version : Version) (line : ℕ) (text : List ℕ) (fault : CertTextError) → line_at line text ≡ Err fault → text_step version line text ≡ Err fault
unfolding text_step
step_without_line version line text fault a = rw a refl

step_unsaid : (version : Version) (line : ℕ) (text first rest : List ℕ) (fault : CertTextError) → line_at line text ≡ Ok (first, rest) → said_in step_words steps_with (allows_step version) line first ≡ Err fault → text_step version line text ≡ Err fault
unfolding text_step
step_unsaid version line text first rest fault a b = rw (a, b) refl

pub line_fails_step : (version : Version) (Before : List ℕ → Type 0) (line : ℕ) (fault : CertTextError) → Fails Before (line_at line) fault → Fails Before (text_step version line) fault
line_fails_step version Before line fault f = (f.0, (f.1.0, step_without_line version line f.0 fault f.1.1))

pub word_fails_step : (version : Version) (Before After : List ℕ → Type 0) (line : ℕ) (first : List ℕ) → Says Before After (line_at line) first → HasText After
    → (fault : CertTextError) → said_in step_words steps_with (allows_step version) line first ≡ Err fault → Fails Before (text_step version line) fault
word_fails_step version Before After line first said has fault e =
    let t = said has.0 has.1 in (t.0, (t.1.0, step_unsaid version line t.0 first has.0 fault t.1.1 e))

pub step_says : (version : Version) (Before After : List ℕ → Type 0) (line : ℕ) (first : List ℕ) → Says Before After (line_at line) first
    → (step : Step) → said_in step_words steps_with (allows_step version) line first ≡ Ok step → Says Before After (text_step version line) step
step_says version Before After line first said step e rest left =
    let t = said rest left in (t.0, (t.1.0, step_joined version line t.0 first rest step t.1.1 e))

-- ---- steps

-- Whatever is left behind the steps so far, all steps are these and those that it gives.
abbrev pub SaysSteps : (version : Version) (Before Now : List ℕ → Type 0) (count passed k : ℕ) (front : List Step) → Type 0
SaysSteps version Before Now count passed k front =
    (rest : List ℕ) → Now rest → (text : List ℕ) × (Before text × (with_steps front (steps_at version (count - k) (passed + 1 + k) rest) ≡ steps_at version count (passed + 1) text))

-- how far the loop is
pub record IsSteppedSoFar (version : Version) (Before Now : List ℕ → Type 0) (From FromNow : Origin → Type 0) (count passed passed_now k : ℕ) (front : List Step) : Type 0 where
  pub said : SaysSteps version Before Now count passed k front
  pub all : length front ≡ k
  pub here : passed_now ≡ passed + k
  pub from : (origin : Origin) → From origin → FromNow origin

with_none : (read : Reading (List Step × List ℕ)) → with_steps [] read ≡ read
with_none (Ok x) = refl
with_none (Err fault) = refl

pub steps_begin : (version : Version) (Before : List ℕ → Type 0) (count passed : ℕ) → SaysSteps version Before Before count passed 0 []
steps_begin version Before count passed rest left =
    let all : count - 0 ≡ count = omega arith in
    let here : passed + 1 + 0 ≡ passed + 1 = omega arith in
    (rest, (left, rw (all, here) (with_none (steps_at version count (passed + 1) rest))))

pub steps_go_on : (version : Version) (Before Now After : List ℕ → Type 0) (count passed passed_now k : ℕ) (front : List Step) (step : Step) → k < count → passed_now ≡ passed + k
    → SaysSteps version Before Now count passed k front → Says Now After (text_step version (passed_now + 1)) step → SaysSteps version Before After count passed (k + 1) (front ++ step ∷ [])
steps_go_on version Before Now After count passed passed_now k front step lt here so_far said rest left =
    let t = said rest left in
    let all = so_far t.0 t.1.0 in
    let line_is : passed + 1 + k ≡ passed_now + 1 = omega (arith, here) in
    (all.0, (all.1.0, goes_on version count (passed + 1) all.0 k front t.0 step rest lt (ap (λ (n : ℕ). text_step version n t.0) line_is ∙ t.1.1) all.1.1))

pub step_fails_steps : (version : Version) (Before Now : List ℕ → Type 0) (count passed passed_now k : ℕ) (front : List Step) → k < count → passed_now ≡ passed + k
    → SaysSteps version Before Now count passed k front → (fault : CertTextError) → Fails Now (text_step version (passed_now + 1)) fault → Fails Before (steps_at version count (passed + 1)) fault
step_fails_steps version Before Now count passed passed_now k front lt here so_far fault f =
    let all = so_far f.0 f.1.0 in
    let line_is : passed + 1 + k ≡ passed_now + 1 = omega (arith, here) in
    (all.0, (all.1.0, step_fault version fault count (passed + 1) all.0 k front f.0 lt (ap (λ (n : ℕ). text_step version n f.0) line_is ∙ f.1.1) all.1.1))

pub steps_end : (version : Version) (Before Now : List ℕ → Type 0) (count passed k : ℕ) (front : List Step) → count ≤ k → SaysSteps version Before Now count passed k front → Says Before Now (steps_at version count (passed + 1)) front
steps_end version Before Now count passed k front le so_far rest left =
    let all = so_far rest left in (all.0, (all.1.0, is_done version count (passed + 1) all.0 k front rest le all.1.1))

-- ---- a node

node_without_line : (version : Version) (above line : ℕ) (text : List ℕ) (fault : CertTextError) → line_at line text ≡ Err fault → text_node version above line text ≡ Err fault
unfolding text_node
node_without_line version above line text fault a = rw a refl

node_unsaid : (version : Version) (above line : ℕ) (text first rest : List ℕ) (fault : CertTextError) → line_at line text ≡ Ok (first, rest) → said_in head_words heads_with (allows_head version) line first ≡ Err fault → text_node version above line text ≡ Err fault
unfolding text_node
node_unsaid version above line text first rest fault a b = rw (a, b) refl

node_too_deep : (version : Version) (above line : ℕ) (text first rest : List ℕ) (head : Head) → line_at line text ≡ Ok (first, rest) → said_in head_words heads_with (allows_head version) line first ≡ Ok head → nat_le above most_branches_above ≡ false
    → text_node version above line text ≡ Err (At line Depth)
unfolding text_node
node_too_deep version above line text first rest head a b c = rw (a, b, c) refl

node_without_steps : (version : Version) (above line : ℕ) (text first rest : List ℕ) (head : Head) (fault : CertTextError) → line_at line text ≡ Ok (first, rest) → said_in head_words heads_with (allows_head version) line first ≡ Ok head
    → nat_le above most_branches_above ≡ true → steps_at version (count_of head) (line + 1) rest ≡ Err fault → text_node version above line text ≡ Err fault
unfolding text_node
node_without_steps version above line text first rest head fault a b c d = rw (a, b, c, d) refl

pub is_high : (above : ℕ) → above ≤ most_branches_above → nat_le above most_branches_above ≡ true
is_high above le = grind (arith, le)

is_deep : (above : ℕ) → most_branches_above < above → nat_le above most_branches_above ≡ false
is_deep above lt = grind (arith, lt)

pub line_fails_node : (version : Version) (Before : List ℕ → Type 0) (above line : ℕ) (fault : CertTextError) → Fails Before (line_at line) fault → Fails Before (text_node version above line) fault
line_fails_node version Before above line fault f = (f.0, (f.1.0, node_without_line version above line f.0 fault f.1.1))

pub word_fails_node : (version : Version) (Before After : List ℕ → Type 0) (above line : ℕ) (first : List ℕ) → Says Before After (line_at line) first → HasText After
    → (fault : CertTextError) → said_in head_words heads_with (allows_head version) line first ≡ Err fault → Fails Before (text_node version above line) fault
word_fails_node version Before After above line first said has fault e =
    let t = said has.0 has.1 in (t.0, (t.1.0, node_unsaid version above line t.0 first has.0 fault t.1.1 e))

pub depth_fails_node : (version : Version) (Before After : List ℕ → Type 0) (above line : ℕ) (first : List ℕ) → Says Before After (line_at line) first → HasText After
    → (head : Head) → said_in head_words heads_with (allows_head version) line first ≡ Ok head → most_branches_above < above → Fails Before (text_node version above line) (At line Depth)
depth_fails_node version Before After above line first said has head e lt =
    let t = said has.0 has.1 in (t.0, (t.1.0, node_too_deep version above line t.0 first has.0 head t.1.1 e (is_deep above lt)))

pub steps_fail_node : (version : Version) (Before After : List ℕ → Type 0) (above line next : ℕ) (first : List ℕ) → Says Before After (line_at line) first
    → (head : Head) → said_in head_words heads_with (allows_head version) line first ≡ Ok head → above ≤ most_branches_above → next ≡ line + 1
    → (fault : CertTextError) → Fails After (steps_at version (count_of head) next) fault → Fails Before (text_node version above line) fault
steps_fail_node version Before After above line next first said head e le is fault f =
    let t = said f.0 f.1.0 in
    (t.0, (t.1.0, node_without_steps version above line t.0 first f.0 head fault t.1.1 e (is_high above le) (ap (λ (n : ℕ). steps_at version (count_of head) n f.0) (sym is) ∙ f.1.1)))

pub node_says : (version : Version) (Before After Later : List ℕ → Type 0) (above line next : ℕ) (first : List ℕ) → Says Before After (line_at line) first
    → (head : Head) → said_in head_words heads_with (allows_head version) line first ≡ Ok head → above ≤ most_branches_above → next ≡ line + 1
    → (steps : List Step) → Says After Later (steps_at version (count_of head) next) steps → Says Before Later (text_node version above line) (node_of_head head steps)
node_says version Before After Later above line next first said head e le is steps behind rest left =
    let u = behind rest left in
    let t = said u.0 u.1.0 in
    (t.0, (t.1.0, node_steps version above line t.0 first u.0 rest head steps t.1.1 e (is_high above le) (ap (λ (n : ℕ). steps_at version (count_of head) n u.0) (sym is) ∙ u.1.1)))

pub lines_of_node : (head : Head) (steps : List Step) → length steps ≡ count_of head → node_lines (node_of_head head steps) ≡ 1 + count_of head
lines_of_node (OfBranch branch) steps e = refl
lines_of_node (OfLeaf goal count) steps e = ap (λ (n : ℕ). 1 + n) e

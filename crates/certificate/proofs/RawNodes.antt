-- A node whose steps aren't read yet, put together of what its lines say.
use Rattle.std.proofs.Common.{◌≡◌, ℕ, ◌+◌, ◌-◌, ◌≤◌, ◌<◌, List, [], ◌∷◌, ◌++◌, length, reverse, Option, true, false, Ok, Err, refl, sym, ap, subst, ◌∙◌, arith}
use Rattle.std.specs.Prelude.{nat_le}
use Rattle.line_text.specs.Results.{◌>>=◌}
use Rattle.ttp_model.specs.declared.step.Step.{Step}
use Rattle.certificate.specs.declared.block.Block.{Block}
use Rattle.certificate.specs.declared.fault.CertTextError.{CertTextError}
use Rattle.certificate.specs.declared.fault.CertTextError.TheVariants.{At, OutOfMemory}
use Rattle.certificate.specs.declared.fault.SourceFault.{SourceFault}
use Rattle.certificate.specs.declared.fault.SourceFault.TheVariants.{Text}
use Rattle.certificate.specs.declared.head.Head.{Head}
use Rattle.certificate.specs.declared.node.Node.{Node}
use Rattle.certificate.specs.Limits.{most_branches_above}
use Rattle.certificate.specs.declared.head.Head.TheVariants.{OfBranch, OfLeaf}
use Rattle.certificate.specs.Lines.{node_lines}
use Rattle.certificate.specs.Trees.{children}
use Rattle.certificate.specs.Words.{head_words, heads_with, count_of, head_children, node_of_head}
use Rattle.certificate.specs.Blocks.{held, MayLeave}
use Rattle.certificate.specs.Reading.{Reading, IsFaultOf, line_at, said_in, steps_at, text_node}
use Rattle.certificate.specs.RawLines.{PassesLines, SaysPiece, steps_in, node_said}
use Rattle.certificate.specs.Sources.{Says, IsFaultOn, OrMemory}
use Rattle.certificate.proofs.Blocks.{left_before, left_whole}
use Rattle.certificate.proofs.RawLines.{steps_front, too_few}
use Rattle.certificate.specs.Opened.{Gives, TakesChild, still_due}
use Rattle.certificate.specs.Streams.{said_in_front}
use Rattle.certificate.proofs.NodeLaws.{steps_take}
use Rattle.certificate.proofs.Opened.{takes_child, node_next, node_fails}
use Rattle.certificate.proofs.Sources.{is_high, steps_fail_node, lines_of_node}
use Rattle.certificate.specs.declared.version.Version.{Version}
use Rattle.certificate.specs.Versions.{allows_head}

-- ---- steps in a text of their own

pub read_said : (version : Version) (text first rest : List ℕ) (count line passed : ℕ) (steps : List Step) → first ≡ text → passed ≡ line → Says (λ t. t ≡ first) (λ t. t ≡ rest) (steps_at version count (passed + 1)) steps
    → steps_in version count (line + 1) text ≡ Ok steps
read_said version text first rest count line passed steps is same said =
    let t = said rest refl in
    let e : steps_at version count (line + 1) text ≡ Ok (steps, rest) = ap (λ (n : ℕ). steps_at version count (n + 1) text) (sym same) ∙ ap (steps_at version count (passed + 1)) (sym (t.1.0 ∙ is)) ∙ t.1.1 in
    rw e refl

pub read_fault : (version : Version) (text first : List ℕ) (count line passed : ℕ) (e : CertTextError) → first ≡ text → passed ≡ line → IsFaultOn (OrMemory (λ x. ⊥)) (λ t. t ≡ first) (steps_at version count (passed + 1)) (Text e)
    → IsFaultOf (Unit {0}) e (steps_in version count (line + 1) text)
read_fault version text first count line passed OutOfMemory is same h = tt
read_fault version text first count line passed (At at fault) is same h =
    let e : steps_at version count (line + 1) text ≡ Err (At at fault) = ap (λ (n : ℕ). steps_at version count (n + 1) text) (sym same) ∙ ap (steps_at version count (passed + 1)) (sym (h.1.0 ∙ is)) ∙ h.1.1 in
    rw e refl

no_steps : (read : Reading (List Step × List ℕ)) (fault : CertTextError) → (read >>= λ x. Ok x.0) ≡ Err fault → read ≡ Err fault
no_steps (Ok x) fault e = absurd cc
no_steps (Err other) fault e = cc

some_steps : (read : Reading (List Step × List ℕ)) (steps : List Step) → (read >>= λ x. Ok x.0) ≡ Ok steps → (x : List Step × List ℕ) × ((read ≡ Ok x) × (x.0 ≡ steps))
some_steps (Ok x) steps e = (x, (refl, cc))
some_steps (Err other) steps e = absurd cc

-- ---- a node

-- a text of so many lines, and what is left behind it, was left before
lines_left : (known next : Option (List ℕ)) (old new : Block) (text : List ℕ) (count : ℕ) → PassesLines known next old new text count true → (rest : List ℕ) → MayLeave next (held new) rest → MayLeave known (held old) (text ++ rest)
lines_left known next old new text count p rest left = left_before known next (held old) (held new) p.0 text rest p.1.0 p.1.1.0 left

node_read : (version : Version) (above line : ℕ) (text first after : List ℕ) (head : Head) → line_at line text ≡ Ok (first, after) → said_in head_words heads_with (allows_head version) line first ≡ Ok head → nat_le above most_branches_above ≡ true
    → text_node version above line text ≡ (steps_at version (count_of head) (line + 1) after >>= λ steps. Ok (node_of_head head steps.0, steps.1))
unfolding text_node
node_read version above line text first after head a b c = rw (a, b, c) refl

abbrev with_text : List ℕ → Reading (List Step) → Reading (List Step × List ℕ)
with_text rest steps = steps >>= λ xs. Ok (xs, rest)

abbrev node_with : Head → Reading (List Step × List ℕ) → Reading (Node × List ℕ)
node_with head read = read >>= λ x. Ok (node_of_head head x.0, x.1)

abbrev node_then : Head → List ℕ → Reading (List Step) → Reading (Node × List ℕ)
node_then head rest steps = (steps >>= λ xs. Ok (node_of_head head xs)) >>= λ node. Ok (node, rest)

with_node : (head : Head) (rest : List ℕ) (steps : Reading (List Step)) → node_with head (with_text rest steps) ≡ node_then head rest steps
with_node head rest (Ok xs) = refl
with_node head rest (Err fault) = refl

pub piece_says : (version : Version) (Before : List ℕ → Type 0) (known next : Option (List ℕ)) (old new : Block) (above line : ℕ) (first text : List ℕ) (head : Head) → Says Before (MayLeave known (held old)) (line_at line) first
    → said_in head_words heads_with (allows_head version) line first ≡ Ok head → above ≤ most_branches_above → PassesLines known next old new text (count_of head) true → SaysPiece version Before (MayLeave next (held new)) above line head text
piece_says version Before known next old new above line first text head said e le p rest left =
    let t = said (text ++ rest) (lines_left known next old new text (count_of head) p rest left) in (
      t.0,
      (
        t.1.0,
        node_read version above line t.0 first (text ++ rest) head t.1.1 e (is_high above le)
            ∙ ap (node_with head) (steps_front version (count_of head) (line + 1) text rest p.1.1.1)
            ∙ with_node head rest (steps_in version (count_of head) (line + 1) text),
      ),
    )

-- the text ends before so many lines do
pub piece_ends_early : (version : Version) (Before : List ℕ → Type 0) (known next : Option (List ℕ)) (old new : Block) (above line : ℕ) (first text : List ℕ) (head : Head) → Says Before (MayLeave known (held old)) (line_at line) first
    → said_in head_words heads_with (allows_head version) line first ≡ Ok head → above ≤ most_branches_above → PassesLines known next old new text (count_of head) false
    → (Stops : SourceFault → Type 0) (e : CertTextError) → IsFaultOf (Unit {0}) e (steps_in version (count_of head) (line + 1) text) → IsFaultOn (OrMemory Stops) Before (text_node version above line) (Text e)
piece_ends_early version Before known next old new above line first text head said e le p Stops OutOfMemory h = tt
piece_ends_early version Before known next old new above line first text head said e le p Stops (At at fault) h =
    steps_fail_node version Before (MayLeave known (held old)) above line (line + 1) first said head e le refl (At at fault)
    (text, (left_whole known next (held old) p.0 text p.2.0 p.2.1.0 p.2.1.1.1.1, no_steps (steps_at version (count_of head) (line + 1) text) (At at fault) h))

pub must_fail : (version : Version) (known next : Option (List ℕ)) (old new : Block) (line count : ℕ) (text : List ℕ) (steps : List Step) → PassesLines known next old new text count false → steps_in version count line text ≡ Ok steps → ⊥
must_fail version known next old new line count text steps p e =
    let x = some_steps (steps_at version count line text) steps e in
    too_few version p.1 count line text x.0 p.2.1.1.0 p.2.1.1.1.0 x.1.0

-- so many steps were read
pub steps_count : (version : Version) (count line : ℕ) (text : List ℕ) (steps : List Step) → steps_in version count line text ≡ Ok steps → length steps ≡ count
steps_count version count line text steps e =
    let x = some_steps (steps_at version count line text) steps e in
    ap length (sym x.1.1) ∙ (steps_take version count line text x.0 x.1.0).1

-- ---- the next node

children_said : (head : Head) (steps : List Step) → children (node_of_head head steps) ≡ head_children head
children_said (OfBranch branch) steps = refl
children_said (OfLeaf goal count) steps = refl

opened_by : (mid new : List ℕ) (count : ℕ) (head : Head) (steps : List Step) → new ≡ (mid ++ (count - 1) ∷ []) ++ head_children head ∷ [] → new ≡ (mid ++ (count - 1) ∷ []) ++ children (node_of_head head steps) ∷ []
opened_by mid new count head steps is = is ∙ ap (λ (k : ℕ). (mid ++ (count - 1) ∷ []) ++ k ∷ []) (sym (children_said head steps))

pub takes_piece : (due mid new : List ℕ) (count : ℕ) (head : Head) → 0 < count → still_due (reverse due) ≡ count ∷ reverse mid → new ≡ (mid ++ (count - 1) ∷ []) ++ head_children head ∷ []
    → (steps : List Step) → TakesChild due new (node_of_head head steps)
takes_piece due mid new count head some was is steps =
    takes_child (λ text. Unit {0}) (λ text. Unit {0}) due mid new count 0 (node_of_head head steps) some was (opened_by mid new count head steps is)

module _ (version : Version) (Before After : List ℕ → Type 0) (due mid new : List ℕ) (count line line_new : ℕ) (head : Head) (text : List ℕ) (some : 0 < count) (was : still_due (reverse due) ≡ count ∷ reverse mid)
    (is : new ≡ (mid ++ (count - 1) ∷ []) ++ head_children head ∷ []) (moved : line_new ≡ line + 1 + count_of head) (says : SaysPiece version Before After (length mid) line head text) where
  next_by : (steps : Reading (List Step)) → steps_in version (count_of head) (line + 1) text ≡ steps → (read : Reading (List Node)) → Gives version After new line_new read
      → Gives version Before due line (said_in_front (steps >>= λ xs. Ok (node_of_head head xs)) read)
  next_by (Ok xs) e read g =
      let said : Says Before After (text_node version (length mid) line) (node_of_head head xs) = λ rest left. let t = says rest left in (t.0, (t.1.0, t.1.1 ∙ ap (node_then head rest) e)) in
      let lines = lines_of_node head xs (steps_count version (count_of head) (line + 1) text xs e) in
      let here : line_new ≡ line + node_lines (node_of_head head xs) = omega (arith, moved, lines) in
      node_next Before After due mid new count line (node_of_head head xs) some was (opened_by mid new count head xs is) version said read (subst (λ (n : ℕ). Gives version After new n read) here g)
  next_by (Err fault) e read g =
      let t = says g.0 g.1.0 in
      node_fails version Before due mid count line some was fault (t.0, (t.1.0, t.1.1 ∙ ap (node_then head g.0) e))

  pub piece_next : (read : Reading (List Node)) → Gives version After new line_new read → Gives version Before due line (said_in_front (node_said version head line text) read)
  piece_next read g = next_by (steps_in version (count_of head) (line + 1) text) refl read g

-- Reading a certificate line by line: what it states, or the first fault and its line. The steps
-- stand in the order in which faults are judged. Own profile.
use Rattle.std.specs.Prelude.{◌≡◌, ℕ, zero, suc, ◌+◌, List, [], ◌∷◌, length, map, Option, Result, Ok, Err, IsOk, Bool, true, false, ◌==◌, nat_le, bytes_eq, find}
use Rattle.std.specs.List.{list_all, slice_split}
use Rattle.line_text.specs.Parts.{cut}
use Rattle.line_text.specs.Numbers.{number_word}
use Rattle.line_text.specs.declared.number.NumberWord.{NumberWord}
use Rattle.line_text.specs.declared.number.NumberWord.TheVariants as word
use Rattle.line_text.specs.Results.{◌>>=◌, or_fault, check}
use Rattle.ttp_model.specs.declared.step.Step.{Step}
use Rattle.certificate.specs.declared.fault.LineFault.TheVariants.{FirstLine, Form, Number, Depth, EarlyEnd, Trailing}
use Rattle.certificate.specs.declared.fault.CertTextError.{CertTextError}
use Rattle.certificate.specs.declared.fault.CertTextError.TheVariants.{At, OutOfMemory}
use Rattle.certificate.specs.Limits.{most_branches_above}
use Rattle.certificate.specs.declared.node.Node.{Node}
use Rattle.certificate.specs.Cert.{Cert}
use Rattle.certificate.specs.Lines.{node_lines, lines}
use Rattle.certificate.specs.Trees.{Trees, none, grow, children}
use Rattle.certificate.specs.declared.version.Version.{Version}
use Rattle.certificate.specs.Versions.{version_of, allows_low, allows_head, allows_step}
pub use Rattle.tt_infer.specs.Lines.{with_keyword}
use Rattle.certificate.specs.Words.{Words, low_words, lows_with, head_words, heads_with, step_words, steps_with, count_of, node_of_head}

-- what reading gives: a value, or the first fault
abbrev pub Reading : Type 0 → Type 0
Reading A = Result A CertTextError

-- the line in front, and the text behind its end
abbrev pub line_at : ℕ → List ℕ → Reading (List ℕ × List ℕ)
line_at line text = or_fault (At line EarlyEnd) (cut 10 text)

-- nothing stands at this line: the text ends
abbrev pub end_at : ℕ → List ℕ → Reading (Unit {0})
end_at line text = check (At line Trailing) (length text == 0)

-- ---- a line of a keyword and numbers

-- what the words of a text are as numbers: a word is what stands between spaces
abbrev pub numbers_of : List ℕ → List NumberWord
numbers_of text = map number_word (slice_split (λ b. b == 32) text)

abbrev pub is_number_word : NumberWord → Bool
is_number_word word.Malformed = false
is_number_word _ = true

abbrev pub fits : NumberWord → Bool
fits (word.Number n) = true
fits _ = false

-- the number, or 0 where it does not fit
abbrev pub value_of : NumberWord → ℕ
value_of (word.Number n) = n
value_of _ = 0

-- What a line says, of all that can be said with its numbers and is allowed. Its form, which is the
-- keyword, the count of its numbers and the form of each, is judged before their size.
unfoldable pub said_in : {A : Type 0} → (A → Words) → (List ℕ → List A) → (allows : A → Bool) → ℕ → List ℕ → Reading A
said_in words all_with allows line text = do
  parts ← or_fault (At line Form) (cut 32 text)
  form ← check (At line Form) (list_all is_number_word (numbers_of parts.1))
  said ← or_fault (At line Form) (with_keyword words parts.0 (all_with (map value_of (numbers_of parts.1))))
  allowed ← check (At line Form) (allows said)
  size ← check (At line Number) (list_all fits (numbers_of parts.1))
  Ok said

-- ---- the first two lines

-- the version and the bound, in ticks, and the text behind their lines
unfoldable pub low_at : List ℕ → Reading ((Version × ℕ) × List ℕ)
low_at text = do
  first ← line_at 1 text
  version ← or_fault (At 1 FirstLine) (version_of first.0)
  second ← line_at 2 first.1
  low ← said_in low_words lows_with allows_low 2 second.0
  Ok ((version, low), second.1)

-- the first two lines are right, so that memory may be taken
abbrev pub HasLow : List ℕ → Type 0
HasLow text = IsOk (low_at text)

-- ---- a node

-- a step, and the text behind its line
unfoldable pub text_step : Version → ℕ → List ℕ → Reading (Step × List ℕ)
text_step version line text = do
  first ← line_at line text
  step ← said_in step_words steps_with (allows_step version) line first.0
  Ok (step, first.1)

-- so many steps, and the text behind their lines
unfoldable pub steps_at : Version → ℕ → ℕ → List ℕ → Reading (List Step × List ℕ)
steps_at version zero line text = Ok ([], text)
steps_at version (suc k) line text = do
  first ← text_step version line text
  others ← steps_at version k (line + 1) first.1
  Ok (first.0 ∷ others.0, others.1)

-- a node below so many branches, and the text behind its lines
unfoldable pub text_node : Version → ℕ → ℕ → List ℕ → Reading (Node × List ℕ)
text_node version above line text = do
  first ← line_at line text
  head ← said_in head_words heads_with (allows_head version) line first.0
  place ← check (At line Depth) (nat_le above most_branches_above)
  steps ← steps_at version (count_of head) (line + 1) first.1
  Ok (node_of_head head steps.0, steps.1)

-- ---- trees

-- What reading so many trees gives, below so many branches, from this line on: the trees and the text
-- behind them, or a fault of the first node, of the trees below it, or of those beside it.
pub data ReadsTrees (version : Version) : ℕ → ℕ → ℕ → List ℕ → Reading (Trees × List ℕ) → Type 0 where
  ends : (above line : ℕ) (text : List ℕ) → ReadsTrees version above zero line text (Ok (none, text))
  wrong_node : (above k line : ℕ) (text : List ℕ) (fault : CertTextError)
      → text_node version above line text ≡ Err fault
      → ReadsTrees version above (suc k) line text (Err fault)
  wrong_below : (above k line : ℕ) (text : List ℕ)
      (node : Node) (after : List ℕ) (fault : CertTextError)
      → text_node version above line text ≡ Ok (node, after)
      → ReadsTrees version (suc above) (children node) (line + node_lines node) after (Err fault)
      → ReadsTrees version above (suc k) line text (Err fault)
  wrong_beside : (above k line : ℕ) (text : List ℕ)
      (node : Node) (after : List ℕ) (below : Trees) (rest : List ℕ) (fault : CertTextError)
      → text_node version above line text ≡ Ok (node, after)
      → ReadsTrees version (suc above) (children node) (line + node_lines node) after (Ok (below, rest))
      → ReadsTrees version above k (line + node_lines node + lines below) rest (Err fault)
      → ReadsTrees version above (suc k) line text (Err fault)
  goes_on : (above k line : ℕ) (text : List ℕ)
      (node : Node) (after : List ℕ) (below : Trees) (rest : List ℕ) (beside : Trees) (end : List ℕ)
      → text_node version above line text ≡ Ok (node, after)
      → ReadsTrees version (suc above) (children node) (line + node_lines node) after (Ok (below, rest))
      → ReadsTrees version above k (line + node_lines node + lines below) rest (Ok (beside, end))
      → ReadsTrees version above (suc k) line text (Ok (grow node below beside, end))

-- ---- the whole text

-- the certificate of a version, a bound and what reading its tree gives: nothing stands behind the tree
abbrev pub certificate_of : Version → ℕ → Reading (Trees × List ℕ) → Reading Cert
certificate_of version low trees = do
  tree ← trees
  end ← check (At (3 + lines tree.0) Trailing) (length tree.1 == 0)
  Ok (record { version = version; low = low; tree = tree.0 })

-- what reading gives behind the first two lines: one tree, below no branch, from line 3 on
abbrev pub ReadsOn : Reading ((Version × ℕ) × List ℕ) → Reading Cert → Type 0
ReadsOn (Err fault) reading = reading ≡ Err fault
ReadsOn (Ok first) reading =
    (trees : Reading (Trees × List ℕ)) × (ReadsTrees first.0.0 0 1 3 first.1 trees × (reading ≡ certificate_of first.0.0 first.0.1 trees))

-- what reading the whole text gives
abbrev pub Reads : List ℕ → Reading Cert → Type 0
Reads text reading = ReadsOn (low_at text) reading

-- ---- what an answer says

-- An error that was answered is the fault that reading gives. Want of memory stands for any answer, once memory
-- may be taken.
abbrev pub IsFaultOf : {A : Type 0} → (MayTakeMemory : Type 0) → CertTextError → Reading A → Type 0
IsFaultOf MayTakeMemory OutOfMemory reading = MayTakeMemory
IsFaultOf MayTakeMemory (At line fault) reading = reading ≡ Err (At line fault)

-- What was answered, seen as a value of the definitions, is what reading gives.
abbrev pub IsAnswer : {X A : Type 0} → (MayTakeMemory : Type 0) → (X → A) → Reading X → Reading A → Type 0
IsAnswer MayTakeMemory view (Ok x) reading = reading ≡ Ok (view x)
IsAnswer MayTakeMemory view (Err e) reading = IsFaultOf MayTakeMemory e reading

-- the same where reading is a relation
abbrev pub IsFaultIn : {A : Type 0} → (MayTakeMemory : Type 0) → CertTextError → (Reading A → Type 0) → Type 0
IsFaultIn MayTakeMemory OutOfMemory Gives = MayTakeMemory
IsFaultIn MayTakeMemory (At line fault) Gives = Gives (Err (At line fault))

abbrev pub IsAnswerIn : {X A : Type 0} → (MayTakeMemory : Type 0) → (X → A) → Reading X → (Reading A → Type 0) → Type 0
IsAnswerIn MayTakeMemory view (Ok x) Gives = Gives (Ok (view x))
IsAnswerIn MayTakeMemory view (Err e) Gives = IsFaultIn MayTakeMemory e Gives

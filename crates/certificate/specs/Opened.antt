-- What reading a tree gives from one of its nodes on, where branches are open. Own profile.
use Rattle.std.specs.Prelude.{◌≡◌, ℕ, zero, suc, ◌+◌, List, [], ◌∷◌, ◌++◌, length, reverse, Option, None, Some, Ok, Err}
use Rattle.line_text.specs.Results.{◌>>=◌}
use Rattle.certificate.specs.declared.fault.CertTextError.TheVariants.{At, OutOfMemory}
use Rattle.certificate.specs.declared.fault.SourceFault.{SourceFault}
use Rattle.certificate.specs.declared.fault.SourceFault.TheVariants.{Read, TooLong, Text}
use Rattle.certificate.specs.declared.node.Node.{Node}
use Rattle.certificate.specs.declared.version.Version.{Version}
use Rattle.certificate.specs.Lines.{lines, total_lines}
use Rattle.certificate.specs.Trees.{Trees, children, preorder, trees_of}
use Rattle.certificate.specs.Cert.{Cert}
use Rattle.certificate.specs.Reading.{Reading, end_at, ReadsTrees, HasLow, Reads}

-- ---- the nodes of trees, and the text behind them

-- the nodes after these ones are read
abbrev pub with_front : List Node → Reading (List Node × List ℕ) → Reading (List Node × List ℕ)
with_front front read = read >>= λ x. Ok (front ++ x.0, x.1)

-- what reading trees gives in front of what reading others gives
abbrev pub Then : (ℕ → List ℕ → Reading (List Node × List ℕ) → Type 0) → ℕ → Reading (Trees × List ℕ) → Reading (List Node × List ℕ) → Type 0
Then Others line (Err fault) read = read ≡ Err fault
Then Others line (Ok first) read =
    (others : Reading (List Node × List ℕ)) × (Others (line + lines first.0) first.1 others × (read ≡ with_front (preorder first.0) others))

-- what reading gives where branches are open, the innermost first, each with its children still to come
abbrev pub ReadsLevels : Version → List ℕ → ℕ → List ℕ → Reading (List Node × List ℕ) → Type 0
ReadsLevels version [] line text read = read ≡ Ok ([], text)
ReadsLevels version (k ∷ above) line text read =
    (trees : Reading (Trees × List ℕ)) × (ReadsTrees version (length above) k line text trees × Then (ReadsLevels version above) line trees read)

-- ---- the nodes that are left of a whole text

-- nodes from a line on, behind which the text ends
abbrev pub ended : ℕ → Reading (List Node × List ℕ) → Reading (List Node)
ended line read = do
  nodes ← read
  end ← end_at (line + total_lines nodes.0) nodes.1
  Ok nodes.0

-- what reading the rest of a text gives where branches are open, the innermost first: the nodes that are left, or the
-- first fault
abbrev pub ReadsRest : Version → List ℕ → ℕ → List ℕ → Reading (List Node) → Type 0
ReadsRest version due line text read =
    (nodes : Reading (List Node × List ℕ)) × (ReadsLevels version due line text nodes × (read ≡ ended line nodes))

-- a node in front of those that are left
abbrev pub in_front : Node → Reading (List Node) → Reading (List Node)
in_front node read = read >>= λ nodes. Ok (node ∷ nodes)

-- the certificate of a version, a bound and its nodes
abbrev pub certificate_with : Version → ℕ → Reading (List Node) → Reading Cert
certificate_with version low read = read >>= λ nodes. Ok (record { version = version; low = low; tree = trees_of nodes })

-- ---- one node after another

-- the open branches from the innermost on that has a child to come
abbrev pub still_due : List ℕ → List ℕ
still_due [] = []
still_due (zero ∷ above) = still_due above
still_due (suc k ∷ above) = suc k ∷ above

-- A text of this version that may be left reads so, where branches are open, the innermost last.
abbrev pub Gives : Version → (Left : List ℕ → Type 0) → List ℕ → ℕ → Reading (List Node) → Type 0
Gives version Left due line read = (text : List ℕ) × (Left text × ReadsRest version (reverse due) line text read)

-- a child is taken of the innermost branch that has one to come, and the node is open
pub record TakesChild (due_old due_new : List ℕ) (node : Node) : Type 0 where
  pub count : ℕ
  pub above : List ℕ
  pub was : still_due (reverse due_old) ≡ suc count ∷ above
  pub is : reverse due_new ≡ children node ∷ count ∷ above

-- The next node stands in front of all that is read from then on; behind the last one nothing is left.
abbrev pub IsNext : Version → (Before After : List ℕ → Type 0) (due_old due_new : List ℕ) (line_old line_new : ℕ) → Option Node → Type 0
IsNext version Before After due_old due_new line_old line_new None = Gives version Before due_old line_old (Ok [])
IsNext version Before After due_old due_new line_old line_new (Some node) =
    (read : Reading (List Node)) → Gives version After due_new line_new read → Gives version Before due_old line_old (in_front node read)

-- what is wrong with the text is so by what reading its rest gives, and else the source stops
abbrev pub IsRestFault : Version → (Stops : SourceFault → Type 0) (Before : List ℕ → Type 0) (due : List ℕ) (line : ℕ) → SourceFault → Type 0
IsRestFault version Stops Before due line Read = Stops Read
IsRestFault version Stops Before due line TooLong = Stops TooLong
IsRestFault version Stops Before due line (Text OutOfMemory) = Stops (Text OutOfMemory)
IsRestFault version Stops Before due line (Text (At at fault)) = Gives version Before due line (Err (At at fault))

-- what is wrong with a text that is all there: memory is taken once its first two lines are right
abbrev pub IsTextFault : List ℕ → SourceFault → Type 0
IsTextFault text Read = ⊥
IsTextFault text TooLong = ⊥
IsTextFault text (Text OutOfMemory) = HasLow text
IsTextFault text (Text (At line fault)) = Reads text (Err (At line fault))

-- Lines of a text that weren't read yet, and what a leaf is whose steps stand in such lines. Own profile.
use Rattle.std.specs.Prelude.{◌≡◌, ℕ, ◌+◌, ◌<◌, List, ◌++◌, Option, Bool, true, false, Ok}
use Rattle.std.specs.Io.KnownBytes.{Consumes, IsAtEnd}
use Rattle.line_text.specs.Results.{◌>>=◌}
use Rattle.ttp_model.specs.declared.step.Step.{Step}
use Rattle.certificate.specs.declared.block.Block.{Block}
use Rattle.certificate.specs.declared.head.Head.{Head}
use Rattle.certificate.specs.declared.node.Node.{Node}
use Rattle.certificate.specs.declared.version.Version.{Version}
use Rattle.certificate.specs.Words.{count_of, node_of_head}
use Rattle.certificate.specs.Blocks.{held}
use Rattle.certificate.specs.Reading.{Reading, steps_at, text_node}
use Rattle.certificate.specs.ManyLines.{AreLines, BeginLines}

-- what is held of so many lines was passed, and stands behind a text: all of them, or some and all that was held
pub record PassesSome (old new : Block) (before after : List ℕ) (count ends : ℕ) : Type 0 where
  pub part : List ℕ
  pub joined : held old ≡ part ++ held new
  pub added : after ≡ before ++ part
  pub whole : ends ≡ count → AreLines count part
  pub begun : ends < count → BeginLines ends part × (new.at ≡ new.end)

-- Bytes were taken of the reader, and what was held with them is a text of so many lines, and what is held now; or all of it
-- is a text of fewer lines, and the reader has no more.
abbrev pub PassesLines : (known next : Option (List ℕ)) (old new : Block) (text : List ℕ) (count : ℕ) → Bool → Type 0
PassesLines known next old new text count true =
    (bytes : List ℕ) × (Consumes known next bytes × ((held old ++ bytes ≡ text ++ held new) × AreLines count text))
PassesLines known next old new text count false =
    (bytes : List ℕ) × (k : ℕ) × (Consumes known next bytes × ((held old ++ bytes ≡ text) × ((k < count) × (BeginLines k text × IsAtEnd next))))

-- the steps that stand in a text of their own
abbrev pub steps_in : Version → ℕ → ℕ → List ℕ → Reading (List Step)
steps_in version count line text = steps_at version count line text >>= λ x. Ok x.0

-- the node of a line, whose steps stand behind it in lines of their own
abbrev pub node_said : Version → Head → ℕ → List ℕ → Reading Node
node_said version head line text = steps_in version (count_of head) (line + 1) text >>= λ steps. Ok (node_of_head head steps)

-- Whatever text is left behind a node, a text was left before that reads as that node and then as that text.
abbrev pub SaysPiece : Version → (Before After : List ℕ → Type 0) (above line : ℕ) → Head → List ℕ → Type 0
SaysPiece version Before After above line head steps =
    (rest : List ℕ) → After rest → (text : List ℕ) × (Before text × (text_node version above line text ≡ (node_said version head line steps >>= λ node. Ok (node, rest))))

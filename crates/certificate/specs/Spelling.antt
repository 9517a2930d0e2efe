-- Which values have a certificate text, and the one spelling of each. Own profile.
use Rattle.std.specs.Prelude.{◌≡◌, ℕ, ◌<◌, ◌^◌, List, ◌∷◌, ◌++◌, [], All, decimal}
use Rattle.std.specs.List.{flat_map}
use Rattle.ttp_model.specs.declared.step.Step.{Step}
use Rattle.certificate.specs.declared.node.Node.{Node}
use Rattle.certificate.specs.Trees.{IsTree, preorder}
use Rattle.certificate.specs.Cert.{Cert}
use Rattle.certificate.specs.Versions.{version_line, Allows}
use Rattle.certificate.specs.Words.{Words, low_words, head_words, head_of, step_words, IsLong, steps_of}

-- a number with the space before it
unfoldable pub spaced : ℕ → List ℕ
spaced n = 32 ∷ decimal n

-- a keyword and numbers, each after a space
abbrev pub line_with : Words → List ℕ
line_with words = words.0 ++ flat_map spaced words.1

-- a step's line with its end
unfoldable pub step_text : Step → List ℕ
step_text step = line_with (step_words step) ++ 10 ∷ []

-- a node's line, and the lines of its steps
unfoldable pub node_text : Node → List ℕ
node_text node = line_with (head_words (head_of node)) ++ 10 ∷ flat_map step_text (steps_of node)

-- The text of a certificate: the version, the bound, and the nodes, each in front of those below it.
-- A line ends with one LF.
abbrev pub cert_text : Cert → List ℕ
cert_text c =
    version_line c.version ++ 10 ∷ (line_with (low_words c.low) ++ 10 ∷ flat_map node_text (preorder c.tree))

-- each number is one that can be written
abbrev pub Fit : List ℕ → Type 0
Fit numbers = All (λ n. n < 2 ^ 32) numbers

pub record StepHasText (step : Step) : Type 0 where
  pub numbers : Fit (step_words step).1
  pub long : IsLong step

pub record NodeHasText (node : Node) : Type 0 where
  pub numbers : Fit (head_words (head_of node)).1
  pub steps : All StepHasText (steps_of node)

-- What has a text: a tree of the allowed depth, numbers below 2 ^ 32, and lines that its version allows.
pub record CertHasText (c : Cert) : Type 0 where
  pub low : c.low < 2 ^ 32
  pub tree : IsTree c.tree
  pub nodes : All NodeHasText (preorder c.tree)
  pub allowed : Allows c.version c.tree

-- the text spells this certificate
pub record SpellsCert (text : List ℕ) (c : Cert) : Type 0 where
  pub value : CertHasText c
  pub spelled : text ≡ cert_text c

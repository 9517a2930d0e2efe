-- What stands in a line of a text: a keyword and numbers, each after a space. Own profile.
use Rattle.std.specs.Prelude.{ℕ, List, [], ◌∷◌, Option, Bool, true, false, bytes_eq, find}
use Rattle.tt_infer.specs.declared.line.FewNumbers.{FewNumbers}
use Rattle.tt_infer.specs.declared.line.FewNumbers.TheVariants as few
use Rattle.tt_infer.specs.declared.line.LineNumbers.{LineNumbers}
use Rattle.tt_infer.specs.declared.line.LineNumbers.TheVariants as line
use Rattle.tt_infer.specs.declared.line.Line.{Line}

-- a keyword, and the numbers behind it
abbrev pub Words : Type 0
Words = List ℕ × List ℕ

-- A row of a table: what a line says, and whether it speaks of channels. The first version of a text has no
-- line that does.
pub record Row : Type 0 where
  pub words : Words
  pub speaks_of_channels : Bool

abbrev pub plain_line : List ℕ → List ℕ → Row
plain_line keyword numbers = record { words = (keyword, numbers); speaks_of_channels = false }

abbrev pub channel_line : List ℕ → List ℕ → Row
channel_line keyword numbers = record { words = (keyword, numbers); speaks_of_channels = true }

-- what has this keyword, of all that can be said
abbrev pub with_keyword : {A : Type 0} → (A → Words) → List ℕ → List A → Option A
with_keyword words keyword all = find (λ x. bytes_eq keyword (words x).0) all

-- few numbers
abbrev pub numbers_in : FewNumbers → List ℕ
numbers_in (few.One a) = a ∷ []
numbers_in (few.Two a b) = a ∷ b ∷ []
numbers_in (few.Three a b c) = a ∷ b ∷ c ∷ []
numbers_in (few.Four a b c d) = a ∷ b ∷ c ∷ d ∷ []

-- the numbers behind a keyword
abbrev pub numbers_said : LineNumbers → List ℕ
numbers_said (line.Few numbers) = numbers_in numbers
numbers_said (line.Ring processes) = processes.now

-- a line as a row of the tables
abbrev pub row_of : Line → Row
row_of written =
    record { words = (written.keyword.now, numbers_said written.numbers); speaks_of_channels = written.speaks_of_channels }

-- What of sentences reaches a terminal: bytes that it prints, and ends of lines. Own profile.
use Rattle.std.specs.Prelude.{◌≡◌, ◌⊎◌, ℕ, List, ◌++◌, All, IsTrue}
use Rattle.line_text.specs.Told.{is_printable}

-- a byte from 0x20 to 0x7e, or the end of a line
abbrev pub IsShownByte : ℕ → Type 0
IsShownByte b = (b ≡ 10) ⊎ IsTrue (is_printable b)

abbrev pub IsShown : List ℕ → Type 0
IsShown words = All IsShownByte words

-- one text is the other with such words behind it
pub record Gains (IsSo : List ℕ → Type 0) (old new : List ℕ) : Type 0 where
  pub words : List ℕ
  pub are : IsSo words
  pub joined : new ≡ old ++ words

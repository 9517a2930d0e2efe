-- The numbers of a line that has at most four, as private functions hold them. Own profile.
use Rattle.std.specs.Prelude.{ℕ, List, [], ◌∷◌, length, map, Option, None, Some, Ok, Bool, nat_le}
use Rattle.std.specs.List.{list_all}
use Rattle.line_text.specs.declared.number.NumberWord.{NumberWord}
use Rattle.certificate.specs.declared.numbers.FewWords.{FewWords}
use Rattle.certificate.specs.declared.numbers.FewWords.TheVariants as words
use Rattle.line_text.specs.Results.{◌>>=◌, check}
use Rattle.certificate.specs.declared.fault.LineFault.TheVariants.{Form, Number}
use Rattle.certificate.specs.declared.fault.CertTextError.TheVariants.{At}
pub use Rattle.tt_infer.specs.Lines.{numbers_in, numbers_said, row_of}
use Rattle.certificate.specs.Reading.{Reading, numbers_of, is_number_word, fits, value_of}

abbrev pub words_in : FewWords → List NumberWord
words_in (words.One a) = a ∷ []
words_in (words.Two a b) = a ∷ b ∷ []
words_in (words.Three a b c) = a ∷ b ∷ c ∷ []
words_in (words.Four a b c d) = a ∷ b ∷ c ∷ d ∷ []

-- a word in front, and the words of the text behind it, if there is one
abbrev pub words_with : NumberWord → Option (List ℕ) → List NumberWord
words_with word None = word ∷ []
words_with word (Some more) = word ∷ numbers_of more

-- processes, of which there have to be two or more, and whether each is a number that fits
abbrev pub ring_with : ℕ → List ℕ → Bool → Reading (List ℕ)
ring_with line processes fit = do
  long ← check (At line Form) (nat_le 2 (length processes))
  size ← check (At line Number) fit
  Ok processes

-- the processes that the words of a text are
unfoldable pub ring_at : ℕ → List ℕ → Reading (List ℕ)
ring_at line text = do
  form ← check (At line Form) (list_all is_number_word (numbers_of text))
  ring_with line (map value_of (numbers_of text)) (list_all fits (numbers_of text))

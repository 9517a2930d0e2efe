-- What a line says that is made of words, numbers and places.
use Rattle.std.specs.Prelude.{ℕ, List, ◌++◌, codes, decimal}
use Rattle.std.specs.List.{flat_map}
use Rattle.command_streams.specs.declared.words.PlaceWords.{PlaceWords}
use Rattle.command_streams.specs.declared.words.PlaceWords.TheVariants as place
use Rattle.command_streams.specs.declared.words.Words.{Words}
use Rattle.command_streams.specs.declared.words.Words.TheVariants as line

-- a number behind a space
abbrev pub spaced : ℕ → List ℕ
spaced n = codes " " ++ decimal n

-- the words for a place
abbrev pub place_text : PlaceWords → List ℕ
place_text (place.Alone words) = words.now
place_text (place.Numbered words n) = words.now ++ decimal n

-- the whole line
abbrev pub words_text : Words → List ℕ
words_text (line.Alone words) = words.now
words_text (line.Number words n) = words.now ++ decimal n
words_text (line.Two words n m) = (words.now ++ decimal n) ++ (codes " " ++ decimal m)
words_text (line.Three words n m k) = ((words.now ++ decimal n) ++ (codes " " ++ decimal m)) ++ (codes " " ++ decimal k)
words_text (line.Coded words code n) = (words.now ++ code.now) ++ (codes " " ++ decimal n)
words_text (line.At words at) = words.now ++ place_text at
words_text (line.Named words at name) = (words.now ++ place_text at) ++ (codes " " ++ name.now)
words_text (line.All words ns) = words.now ++ flat_map spaced ns.now

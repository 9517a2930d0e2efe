-- Many lines of a text. Own profile.
use Rattle.std.specs.Prelude.{◌≡◌, ℕ, zero, suc, List, [], ◌∷◌, ◌++◌}
use Rattle.line_text.specs.Parts.{Lacks}

-- so many lines with their ends, and nothing else
abbrev pub AreLines : ℕ → List ℕ → Type 0
AreLines zero text = text ≡ []
AreLines (suc k) text = (line : List ℕ) × (rest : List ℕ) × ((text ≡ line ++ 10 ∷ rest) × (Lacks 10 line × AreLines k rest))

-- so many lines with their ends, and the beginning of another one, which may be empty
abbrev pub BeginLines : ℕ → List ℕ → Type 0
BeginLines zero text = Lacks 10 text
BeginLines (suc k) text = (line : List ℕ) × (rest : List ℕ) × ((text ≡ line ++ 10 ∷ rest) × (Lacks 10 line × BeginLines k rest))

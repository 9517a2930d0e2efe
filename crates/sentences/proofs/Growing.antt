-- A text that gains such words twice has gained such words.
use Rattle.std.proofs.Common.{◌≡◌, ◌∙◌, List, ℕ, [], ◌++◌, All, ap, sym, append_assoc}
use Rattle.std.proofs.lemmas.List.{append-nil}
use Rattle.std.proofs.lemmas.List.Elements.{All-append, All-nil}
use Rattle.sentences.specs.Shown.{Gains, IsShown, IsShownByte}

pub gains_none : (text : List ℕ) → Gains IsShown text text
gains_none text = record { words = []; are = All-nil IsShownByte; joined = sym (append-nil text) }

pub gains_more : (old text new : List ℕ) → Gains IsShown old text → Gains IsShown text new → Gains IsShown old new
gains_more old text new first second = record {
  words = first.words ++ second.words;
  are = All-append IsShownByte first.words second.words first.are second.are;
  joined = second.joined ∙ ap (λ t. t ++ second.words) first.joined ∙ append_assoc old first.words second.words;
}

-- The text of guardian windows: a first line, and a line for each window. Own profile.
use Rattle.std.specs.Prelude.{ℕ, List, [], ◌∷◌, ◌++◌, codes, decimal}
use Rattle.std.specs.List.{flat_map}
use Rattle.ttp_model.specs.Instance.{Instance, node_at}
use Rattle.line_text.specs.Words.{spaced_words}
use Rattle.guardian_windows.specs.declared.window.Window.{Window}

-- what a window's line has behind its keyword: ROUND NODE FROM UNTIL, the node by its name
abbrev pub window_words : Instance → Window → List (List ℕ)
window_words i w = decimal w.round ∷ (node_at i w.node).name ∷ decimal w.from ∷ decimal w.until ∷ []

-- the line of a window
unfoldable pub window_line : Instance → Window → List ℕ
window_line i w = codes "window" ++ spaced_words (window_words i w) ++ codes "\n"

-- the whole text, for no window its first line alone
abbrev pub windows_text : Instance → List Window → List ℕ
windows_text i windows = codes "ttguard 1\n" ++ flat_map (window_line i) windows

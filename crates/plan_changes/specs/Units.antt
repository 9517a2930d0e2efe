-- Which nodes are loaded otherwise, by the bytes of their tables and of their guardians' windows, and by what their dispatchers are
-- told. Own profile.
use Rattle.std.specs.Prelude.{◌≡◌, ℕ, List, ◌++◌, Option, None, Some, ◌==◌, ◌&&◌, Bool, bytes_eq, codes, filter, if◌then◌else◌}
use Rattle.std.specs.List.{flat_map}
use Rattle.ttp_model.specs.declared.error.Part.TheVariants.{Nodes}
use Rattle.line_text.specs.Words.{spaced}
use Rattle.ttp_model.specs.Names.{names_in}
use Rattle.medl_tables.specs.Medl.{medl_of}
use Rattle.medl_tables.specs.Text.{text_at}
use Rattle.guardian_windows.specs.Windows.{cycle_windows}
use Rattle.guardian_windows.specs.Text.{windows_text}
use Rattle.plan_changes.specs.declared.fate.Fate.{Fate}
use Rattle.plan_changes.specs.declared.fate.Fate.TheVariants.{Same, Changed, New, Gone}
use Rattle.plan_changes.specs.Planned.{Planned}
use Rattle.plan_changes.specs.Names.{names_of_either, place_in}
use Rattle.plan_changes.specs.Dispatch.{dispatch_lines}

-- the lines of a node's table
unfoldable pub table_lines : Planned → ℕ → List ℕ
table_lines p n = text_at p.instance (medl_of p.instance p.plan) n

-- the text of the windows of a node's slots
unfoldable pub window_lines : Planned → ℕ → List ℕ
window_lines p n = windows_text p.instance (filter (λ w. w.node == n) (cycle_windows p.instance p.plan))

-- whether the same is loaded for node k of the old one and for node n of the new one
abbrev pub are_loaded_alike : Planned → ℕ → Planned → ℕ → Bool
are_loaded_alike old k new n =
    bytes_eq (table_lines old k) (table_lines new n) && bytes_eq (window_lines old k) (window_lines new n)
    && bytes_eq (dispatch_lines old k) (dispatch_lines new n)

-- a node of this name is in both, with the same table, the same windows and the same rows of its processes
pub record IsLoadedAlike (old new : Planned) (name : List ℕ) : Type 0 where
  pub k : ℕ
  pub before : place_in (names_in old.instance Nodes) name ≡ Some k
  pub n : ℕ
  pub after : place_in (names_in new.instance Nodes) name ≡ Some n
  pub tables : table_lines old k ≡ table_lines new n
  pub windows : window_lines old k ≡ window_lines new n
  pub dispatches : dispatch_lines old k ≡ dispatch_lines new n

-- what becomes of a node that is found at these places
abbrev pub fate_at : Planned → Planned → Option ℕ → Option ℕ → Fate
fate_at old new None at = New
fate_at old new (Some k) None = Gone
fate_at old new (Some k) (Some n) = if are_loaded_alike old k new n then Same else Changed

-- what becomes of the node of a name
unfoldable pub fate_of : Planned → Planned → List ℕ → Fate
fate_of old new name = fate_at old new (place_in (names_in old.instance Nodes) name) (place_in (names_in new.instance Nodes) name)

-- the word for it
abbrev pub fate_word : Fate → List ℕ
fate_word Same = codes "same"
fate_word Changed = codes "changed"
fate_word New = codes "new"
fate_word Gone = codes "gone"

-- the line of a node
unfoldable pub fate_line : Fate → List ℕ → List ℕ
fate_line fate name = fate_word fate ++ spaced name ++ codes "\n"

-- the nodes of either, by their names
abbrev pub nodes_of_either : Planned → Planned → List (List ℕ)
nodes_of_either old new = names_of_either (names_in old.instance Nodes) (names_in new.instance Nodes)

-- a line for each of them
abbrev pub units_text : Planned → Planned → List ℕ
units_text old new = flat_map (λ name. fate_line (fate_of old new name) name) (nodes_of_either old new)

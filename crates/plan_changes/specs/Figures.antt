-- What a plan states of each named thing, and the lines of what is different. Own profile.
use Rattle.std.specs.Prelude.{ℕ, List, [], ◌++◌, Option, None, Some, codes, if◌then◌else◌, nat_eq, option_map, slice_index}
use Rattle.std.specs.List.{flat_map}
use Rattle.std.specs.Option.{option_eq}
use Rattle.ttp_model.specs.declared.plan.Plan.{Plan}
use Rattle.line_text.specs.Words.{spaced}
use Rattle.plan_format.specs.declared.column.Column.{Column}
use Rattle.plan_format.specs.declared.column.Column.TheVariants.{Capacity, Start, Round, Channel}
use Rattle.plan_format.specs.Names.{keyword_of, part_of}
use Rattle.ttp_model.specs.Names.{names_in}
use Rattle.plan_format.specs.Spelling.{value_word}
use Rattle.plan_changes.specs.Planned.{Planned}
use Rattle.plan_changes.specs.Names.{names_of_either, place_in}

-- the figures of a column, in the instance's order
abbrev pub figures_of : Column → Plan → List ℕ
figures_of Capacity plan = plan.caps
figures_of Start plan = plan.starts
figures_of Round plan = plan.rounds
figures_of Channel plan = plan.channels

-- the names for which there are figures
abbrev pub names_of : Column → Planned → List (List ℕ)
names_of column p = names_in p.instance (part_of column)

-- the figure for a name: none where the instance has no such thing
unfoldable pub figure_for : Column → Planned → List ℕ → Option ℕ
figure_for column p name = option_map (slice_index (figures_of column p.plan)) (place_in (names_of column p) name)

-- how it is written: as in the plan's text, and - where there is none
abbrev pub figure_word : Column → Option ℕ → List ℕ
figure_word column None = codes "-"
figure_word column (Some n) = value_word column n

-- the line of a name with the old figure and the new one
unfoldable pub figures_line : Column → List ℕ → Option ℕ → Option ℕ → List ℕ
figures_line column name old new = keyword_of column ++ name ++ spaced (figure_word column old) ++ spaced (figure_word column new) ++ codes "\n"

-- it, where they are different, and nothing where they are the same
unfoldable pub difference_text : Column → List ℕ → Option ℕ → Option ℕ → List ℕ
difference_text column name old new = if option_eq nat_eq old new then [] else figures_line column name old new

-- what is different of a column, name by name
abbrev pub differences_text : Planned → Planned → Column → List ℕ
differences_text old new column =
    flat_map (λ name. difference_text column name (figure_for column old name) (figure_for column new name))
    (names_of_either (names_of column old) (names_of column new))

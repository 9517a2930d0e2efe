-- Which ticks are marked above the rows. Own profile.
use Rattle.std.specs.Prelude.{ℕ, ◌+◌, ◌-◌, ◌*◌, ◌/◌, List, [], ◌∷◌, ◌++◌, codes, decimal, if◌then◌else◌, nat_le}
use Rattle.std.specs.List.{flat_map, range_with_len}
use Rattle.plan_sheets.specs.declared.pictures.canvas.Canvas.{Canvas}
use Rattle.plan_sheets.specs.Canvas.{place_text}

-- the first of these steps that is 80 pixels wide, or more; 100,000,000 where none is, which is wider than any cycle
abbrev pub first_wide : Canvas → List ℕ → ℕ
first_wide c [] = 100000000
first_wide c (step ∷ steps) = if nat_le (80 * c.cycle) (step * c.across) then step else first_wide c steps

-- how many ticks lie between two marks
unfoldable pub step_of : Canvas → ℕ
step_of c =
    first_wide c (1 ∷ 2 ∷ 5 ∷ 10 ∷ 20 ∷ 50 ∷ 100 ∷ 200 ∷ 500 ∷ 1000 ∷ 2000 ∷ 5000 ∷ 10000 ∷ 20000 ∷ 50000 ∷ 100000 ∷ 200000 ∷ 500000 ∷ 1000000 ∷ 2000000 ∷ 5000000 ∷ 10000000 ∷ 20000000 ∷ 50000000 ∷ [])

-- what begins a line from the scale to the bottom, in a style
unfoldable pub upright_text : Canvas → List ℕ → ℕ → List ℕ
upright_text c style tick =
    codes "<line class=\"" ++ (style ++ (codes "\" x1=\"" ++ (place_text c tick ++ (codes "\" y1=\"46\" x2=\"" ++ (place_text c tick ++ (codes "\" y2=\"" ++ (decimal (c.height - 8) ++ codes "\"")))))))

-- a mark, with its tick
unfoldable pub mark_text : Canvas → ℕ → List ℕ
mark_text c tick =
    upright_text c (codes "mark") tick ++ (codes "/><text class=\"mark\" x=\"" ++ (place_text c tick ++ (codes "\" y=\"42\">" ++ (decimal tick ++ codes "</text>\n"))))

-- the mark of this index
unfoldable pub mark_at : Canvas → ℕ → List ℕ
mark_at c k = mark_text c (k * step_of c)

-- the marks from 0 to the cycle's end
unfoldable pub scale_text : Canvas → List ℕ
scale_text c = flat_map (mark_at c) (range_with_len 0 (c.cycle / step_of c + 1))

-- the line of the plan's delay
unfoldable pub delay_text : Canvas → ℕ → List ℕ
delay_text c delay = upright_text c (codes "delay") delay ++ (codes "><title>delay " ++ (decimal delay ++ codes "</title></line>\n"))

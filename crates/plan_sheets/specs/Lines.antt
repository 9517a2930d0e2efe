-- The text of a table, line by line, and the cells of the line that comes next. Lines are records of comma-separated
-- values, as the crate `csv` writes them by default.
use Rattle.std.specs.Prelude.{◌≡◌, ℕ, List, [], ◌++◌, false}
use Rattle.csv.specs.Records.{fields_of, partial_of}
use Rattle.csv.specs.Writing.{default_writer, fields_written, has_written, row_text, writer_pending, writer_setup, writer_under}
use Rattle.plan_sheets.specs.declared.sheet.Sheet.{Sheet}

-- the line of these cells
unfoldable pub line_of : List (List ℕ) → List ℕ
line_of cells = row_text default_writer cells

-- the lines so far
unfoldable pub text_of : Sheet → List ℕ
text_of s = (writer_under s.writer).items ++ writer_pending s.writer

-- the cells of the next line so far
unfoldable pub cells_of : Sheet → List (List ℕ)
cells_of s = fields_of s.cells

-- a line or a cell has just ended
pub record IsTidy (s : Sheet) : Type 0 where
  pub setup : writer_setup s.writer ≡ default_writer
  pub fields : fields_written s.writer ≡ 0
  pub wrote : has_written s.writer ≡ false
  pub partial : partial_of s.cells ≡ []

-- these are the lines and the cells so far
pub record IsSheet (s : Sheet) (lines : List ℕ) (row : List (List ℕ)) : Type 0 where
  pub tidy : IsTidy s
  pub text : text_of s ≡ lines
  pub cells : cells_of s ≡ row

-- a line begins, so that no cell is there yet
pub record IsLineStart (s : Sheet) : Type 0 where
  pub tidy : IsTidy s
  pub empty : cells_of s ≡ []

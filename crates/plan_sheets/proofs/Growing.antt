-- A table grows cell by cell and line by line.
use Rattle.std.proofs.Common.{◌≡◌, ◌∙◌, ℕ, ◌+◌, ◌<◌, List, [], ◌∷◌, ◌++◌, length, slice_index, take, ap, refl, sym, map, append_assoc}
use Rattle.std.specs.List.{flat_map, range_with_len}
use Rattle.std.proofs.lemmas.List.{append-nil, flat_map_more, map_more, take_more}
use Rattle.tt_layout.proofs.Ranges.{append-flat_map-range_with_len_more}
use Rattle.plan_sheets.specs.declared.sheet.Sheet.{Sheet}
use Rattle.plan_sheets.specs.Lines.{IsLineStart, IsSheet, IsTidy, cells_of, line_of, text_of}

-- since a line began, these cells were put into it
pub record IsRow (begun now : Sheet) (row : List (List ℕ)) : Type 0 where
  pub text : text_of now ≡ text_of begun
  pub cells : cells_of now ≡ row

pub first_cells : (begun now : Sheet) (more : List (List ℕ)) → IsLineStart begun → IsSheet now (text_of begun) (cells_of begun ++ more) → IsRow begun now more
first_cells begun now more start is = record { text = is.text; cells = rw start.empty at is.cells }

pub next_cells : (begun now next : Sheet) (cells more : List (List ℕ)) → IsRow begun now cells → IsSheet next (text_of now) (cells_of now ++ more) → IsRow begun next (cells ++ more)
next_cells begun now next cells more so_far is = record { text = is.text ∙ so_far.text; cells = rw so_far.cells at is.cells }

pub line_ends : (begun now next : Sheet) (cells : List (List ℕ)) → IsRow begun now cells → IsSheet next (text_of now ++ line_of (cells_of now)) [] → IsSheet next (text_of begun ++ line_of cells) []
line_ends begun now next cells so_far is =
    record { tidy = is.tidy; text = rw (so_far.text, so_far.cells) at is.text; cells = is.cells }

pub line_starts : (s : Sheet) (text : List ℕ) → IsSheet s text [] → IsLineStart s
line_starts s text is = record { tidy = is.tidy; empty = is.cells }

-- before any cell of its own
pub cells_begin : (s : Sheet) → IsTidy s → IsSheet s (text_of s) (cells_of s ++ [])
cells_begin s tidy = record { tidy = tidy; text = refl; cells = sym (append-nil (cells_of s)) }

-- the cells of one number more
pub cells_grow : (s t : Sheet) (text : List ℕ) (before : List (List ℕ)) (f : ℕ → List ℕ) (xs : List ℕ) (k : ℕ) → k < length xs → IsSheet s text (before ++ map f (take k xs)) → IsSheet t (text_of s) (cells_of s ++ f (slice_index xs k) ∷ []) → IsSheet t text (before ++ map f (take (k + 1) xs))
cells_grow s t text before f xs k inside is more = record {
  tidy = more.tidy;
  text = more.text ∙ is.text;
  cells = more.cells ∙ (ap (λ x. x ++ f (slice_index xs k) ∷ []) is.cells ∙ rw (map_more f xs k 0 inside) (append_assoc before (map f (take k xs)) (f (slice_index xs k) ∷ [])));
}

-- before any line of its own
pub line_begins : (s : Sheet) → IsLineStart s → IsSheet s (text_of s ++ []) []
line_begins s start = record { tidy = start.tidy; text = sym (append-nil (text_of s)); cells = start.empty }

pub head_begins : (s : Sheet) (head : List ℕ) → IsSheet s head [] → IsSheet s (head ++ []) []
head_begins s head is = record { tidy = is.tidy; text = is.text ∙ sym (append-nil head); cells = is.cells }

-- the lines of one number more
pub range_grows : (s t : Sheet) (before : List ℕ) (f : ℕ → List ℕ) (k : ℕ) → IsSheet s (before ++ flat_map f (range_with_len 0 k)) [] → IsSheet t (text_of s ++ f k) [] → IsSheet t (before ++ flat_map f (range_with_len 0 (k + 1))) []
range_grows s t before f k is more = record {
  tidy = more.tidy;
  text = more.text ∙ (ap (λ x. x ++ f k) is.text ∙ append-flat_map-range_with_len_more before f k);
  cells = more.cells;
}

-- the lines of one element more
pub list_grows : (s t : Sheet) (before : List ℕ) (f : ℕ → List ℕ) (xs : List ℕ) (k : ℕ) → k < length xs → IsSheet s (before ++ flat_map f (take k xs)) [] → IsSheet t (text_of s ++ f (slice_index xs k)) [] → IsSheet t (before ++ flat_map f (take (k + 1) xs)) []
list_grows s t before f xs k inside is more = record {
  tidy = more.tidy;
  text = more.text ∙ (ap (λ x. x ++ f (slice_index xs k)) is.text ∙ rw (take_more xs k 0 inside) (flat_map_more f before (take k xs) (slice_index xs k)));
  cells = more.cells;
}

-- and all lines
pub is_whole : (s : Sheet) (text whole : List ℕ) → text ≡ whole → IsSheet s text [] → IsSheet s whole []
is_whole s text whole same is = record { tidy = is.tidy; text = is.text ∙ same; cells = is.cells }

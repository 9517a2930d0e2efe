-- What a line's writer has added piece by piece is the line.
use Rattle.std.proofs.Common.{◌≡◌, ℕ, List, [], ◌++◌, refl, append_assoc}
use Rattle.std.proofs.lemmas.List.{append-nil}
use Rattle.line_text.specs.Words.{spaced}

module _ (text t1 t2 t3 t4 t5 : List ℕ) (keyword a b c d : List ℕ) (e1 : t1 ≡ text ++ keyword) (e2 : t2 ≡ t1 ++ a) (e3 : t3 ≡ t2 ++ b) (e4 : t4 ≡ t3 ++ c) (e5 : t5 ≡ t4 ++ d) where
  -- a keyword, four words and the line's end
  pub line_of_four : (t6 last : List ℕ) → t6 ≡ t5 ++ last → t6 ≡ text ++ ((keyword ++ (a ++ (b ++ (c ++ (d ++ []))))) ++ last)
  line_of_four t6 last e6 = rw (e6, e5, e4, e3, e2, e1) (simp (append_assoc, append-nil))

  -- the same with more words behind the four
  pub line_of_four_and_more : (t6 t7 more last : List ℕ) → t6 ≡ t5 ++ more → t7 ≡ t6 ++ last → t7 ≡ text ++ (((keyword ++ (a ++ (b ++ (c ++ (d ++ []))))) ++ more) ++ last)
  line_of_four_and_more t6 t7 more last e6 e7 = rw (e7, e6, e5, e4, e3, e2, e1) (simp (append_assoc, append-nil))

-- a word in two parts
pub spaced-append : (a b : List ℕ) → spaced (a ++ b) ≡ spaced a ++ b
unfolding spaced
spaced-append a b = refl

module _ (text t1 t2 t3 : List ℕ) (a b c : List ℕ) (e1 : t1 ≡ text ++ a) (e2 : t2 ≡ t1 ++ b) (e3 : t3 ≡ t2 ++ c) where
  pub three_pieces : t3 ≡ text ++ ((a ++ b) ++ c)
  three_pieces = rw (e3, e2, e1) (simp append_assoc)

  pub four_pieces : (t4 d : List ℕ) → t4 ≡ t3 ++ d → t4 ≡ text ++ (((a ++ b) ++ c) ++ d)
  four_pieces t4 d e4 = rw (e4, e3, e2, e1) (simp append_assoc)

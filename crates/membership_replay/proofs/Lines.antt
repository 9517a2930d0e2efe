-- What a line's writer has added piece by piece is the line.
use Rattle.std.proofs.Common.{◌≡◌, ℕ, List, [], ◌++◌, append_assoc}
use Rattle.std.proofs.lemmas.List.{append-nil}

module _ (text t1 t2 t3 : List ℕ) where
  -- a keyword and a word
  pub line_of_one : (keyword a last : List ℕ) → t1 ≡ text ++ keyword → t2 ≡ t1 ++ a → t3 ≡ t2 ++ last → t3 ≡ text ++ ((keyword ++ (a ++ [])) ++ last)
  line_of_one keyword a last e1 e2 e3 = rw (e3, e2, e1) (simp (append_assoc, append-nil))

  -- a keyword and two words
  pub line_of_two : (t4 keyword a b last : List ℕ) → t1 ≡ text ++ keyword → t2 ≡ t1 ++ a → t3 ≡ t2 ++ b → t4 ≡ t3 ++ last → t4 ≡ text ++ ((keyword ++ (a ++ (b ++ []))) ++ last)
  line_of_two t4 keyword a b last e1 e2 e3 e4 = rw (e4, e3, e2, e1) (simp (append_assoc, append-nil))

-- a keyword and four words, and more lines behind it
pub line_of_four_then : (text t1 t2 t3 t4 t5 keyword a b c d : List ℕ) → t1 ≡ text ++ keyword → t2 ≡ t1 ++ a → t3 ≡ t2 ++ b → t4 ≡ t3 ++ c → t5 ≡ t4 ++ d → (t6 t7 last more : List ℕ) → t6 ≡ t5 ++ last → t7 ≡ t6 ++ more → t7 ≡ text ++ (((keyword ++ (a ++ (b ++ (c ++ (d ++ []))))) ++ last) ++ more)
line_of_four_then text t1 t2 t3 t4 t5 keyword a b c d e1 e2 e3 e4 e5 t6 t7 last more e6 e7 = rw (e7, e6, e5, e4, e3, e2, e1) (simp (append_assoc, append-nil))

-- The names that are tried beside a file's.
use Rattle.std.specs.Prelude.{ℕ, zero, suc, List, ◌++◌, codes, decimal}

-- what is added to a name for that of this number
abbrev pub ending : ℕ → List ℕ
ending zero = codes ".new"
ending (suc n) = codes ".new." ++ decimal (suc n)

-- the name of this number beside a file's
abbrev pub name_beside : List ℕ → ℕ → List ℕ
name_beside name number = name ++ ending number

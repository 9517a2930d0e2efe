-- What jobs and stores are called.
use Rattle.std.specs.Prelude.{ℕ, ◌==◌, List, ◌++◌, codes, if◌then◌else◌}
use Rattle.std.specs.Fmt.{decimal}

-- a name with a number behind it; by itself where there is only one of them
unfoldable pub numbered : List ℕ → ℕ → ℕ → List ℕ
numbered name count k = if count == 1 then name else name ++ (codes "_" ++ decimal k)

-- where a message is stored: at a node
unfoldable pub stored_name : List ℕ → List ℕ → List ℕ
stored_name message node = message ++ (codes "_at_" ++ node)

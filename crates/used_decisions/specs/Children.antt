-- The children of a branch by what leads to them. Only private contracts ask for it.
use Rattle.std.specs.Prelude.{ℕ, ◌==◌, not, List, length, filter, Bool}
use Rattle.std.specs.List.{range_with_len, list_any}
use Rattle.used_decisions.specs.declared.turn.Turn.{Turn}
use Rattle.used_decisions.specs.Turns.{Path, placed_of, nodes_of}

-- a node isn't placed by these decisions
abbrev pub is_free : List Turn → ℕ → Bool
is_free turns n = not (list_any (λ m. m == n) (nodes_of (placed_of turns)))

-- the nodes that a path doesn't place, rising
abbrev pub free_nodes : Path → List ℕ
free_nodes path = filter (is_free path.turns) (range_with_len 0 (length path.instance.nodes))

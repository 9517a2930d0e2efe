-- How many nodes of certificates aren't passed yet. Only private contracts ask for it.
use Rattle.std.specs.Prelude.{ℕ, zero, suc, ◌+◌, List, drop, length}
use Rattle.certificate.specs.Trees.{preorder}
use Rattle.certificate.specs.Cert.{Cert}
use Rattle.side_by_side.specs.declared.side.Side.{Side}
use Rattle.side_by_side.specs.Joined.{own_trees}
use Rattle.side_by_side.specs.Found.{side_at}

-- of the certificate of a number
abbrev pub left_at : List Cert → List Side → ℕ → ℕ
left_at certs sides k = length (drop (side_at sides k).passed (preorder (own_trees certs k)))

-- of the first so many
unfoldable pub left_of : List Cert → List Side → ℕ → ℕ
left_of certs sides zero = 0
left_of certs sides (suc k) = left_of certs sides k + left_at certs sides k

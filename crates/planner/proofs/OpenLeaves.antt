-- Leaves of open tasks, and nodes of pieces, one more at the end.
use Rattle.std.proofs.Common.{◌≡◌, ℕ, List, [], ◌∷◌, ◌++◌, map, refl, ap, ◌∙◌}
use Rattle.std.proofs.lemmas.List.{map-append}
use Rattle.ttp_model.specs.Instance.{Instance}
use Rattle.certificate.specs.declared.node.Node.{Node}
use Rattle.search_workers.specs.piece.Piece.{Piece}
use Rattle.search_workers.specs.Task.{Task}
use Rattle.planner.specs.Begun.{nodes_of, outline, AreLeavesOf, IsLeafOf}

pub leaves_more : (i : Instance) (low : ℕ) (tasks : List Task) (pieces : List Piece) (t : Task) (p : Piece) → AreLeavesOf i low tasks pieces
    → IsLeafOf i low t p → AreLeavesOf i low (tasks ++ t ∷ []) (pieces ++ p ∷ [])
leaves_more i low [] [] t p are is = (is, tt)
leaves_more i low [] (q ∷ pieces) t p are is = absurd are
leaves_more i low (s ∷ tasks) [] t p are is = absurd are
leaves_more i low (s ∷ tasks) (q ∷ pieces) t p are is = (are.0, leaves_more i low tasks pieces t p are.1 is)

pub nodes_more : (pieces all : List Piece) (p : Piece) (one : Node) → all ≡ pieces ++ p ∷ [] → p.node ≡ one → nodes_of all ≡ nodes_of pieces ++ one ∷ []
nodes_more pieces all p one are is =
    ap nodes_of are ∙ map-append (λ (piece : Piece). piece.node) pieces (p ∷ []) ∙ ap (λ (n : Node). nodes_of pieces ++ n ∷ []) is

pub outlines_more : (pieces all : List Piece) (p : Piece) → all ≡ pieces ++ p ∷ []
    → map outline (nodes_of all) ≡ map outline (nodes_of pieces) ++ outline p.node ∷ []
outlines_more pieces all p are = ap (map outline) (nodes_more pieces all p p.node are refl) ∙ map-append outline (nodes_of pieces) (p.node ∷ [])

-- What stays of a certificate from which a search goes on, and what its answer says then.
use Rattle.std.proofs.Common.{◌≡◌, ℕ, List, Option, map, filter, length, sym, ap, subst, ◌∙◌}
use Rattle.std.specs.Prelude.{count_by}
use Rattle.std.proofs.lemmas.List.{length-map}
use Rattle.std.proofs.lemmas.List.Sums.{length-filter}
use Rattle.ttp_model.specs.Instance.{Instance}
use Rattle.certificate.specs.declared.node.Node.{Node}
use Rattle.planner.specs.Begun.{nodes_of, outline, stays}
use Rattle.search_workers.specs.declared.outcome.Options.{Options}
use Rattle.search_workers.specs.declared.outcome.Outcome.{Outcome}
use Rattle.planner.specs.declared.parts.Portion.{Portion}
use Rattle.search_workers.specs.piece.Piece.{Piece}
use Rattle.planner.specs.Onward.{IsOwn}

pub as_many : (aim : ℕ) (pieces : List Piece) (nodes : List Node) → map outline (nodes_of pieces) ≡ map outline (filter (stays aim) nodes)
    → length pieces ≡ count_by (stays aim) nodes
as_many aim pieces nodes same =
    sym (length-map pieces (λ (piece : Piece). piece.node)) ∙ sym (length-map (nodes_of pieces) outline) ∙ ap length same
    ∙ length-map (filter (stays aim) nodes) outline ∙ length-filter (stays aim) nodes

-- the same answer, told of the same things by other names
pub same_own : (i : Instance) (a b : Options) (gap other : ℕ) (leaves more : List Node) (part : Option Portion) (own : Outcome) → a ≡ b → gap ≡ other
    → leaves ≡ more → IsOwn i a gap leaves part own → IsOwn i b other more part own
same_own i a b gap other leaves more part own e f g is =
    subst (λ (l : List Node). IsOwn i b other l part own) g
    (subst (λ (n : ℕ). IsOwn i b n leaves part own) f (subst (λ (o : Options). IsOwn i o gap leaves part own) e is))

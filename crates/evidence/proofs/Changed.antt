-- The line of a start that is another one.
use Rattle.std.proofs.Common.{◌≡◌, ◌≢◌, ℕ, Bool, false, List, [], ◌++◌, Contains, Option, Some, if◌then◌else◌, codes, decimal, nat_eq, ap, ◌∙◌, subst, arith}
use Rattle.line_text.specs.Words.{spaced}
use Rattle.plan_format.specs.declared.column.Column.TheVariants.{Capacity, Round, Start}
use Rattle.plan_changes.specs.Changes.{channels_text, changes_text, order_text}
use Rattle.plan_changes.specs.declared.attributes.Attribute.TheVariants.{Node, Wcet}
use Rattle.plan_changes.specs.Attributes.{attributes_text}
use Rattle.plan_changes.specs.Figures.{difference_text, differences_text, figure_for, figures_line, names_of}
use Rattle.plan_changes.specs.Names.{names_of_either}
use Rattle.plan_changes.specs.Planned.{Planned}
use Rattle.plan_changes.specs.Units.{units_text}
use Rattle.evidence.specs.Parts.{IsPartOf}
use Rattle.evidence.proofs.Parts.{element, later, sooner}

-- where both figures are there and different the line has both
line_of : (name : List ℕ) (before after : ℕ) → before ≢ after
    → difference_text Start name (Some before) (Some after)
    ≡ codes "start " ++ name ++ (codes " " ++ decimal before) ++ (codes " " ++ decimal after) ++ codes "\n"
unfolding difference_text figures_line spaced
line_of name before after other =
    let unlike : nat_eq before after ≡ false = grind (arith, other) in
    ap (λ (same : Bool). if same then [] else (codes "start " ++ name ++ (codes " " ++ decimal before) ++ (codes " " ++ decimal after) ++ codes "\n")) unlike

pub both_starts : (old new : Planned) (name : List ℕ) (before after : ℕ) → Contains (names_of_either (names_of Start old) (names_of Start new)) name
    → figure_for Start old name ≡ Some before → figure_for Start new name ≡ Some after → before ≢ after
    → IsPartOf (codes "start " ++ name ++ (codes " " ++ decimal before) ++ (codes " " ++ decimal after) ++ codes "\n") (changes_text old new)
both_starts old new name before after there first second other =
    let line : difference_text Start name (figure_for Start old name) (figure_for Start new name) ≡ _ =
    ap (λ (o : Option ℕ). difference_text Start name o (figure_for Start new name)) first
    ∙ ap (λ (o : Option ℕ). difference_text Start name (Some before) o) second
    ∙ line_of name before after other in
    let inside : IsPartOf (difference_text Start name (figure_for Start old name) (figure_for Start new name)) (differences_text old new Start) =
    element (λ name. difference_text Start name (figure_for Start old name) (figure_for Start new name))
    (names_of_either (names_of Start old) (names_of Start new)) name there in
    later _ (units_text old new) _ (sooner _ _ (channels_text old new) (sooner _ _ (differences_text old new Round)
    (later _ (order_text old new ++ attributes_text old new Node ++ attributes_text old new Wcet ++ differences_text old new Capacity) _
    (subst (λ part. IsPartOf part (differences_text old new Start)) line inside))))

-- How trees are told apart: as lists, of which the trees can be made again. Own profile.
use Rattle.std.specs.Prelude.{◌≡◌, List, [], ◌∷◌, ◌++◌, Option, Some, None, refl}
use Rattle.std.specs.Coded.{Coded, code_by, coded_list, coded_option}
use Rattle.std.proofs.Common.{ap, ◌∙◌}
use Rattle.certificate.specs.contracts.node.Node.{the_row}
use Rattle.certificate.specs.declared.node.Node.{Node}
use Rattle.certificate.specs.Trees.{Trees, none, grow}

-- the nodes in preorder, and a mark wherever there are no trees
abbrev pub marked : Trees → List (Option Node)
marked none = None ∷ []
marked (grow node below beside) = Some node ∷ (marked below ++ marked beside)

-- trees that were made of later entries, and what one entry in front of them makes
abbrev pub grown : Option Node → List Trees → List Trees
grown None made = none ∷ made
grown (Some node) (below ∷ beside ∷ made) = grow node below beside ∷ made
grown (Some node) _ = []

-- the trees that entries make, in front of others
abbrev pub made_of : List (Option Node) → List Trees → List Trees
made_of [] made = made
made_of (entry ∷ entries) made = grown entry (made_of entries made)

-- the first that were made
abbrev pub first_made : List Trees → Trees
first_made [] = none
first_made (trees ∷ made) = trees

made_of-append : (xs ys : List (Option Node)) (made : List Trees)
    → made_of (xs ++ ys) made ≡ made_of xs (made_of ys made)
made_of-append [] ys made = refl
made_of-append (x ∷ xs) ys made = ap (grown x) (made_of-append xs ys made)

made_of-marked : (trees : Trees) (made : List Trees)
    → made_of (marked trees) made ≡ trees ∷ made
made_of-marked none made = refl
made_of-marked (grow node below beside) made =
    ap (grown (Some node))
    (made_of-append (marked below) (marked beside) made
    ∙ ap (made_of (marked below)) (made_of-marked beside made)
    ∙ made_of-marked below (beside ∷ made))

pub first_made-marked : (trees : Trees) → first_made (made_of (marked trees) []) ≡ trees
first_made-marked trees = ap first_made (made_of-marked trees [])

abbrev pub trees_code : Coded Trees
trees_code =
    code_by (List (Option Node)) (coded_list (coded_option the_row.coded)) marked
    (λ entries. first_made (made_of entries [])) first_made-marked

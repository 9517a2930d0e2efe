-- Pieces that have the names of a tree and no low leaf have no fault, and are answered once they are sorted.
use Rattle.std.proofs.Common.{◌≡◌, ℕ, List, [], Result, Ok, Err, IfOk, IfErr, arith, ap, ◌∙◌, refl}
use Rattle.std.specs.List.Sorted.{IsPermutation}
use Rattle.std.proofs.lemmas.List.Elements.{All-contains}
use Rattle.std.proofs.lemmas.List.Sorted.{All-permutation}
use Rattle.search_trees.specs.declared.piece.Piece.{Piece}
use Rattle.search_trees.specs.Account.{IsWholeTree}
use Rattle.search_trees.specs.declared.fault.GatherFault.{GatherFault}
use Rattle.search_trees.specs.declared.fault.GatherFault.TheVariants.{DoubledName, MissingName, StrayName, LowGoal, OutOfMemory}
use Rattle.certificate.specs.Trees.{Trees}
use Rattle.certificate.specs.Versions.{version_of_tree}
use Rattle.certificate.specs.Cert.{Cert}
use Rattle.search_trees.specs.Trees.{IsTreeOf}
use Rattle.search_trees.specs.Gathering.{AreShallow, HasGoal, HasTreeNames, HaveGoals, IsFirstGatherFault, IsGathered}
use Rattle.search_trees.specs.Order.{IsSorted}
use Rattle.search_trees.proofs.Counting.{tree_names_move}
use Rattle.search_trees.proofs.Finding.{doubled_before, rises_when_other}
use Rattle.search_trees.proofs.Gathered.{IsAnswered, gathered, tree_has_names, tree_is_one}
use Rattle.search_trees.proofs.Whole.{whole_tree_names}

pub no_fault : (low : ℕ) (pieces : List Piece) (fault : GatherFault) → HasTreeNames pieces → HaveGoals low pieces
    → IsFirstGatherFault low pieces fault → fault ≡ OutOfMemory
no_fault low pieces DoubledName names goals is = absurd (omega (arith, is.twice, names.once is.name))
no_fault low pieces MissingName names goals is = absurd (is.1.lacking (names.complete is.1.name is.1.wanted))
no_fault low pieces StrayName names goals is = absurd (is.2.unwanted (names.own is.2.name is.2.there))
no_fault low pieces LowGoal names goals is = absurd (is.1.below (All-contains (λ (p : Piece). HasGoal low p.node) pieces is.1.piece goals is.1.there))
no_fault low pieces OutOfMemory names goals is = refl

pub whole_trees_are_sound : (pieces : List Piece) (low : ℕ) (fault : GatherFault) → IsWholeTree pieces [] → HaveGoals low pieces
    → IsFirstGatherFault low pieces fault → fault ≡ OutOfMemory
whole_trees_are_sound pieces low fault whole goals is = no_fault low pieces fault (whole_tree_names pieces whole) goals is

same_cert : (cert : Cert) (low : ℕ) (tree : Trees) → cert.version ≡ version_of_tree cert.tree → cert.low ≡ low → cert.tree ≡ tree
    → cert ≡ record { version = version_of_tree tree; low = low; tree = tree }
same_cert cert low tree a b c =
    let version = a ∙ ap version_of_tree c in
    λ i. record { version = version i; low = b i; tree = c i }

pub only_answer : (low : ℕ) (pieces : List Piece) (r : Result Cert GatherFault) → IfOk r (IsGathered low pieces)
    → IfErr r (IsFirstGatherFault low pieces) → (tree : Trees) → IsTreeOf pieces tree → HaveGoals low pieces
    → (r ≡ Err OutOfMemory → ⊥) → r ≡ Ok (record { version = version_of_tree tree; low = low; tree = tree })
only_answer low pieces (Ok cert) ok err tree is goals memory =
    ap Ok (same_cert cert low tree ok.version ok.bound (tree_is_one pieces cert.tree tree ok.tree is))
only_answer low pieces (Err fault) ok err tree is goals memory = absurd (memory (ap Err (no_fault low pieces fault (tree_has_names pieces tree is) goals err)))

pub gathered_whole : (low : ℕ) (pieces sorted : List Piece) → AreShallow pieces → HasTreeNames pieces → HaveGoals low pieces
    → IsPermutation pieces sorted → IsSorted sorted
    → IsAnswered low pieces sorted
gathered_whole low pieces sorted shallow names goals same order =
    let moved = tree_names_move pieces sorted same names in
    let up = rises_when_other sorted order
    (λ k first lt twin. let twice = doubled_before sorted k first lt twin in omega (arith, twice.twice, moved.once twice.name)) in
    gathered low pieces sorted shallow same up moved.complete moved.own
    (All-permutation (λ (p : Piece). HasGoal low p.node) pieces sorted same goals)

-- Trees that prove a bound for choices side by side, node after node.
use Rattle.std.proofs.Common.{◌≡◌, ℕ, List, [], ◌∷◌, ◌++◌, refl, sym, ap, subst, ◌∙◌, append_assoc}
use Rattle.ttp_model.specs.Instance.{Instance}
use Rattle.tt_choice.specs.Choice.{Choice}
use Rattle.certificate.specs.declared.node.Node.{Node}
use Rattle.certificate.specs.Trees.{Trees, none, grow, preorder}
use Rattle.tree_check.specs.Proofs.{choices_below, Suits, AreProofs}
use Rattle.planner.specs.Replay.{ProveAll}

-- trees, and others beside them
unfoldable beside_all : Trees → Trees → Trees
beside_all none others = others
beside_all (grow node below beside) others = grow node below (beside_all beside others)

preorder-beside_all : (a b : Trees) → preorder (beside_all a b) ≡ preorder a ++ preorder b
unfolding beside_all
preorder-beside_all none b = refl
preorder-beside_all (grow node below beside) b =
    ap (λ (l : List Node). node ∷ (preorder below ++ l)) (preorder-beside_all beside b)
    ∙ ap (λ (l : List Node). node ∷ l) (sym (append_assoc (preorder below) (preorder beside) (preorder b)))

AreProofs-beside_all : (i : Instance) (low : ℕ) (cs ds : List Choice) (a b : Trees) → AreProofs i low cs a → AreProofs i low ds b
    → AreProofs i low (cs ++ ds) (beside_all a b)
unfolding beside_all
AreProofs-beside_all i low [] ds none b h k = k
AreProofs-beside_all i low [] ds (grow node below beside) b h k = absurd h
AreProofs-beside_all i low (c ∷ cs) ds none b h k = absurd h
AreProofs-beside_all i low (c ∷ cs) ds (grow node below beside) b h k = (h.0, (h.1.0, AreProofs-beside_all i low cs ds beside b h.1.1 k))

module _ (i : Instance) (low : ℕ) (c : Choice) (cs : List Choice) (node : Node) (nodes : List Node) where
  suits_of : (trees : Trees) → preorder trees ≡ node ∷ nodes → AreProofs i low (c ∷ cs) trees → Suits i low c node
  suits_of none are proofs = absurd proofs
  suits_of (grow first below beside) are proofs =
      let same : first ≡ node = cc in
      subst (Suits i low c) same proofs.0

  goes_on : (trees : Trees) → preorder trees ≡ node ∷ nodes → AreProofs i low (c ∷ cs) trees → ProveAll i low (choices_below i c node ++ cs) nodes
  goes_on none are proofs = absurd proofs
  goes_on (grow first below beside) are proofs =
      let same : first ≡ node = cc in
      let others : preorder below ++ preorder beside ≡ nodes = cc in
      let both = AreProofs-beside_all i low (choices_below i c first) cs below beside proofs.1.0 proofs.1.1 in
      record {
        trees = beside_all below beside;
        are = preorder-beside_all below beside ∙ others;
        proofs = subst (λ (n : Node). AreProofs i low (choices_below i c n ++ cs) (beside_all below beside)) same both;
      }

  -- the first node suits the first choice
  pub first_suits : ProveAll i low (c ∷ cs) (node ∷ nodes) → Suits i low c node
  first_suits all = suits_of all.trees all.are all.proofs

  -- and the others prove the bound for the choices that it leads to, and for the other ones
  pub others_prove : ProveAll i low (c ∷ cs) (node ∷ nodes) → ProveAll i low (choices_below i c node ++ cs) nodes
  others_prove all = goes_on all.trees all.are all.proofs

none_there : (i : Instance) (low : ℕ) (node : Node) (nodes : List Node) (trees : Trees) → preorder trees ≡ node ∷ nodes → AreProofs i low [] trees → ⊥
none_there i low node nodes none are proofs = absurd cc
none_there i low node nodes (grow first below beside) are proofs = absurd proofs

-- a node has a choice that it stands at
pub no_node_without : (i : Instance) (low : ℕ) (node : Node) (nodes : List Node) → ProveAll i low [] (node ∷ nodes) → ⊥
no_node_without i low node nodes all = none_there i low node nodes all.trees all.are all.proofs

none_missing : (i : Instance) (low : ℕ) (cs : List Choice) (trees : Trees) → preorder trees ≡ [] → AreProofs i low cs trees → cs ≡ []
none_missing i low [] trees are proofs = refl
none_missing i low (c ∷ cs) none are proofs = absurd proofs
none_missing i low (c ∷ cs) (grow node below beside) are proofs = absurd cc

-- and where none is left no choice is
pub no_choice_left : (i : Instance) (low : ℕ) (cs : List Choice) → ProveAll i low cs [] → cs ≡ []
no_choice_left i low cs all = none_missing i low cs all.trees all.are all.proofs

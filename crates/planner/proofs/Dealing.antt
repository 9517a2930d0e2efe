-- Tasks and their leaves are dealt out, one more at a time from the last one on.
use Rattle.std.proofs.Common.{◌≡◌, ℕ, ◌+◌, Bool, true, false, List, [], ◌∷◌, ◌++◌, length, refl, sym, ap, subst, ◌∙◌, append_assoc, arith}
use Rattle.std.specs.Prelude.{if◌then◌else◌}
use Rattle.std.specs.List.Sorted.{IsPermutation}
use Rattle.std.proofs.lemmas.List.{append-nil, length_push, map-append}
use Rattle.std.proofs.lemmas.List.Sorted.{IsPermutation-refl, IsPermutation-trans, IsPermutation-cons, IsPermutation-append_left, IsPermutation-append_comm}
use Rattle.ttp_model.specs.Instance.{Instance}
use Rattle.certificate.specs.declared.node.Node.{Node}
use Rattle.search_workers.specs.piece.Piece.{Piece}
use Rattle.search_workers.specs.Task.{Task}
use Rattle.search_workers.proofs.Searching.{first_is, then_is}
use Rattle.planner.specs.Begun.{nodes_of, AreLeavesOf, IsLeafOf}
use Rattle.planner.specs.Parts.{is_own, others_of, Deals, IsDealt}
use Rattle.planner.specs.declared.parts.Portion.{Portion}
use Rattle.planner.proofs.OpenLeaves.{leaves_more}

-- the last task, and the leaf where it stands
last_leaf : (i : Instance) (low : ℕ) (tasks : List Task) (pieces : List Piece) (t : Task) (p : Piece) → length tasks ≡ length pieces
    → AreLeavesOf i low (tasks ++ t ∷ []) (pieces ++ p ∷ []) → AreLeavesOf i low tasks pieces × IsLeafOf i low t p
last_leaf i low [] [] t p same are = (tt, are.0)
last_leaf i low [] (q ∷ pieces) t p same are = absurd (omega arith)
last_leaf i low (s ∷ tasks) [] t p same are = absurd (omega arith)
last_leaf i low (s ∷ tasks) (q ∷ pieces) t p same are =
    let rest = last_leaf i low tasks pieces t p (omega arith) are.1 in
    ((are.0, rest.0), rest.1)

one_longer : {X : Type 0} (all front : List X) (x : X) → all ≡ front ++ x ∷ [] → length all ≡ length front + 1
one_longer all front x are = ap length are ∙ length_push front x

module _ (part : Portion) (tasks : List Task) (leaves : List Piece) (all front : List Task) (all_leaves before : List Piece) (own aside : List Task) (others : List Piece)
    (t : Task) (p : Piece) (last : all ≡ front ++ t ∷ []) (last_one : all_leaves ≡ before ++ p ∷ []) (d : Deals part tasks leaves all all_leaves own aside others) where
  many : length front ≡ length before
  many = omega (arith, d.many, one_longer all front t last, one_longer all_leaves before p last_one)

  stands : (i : Instance) (low : ℕ) → AreLeavesOf i low tasks leaves → AreLeavesOf i low front before × IsLeafOf i low t p
  stands i low are =
      last_leaf i low front before t p many
      (subst (λ (l : List Task). AreLeavesOf i low l (before ++ p ∷ [])) last
      (subst (λ (l : List Piece). AreLeavesOf i low all l) last_one (d.stand i low are).0))

  tasks_same : tasks ≡ front ++ (t ∷ d.tasks_behind)
  tasks_same = d.tasks_are ∙ ap (λ (l : List Task). l ++ d.tasks_behind) last ∙ append_assoc front (t ∷ []) d.tasks_behind

  leaves_same : leaves ≡ before ++ (p ∷ d.leaves_behind)
  leaves_same = d.leaves_are ∙ ap (λ (l : List Piece). l ++ d.leaves_behind) last_one ∙ append_assoc before (p ∷ []) d.leaves_behind

  abbrev behind : List Node
  behind = others_of part (length front + 1) (nodes_of d.leaves_behind)

  was_left : IsPermutation (nodes_of others) (behind ++ d.spared)
  was_left = subst (λ (n : ℕ). IsPermutation (nodes_of others) (others_of part n (nodes_of d.leaves_behind) ++ d.spared)) (one_longer all front t last) d.left

  -- what stands behind is this where the leaf's number is the part's own or another's
  choose : (nodes spared : List Node) (b : Bool) → is_own part (length front) ≡ b → IsPermutation nodes ((if b then behind else p.node ∷ behind) ++ spared)
      → IsPermutation nodes (others_of part (length front) (nodes_of (p ∷ d.leaves_behind)) ++ spared)
  choose nodes spared b is left =
      subst (λ (c : Bool). IsPermutation nodes ((if c then behind else p.node ∷ behind) ++ spared)) (sym is) left

  pub deals_own : is_own part (length front) ≡ true → Deals part tasks leaves front before (own ++ t ∷ []) aside others
  deals_own is = record {
    tasks_behind = t ∷ d.tasks_behind;
    leaves_behind = p ∷ d.leaves_behind;
    tasks_are = tasks_same;
    leaves_are = leaves_same;
    many = many;
    all = IsPermutation-trans _ _ _ (IsPermutation-cons t d.tasks_behind (aside ++ own) d.all)
        (then_is _ _ _ (IsPermutation-append_comm (t ∷ []) (aside ++ own)) (append_assoc aside own (t ∷ [])));
    stand = λ i low are. ((stands i low are).0, (d.stand i low are).1);
    spared = d.spared;
    left = choose (nodes_of others) d.spared true is was_left;
  }

  -- the leaf comes in front of those that were left
  in_front : IsPermutation (nodes_of (others ++ p ∷ [])) (p.node ∷ (behind ++ d.spared))
  in_front = first_is _ _ _ (map-append (λ (q : Piece). q.node) others (p ∷ []))
      (IsPermutation-trans _ _ _ (IsPermutation-append_comm (nodes_of others) (p.node ∷ []))
      (IsPermutation-cons p.node (nodes_of others) (behind ++ d.spared) was_left))

  -- or between them
  between : IsPermutation (nodes_of (others ++ p ∷ [])) (behind ++ (p.node ∷ d.spared))
  between = IsPermutation-trans _ _ _ in_front
      (then_is _ _ _ (IsPermutation-append_left d.spared ((p.node ∷ []) ++ behind) (behind ++ p.node ∷ []) (IsPermutation-append_comm (p.node ∷ []) behind))
      (append_assoc behind (p.node ∷ []) d.spared))

  stays : (b : Bool) → is_own part (length front) ≡ b
      → (spared : List Node) × IsPermutation (nodes_of (others ++ p ∷ [])) (others_of part (length front) (nodes_of (p ∷ d.leaves_behind)) ++ spared)
  stays true is = (p.node ∷ d.spared, choose (nodes_of (others ++ p ∷ [])) (p.node ∷ d.spared) true is between)
  stays false is = (d.spared, choose (nodes_of (others ++ p ∷ [])) d.spared false is in_front)

  pub deals_aside : Deals part tasks leaves front before own (aside ++ t ∷ []) (others ++ p ∷ [])
  deals_aside =
      let left = stays (is_own part (length front)) refl in
      record {
        tasks_behind = t ∷ d.tasks_behind;
        leaves_behind = p ∷ d.leaves_behind;
        tasks_are = tasks_same;
        leaves_are = leaves_same;
        many = many;
        all = IsPermutation-trans _ _ _ (IsPermutation-cons t d.tasks_behind (aside ++ own) d.all)
            (IsPermutation-append_left own ((t ∷ []) ++ aside) (aside ++ t ∷ []) (IsPermutation-append_comm (t ∷ []) aside));
        stand = λ i low are. ((stands i low are).0, leaves_more i low aside others t p (d.stand i low are).1 (stands i low are).1);
        spared = left.0;
        left = left.1;
      }

-- nothing is dealt out yet
pub deals_none : (part : Portion) (tasks : List Task) (leaves : List Piece) → length tasks ≡ length leaves → Deals part tasks leaves tasks leaves [] [] []
deals_none part tasks leaves same = record {
  tasks_behind = [];
  leaves_behind = [];
  tasks_are = sym (append-nil tasks);
  leaves_are = sym (append-nil leaves);
  many = same;
  all = IsPermutation-refl [];
  stand = λ i low are. (are, tt);
  spared = [];
  left = IsPermutation-refl [];
}

-- all is
pub deals_all : (part : Portion) (tasks : List Task) (leaves : List Piece) (front : List Task) (before : List Piece) (own aside : List Task) (others : List Piece)
    → front ≡ [] → Deals part tasks leaves front before own aside others → IsDealt part tasks leaves own aside others
deals_all part tasks leaves [] [] own aside others none d = record {
  all = first_is _ _ _ d.tasks_are d.all;
  stand = λ i low are. (d.stand i low are).1;
  spared = d.spared;
  left = subst (λ (l : List Piece). IsPermutation (nodes_of others) (others_of part 0 (nodes_of l) ++ d.spared)) (sym d.leaves_are) d.left;
}
deals_all part tasks leaves [] (q ∷ before) own aside others none d = let many = d.many in absurd (omega arith)
deals_all part tasks leaves (s ∷ front) before own aside others none d = absurd cc

-- a leaf for each task
pub as_many : (i : Instance) (low : ℕ) (tasks : List Task) (pieces : List Piece) → AreLeavesOf i low tasks pieces → length tasks ≡ length pieces
as_many i low [] [] are = refl
as_many i low [] (q ∷ pieces) are = absurd are
as_many i low (s ∷ tasks) [] are = absurd are
as_many i low (s ∷ tasks) (q ∷ pieces) are = let rest = as_many i low tasks pieces are.1 in omega arith

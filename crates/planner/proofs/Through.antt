-- A certificate's nodes, one after another.
use Rattle.std.proofs.Common.{◌≡◌, ℕ, ◌+◌, ◌<◌, List, [], ◌∷◌, ◌++◌, Option, Bool, map, filter, length, take, drop, slice_index_or}
use Rattle.std.proofs.Common.{refl, sym, ap, subst, ◌∙◌, append_assoc}
use Rattle.std.proofs.lemmas.List.{append-nil, map-append, take_more, drop_more, take-append-drop}
use Rattle.std.proofs.lemmas.List.Elements.{filter-append}
use Rattle.ttp_model.specs.Instance.{Instance}
use Rattle.certificate.specs.declared.node.Node.{Node}
use Rattle.certificate.specs.Lines.{line_of}
use Rattle.certificate.specs.Trees.{preorder}
use Rattle.certificate.specs.Cert.{Cert}
use Rattle.tree_check.specs.Faults.{told_line}
use Rattle.search_workers.specs.declared.aims.Aims.{Aims}
use Rattle.search_workers.specs.declared.found.FoundPlan.{FoundPlan}
use Rattle.planner.specs.declared.replay.Replay.{Replay}
use Rattle.planner.specs.declared.fault.BeginFault.{BeginFault}
use Rattle.planner.specs.declared.fault.BeginFault.TheVariants.{TooDeep, OutOfMemory}
use Rattle.planner.specs.Begun.{nodes_of, is_open, outline, stays, IsBeginFault}
use Rattle.planner.specs.Replay.{IsReplay, IsNodeFault, GoesThrough}

pub through_none : (i : Instance) (r : Replay) → GoesThrough i r r []
through_none i r = record {
  replay = λ aims best low others s. s;
  kept = sym (append-nil (map outline (nodes_of r.pieces.items)));
  open_leaves = sym (append-nil (nodes_of r.leaves.items));
  aim = refl;
}

filter_more : (test : Node → Bool) (nodes : List Node) (one : Node) → filter test (nodes ++ one ∷ []) ≡ filter test nodes ++ filter test (one ∷ [])
filter_more test nodes one = filter-append test nodes (one ∷ [])

outlines_of_more : (test : Node → Bool) (nodes : List Node) (one : Node)
    → map outline (filter test (nodes ++ one ∷ [])) ≡ map outline (filter test nodes) ++ map outline (filter test (one ∷ []))
outlines_of_more test nodes one = ap (map outline) (filter_more test nodes one) ∙ map-append outline (filter test nodes) (filter test (one ∷ []))

-- what came after a part, and after one more
appended : (now before first part more all : List Node) → now ≡ before ++ more → before ≡ first ++ part → all ≡ part ++ more → now ≡ first ++ all
appended now before first part more all last earlier is =
    last ∙ ap (λ (l : List Node). l ++ more) earlier ∙ append_assoc first part more ∙ ap (λ (l : List Node). first ++ l) (sym is)

module _ (i : Instance) (old mid new : Replay) (nodes : List Node) (one : Node) (first : GoesThrough i old mid nodes)
    (second : GoesThrough i mid new (one ∷ [])) where
  pub through_more : GoesThrough i old new (nodes ++ one ∷ [])
  through_more =
      let kept = second.kept ∙ ap (λ (n : ℕ). map outline (nodes_of mid.pieces.items) ++ map outline (filter (stays n) (one ∷ []))) first.aim in
      let leaves = second.open_leaves ∙ ap (λ (n : ℕ). nodes_of mid.leaves.items ++ filter (is_open n) (one ∷ [])) first.aim in
      record {
        replay = λ aims best low others s.
            second.replay aims best low others (first.replay aims best low (one ∷ others)
            (subst (IsReplay i aims best low old) (append_assoc nodes (one ∷ []) others) s));
        kept = appended _ _ _ _ _ _ kept first.kept (outlines_of_more (stays old.aim) nodes one);
        open_leaves = appended _ _ _ _ _ _ leaves first.open_leaves (filter_more (is_open old.aim) nodes one);
        aim = second.aim ∙ first.aim;
      }

-- the node at a place, which is there
module _ (nodes : List Node) (k : ℕ) (one : Node) (inside : k < length nodes) (here : one ≡ slice_index_or nodes k one) where
  pub seen_more : take (k + 1) nodes ≡ take k nodes ++ one ∷ []
  seen_more = take_more nodes k one inside ∙ ap (λ (n : Node). take k nodes ++ n ∷ []) (sym here)

  still_more : drop k nodes ≡ one ∷ drop (k + 1) nodes
  still_more = drop_more nodes k one inside ∙ ap (λ (n : Node). n ∷ drop (k + 1) nodes) (sym here)

  parted : nodes ≡ take k nodes ++ one ∷ drop (k + 1) nodes
  parted = sym (take-append-drop k nodes) ∙ ap (λ (l : List Node). take k nodes ++ l) still_more

  -- it is next
  pub next_here : (i : Instance) (aims : Aims) (best : Option FoundPlan) (low : ℕ) (old mid : Replay) → GoesThrough i old mid (take k nodes)
      → IsReplay i aims best low old nodes → IsReplay i aims best low mid (one ∷ drop (k + 1) nodes)
  next_here i aims best low old mid through s = through.replay aims best low (one ∷ drop (k + 1) nodes) (subst (IsReplay i aims best low old) parted s)

  -- and where it is too deep the certificate is
  pub fault_here : (i : Instance) (cert : Cert) (line : ℕ) (fault : BeginFault) → preorder cert.tree ≡ nodes → line ≡ told_line (line_of nodes k)
      → IsNodeFault i one line fault → IsBeginFault i cert fault
  fault_here i cert line (TooDeep at) are told is = record {
    before = take k nodes;
    branch = is.branch;
    behind = drop (k + 1) nodes;
    nodes = are ∙ parted ∙ ap (λ (n : Node). take k nodes ++ n ∷ drop (k + 1) nodes) is.is;
    line_is = is.at_is ∙ told;
    task = is.task;
    deep = is.deep;
  }
  fault_here i cert line OutOfMemory are told is = tt

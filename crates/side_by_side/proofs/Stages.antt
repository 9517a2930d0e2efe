-- From one place to the next: what is known where the join stands.
use Rattle.std.proofs.Common.{◌≡◌, ℕ, suc, ◌-◌, ◌<◌, List, [], ◌∷◌, ◌++◌, length, drop, reverse, slice_index_or, Option, None, Some, Bool, false, cond, IsTrue, arith, inr, refl, sym, ap, subst, ◌∙◌}
use Rattle.std.proofs.lemmas.Bool.{cases_Bool}
use Rattle.std.proofs.lemmas.List.{reverse-append, append-nil}
use Rattle.ttp_model.specs.declared.step.Kind.TheVariants.{Place}
use Rattle.ttp_model.specs.declared.step.Leaf.{Leaf}
use Rattle.ttp_model.specs.Instance.{Instance}
use Rattle.ttp_model.specs.Rules.{IsInstance}
use Rattle.tt_choice.specs.Choice.{Choice, IsChoice, bare}
use Rattle.tt_choice.specs.Branches.{root_choice, child_choices}
use Rattle.tt_choice.proofs.Root.{IsChoice-root}
use Rattle.tt_choice.proofs.ChildLists.{length-child_choices}
use Rattle.tt_infer.specs.Leaves.{ClosesLeaf}
use Rattle.certificate.specs.Branch.{branch_of}
use Rattle.certificate.specs.declared.branch.Branch.{Branch}
use Rattle.certificate.specs.declared.node.Node.{Node}
use Rattle.certificate.specs.declared.node.Node.TheVariants as node
use Rattle.certificate.specs.Trees.{Trees, none, grow, AreTrees, IsTree, preorder, first_trees, trees_after, trees_of}
use Rattle.certificate.specs.Cert.{Cert}
use Rattle.tree_check.specs.declared.walk.Walk.{Walk}
use Rattle.tree_check.specs.Turns.{IsWalk}
use Rattle.tree_check.specs.Seen.{IsSeen}
use Rattle.tree_check.proofs.Seen.{seen_none}
use Rattle.side_by_side.specs.declared.side.Side.{Side}
use Rattle.side_by_side.specs.declared.frame.NodePlace.{NodePlace}
use Rattle.side_by_side.specs.declared.frame.Frame.{Frame}
use Rattle.side_by_side.specs.Joined.{branch_on_top, below_top, own_trees, StandsAlone, IsJoined, IsJoinedTree}
use Rattle.side_by_side.specs.Bounds.{IsRight}
use Rattle.side_by_side.specs.Found.{side_at}
use Rattle.side_by_side.specs.Passing.{Group, HasThere, IsLeft, ArePassed, AreJoined, all_choices, IsHeldAt, AreGroups, flag_at}
use Rattle.side_by_side.specs.Joining.{IsSpot, IsFrame, AreFrames, AreSides, Makes, IsJoining, IsAtPlace, IsHere}
use Rattle.side_by_side.proofs.LeftBehind.{left_behind, behind_first, below_first}
use Rattle.side_by_side.proofs.Gone.{left_below, left_beside}
use Rattle.side_by_side.proofs.Places.{LeadsOn, makes_leaf, makes_branch, group_behind, group_below, leader_trees, right_behind, right_below}

-- ---- the first place

abbrev first_group : Instance → List Cert → Group
first_group i certs = record { choices = root_choice i ∷ []; above = None; at = own_trees certs }

-- joined trees of the first place alone are the joined tree: one tree, and none behind it
one_tree : (trees : Trees) → trees_after 1 trees ≡ none → first_trees 1 trees ≡ trees
unfolding first_trees trees_after
one_tree none none_behind = refl
one_tree (grow node below beside) none_behind = ap (grow node below) (sym none_behind)

first_alone : (i : Instance) (certs : List Cert) (trees : Trees) → AreJoined i certs (first_group i certs ∷ []) trees → IsJoinedTree i certs trees
first_alone i certs trees joined = subst (IsJoinedTree i certs) (one_tree trees joined.1) joined.0

-- where no choice is left there, others alone are joined
empty_joined : (i : Instance) (certs : List Cert) (g : Group) (gs : List Group) (trees : Trees) → g.choices ≡ [] → AreJoined i certs gs trees
    → AreJoined i certs (g ∷ gs) trees
unfolding first_trees trees_after
empty_joined i certs g gs trees empty joined =
    let P : List Choice → Type 0 = λ xs. IsJoined i certs xs g.above g.at (first_trees (length xs) trees) × AreJoined i certs gs (trees_after (length xs) trees) in
    let all : P [] = (tt, joined) in
    subst P (sym empty) all

pub joining_first : (i : Instance) (certs : List Cert) (walk : Walk) (sides : List Side) → IsInstance i → 0 < length certs
    → ((k : ℕ) → k < length certs → IsTree (own_trees certs k)) → IsWalk i walk (root_choice i ∷ []) → length sides ≡ length certs
    → ((k : ℕ) → k < length certs → side_at sides k ≡ record { passed = 0; level = 0 })
    → IsJoining i certs walk sides (record { due = 1; above = None } ∷ []) []
joining_first i certs walk sides w some trees walk_is count fresh = record {
  groups = first_group i certs ∷ [];
  walk_is = walk_is;
  frames_are = (record { due = refl; above = refl }, tt);
  groups_are = (record { held = ((IsChoice-root i w, tt), tt); number = 0; inside = some; someone = (trees 0 some).one }, tt);
  sides_are = record {
    count = count;
    left = λ k inside.
        let first : Side = record { passed = 0; level = 0 } in
        let left : IsLeft k (first_group i certs ∷ []) 0 (preorder (own_trees certs k)) = (
          [],
          (
            sym (append-nil (preorder (own_trees certs k))),
            (record { shared = λ h. (trees k inside).one; passed = λ h. absurd (omega (arith, h)) }, refl),
          ),
        ) in
        subst (λ (s : Side). IsLeft k (first_group i certs ∷ []) s.level (drop s.passed (preorder (own_trees certs k)))) (sym (fresh k inside)) left;
    right = λ k inside right. (inr right, tt);
  };
  makes = record { seen = seen_none i 0; joins = λ rest joined. first_alone i certs (trees_of rest) joined };
}

-- ---- places that are all passed

reverse_last : (frames : List Frame) (f : Frame) → reverse (frames ++ f ∷ []) ≡ f ∷ reverse frames
reverse_last frames f = reverse-append frames (f ∷ [])

empty_is : (xs : List Choice) → length xs ≡ 0 → xs ≡ []
empty_is [] nothing = refl
empty_is (x ∷ xs) nothing = absurd (omega (arith, nothing))

some_first : (xs : List Choice) → 0 < length xs → (c : Choice) × (cs : List Choice) × (xs ≡ c ∷ cs)
some_first [] some = absurd (omega (arith, some))
some_first (c ∷ cs) some = (c, cs, refl)

module _ (i : Instance) (certs : List Cert) (walk : Walk) (sides : List Side) (frames : List Frame) (f : Frame) (made : List Node) where
  passed_of : (groups : List Group) → f.due ≡ 0 → IsWalk i walk (all_choices groups) → AreFrames certs groups (f ∷ reverse frames)
      → AreGroups i certs groups → AreSides i certs groups sides → Makes i certs groups made → IsJoining i certs walk sides frames made
  passed_of [] due walk_is frames_are groups_are sides_are makes = absurd frames_are
  passed_of (g ∷ gs) due walk_is frames_are groups_are sides_are makes =
      let none_left : g.choices ≡ [] = empty_is g.choices (sym frames_are.0.due ∙ due) in
      record {
        groups = gs;
        walk_is = subst (λ (xs : List Choice). IsWalk i walk (xs ++ all_choices gs)) none_left walk_is;
        frames_are = frames_are.1;
        groups_are = groups_are.1;
        sides_are = record {
          count = sides_are.count;
          left = λ k inside.
              left_behind k g gs (side_at sides k).level (drop (side_at sides k).passed (preorder (own_trees certs k))) none_left (sides_are.left k inside);
          right = λ k inside right. (sides_are.right k inside right).1;
        };
        makes = record {
          seen = subst (λ (xs : List Choice). IsSeen i 0 made [] (xs ++ all_choices gs)) none_left makes.seen;
          joins = λ rest joined. makes.joins rest (empty_joined i certs g gs (trees_of rest) none_left joined);
        };
      }

  pub joining_passed : f.due ≡ 0 → IsJoining i certs walk sides (frames ++ f ∷ []) made → IsJoining i certs walk sides frames made
  joining_passed due joining =
      passed_of joining.groups due joining.walk_is (subst (AreFrames certs joining.groups) (reverse_last frames f) joining.frames_are)
      joining.groups_are joining.sides_are joining.makes

  place_of : (groups : List Group) → 0 < f.due → IsWalk i walk (all_choices groups) → AreFrames certs groups (f ∷ reverse frames)
      → AreGroups i certs groups → AreSides i certs groups sides → Makes i certs groups made → IsAtPlace i certs walk sides frames f made
  place_of [] due walk_is frames_are groups_are sides_are makes = absurd frames_are
  place_of (g ∷ gs) due walk_is frames_are groups_are sides_are makes =
      let first = some_first g.choices (omega (arith, due, frames_are.0.due)) in
      record {
        group = g;
        groups = gs;
        choice = first.0;
        choices = first.1;
        choices_are = first.2;
        walk_is = subst (λ (xs : List Choice). IsWalk i walk (xs ++ all_choices gs)) first.2 walk_is;
        frame_is = frames_are.0;
        frames_are = frames_are.1;
        groups_are = groups_are;
        sides_are = sides_are;
        makes = makes;
      }

  pub joining_place : 0 < f.due → IsJoining i certs walk sides (frames ++ f ∷ []) made → IsAtPlace i certs walk sides frames f made
  joining_place due joining =
      place_of joining.groups due joining.walk_is (subst (AreFrames certs joining.groups) (reverse_last frames f) joining.frames_are)
      joining.groups_are joining.sides_are joining.makes

-- ---- behind a place

-- the walk goes on to the next place
pub here_of : (i : Instance) (certs : List Cert) (walk next : Walk) (sides : List Side) (frames : List Frame) (f : Frame) (made : List Node)
    → (at : IsAtPlace i certs walk sides frames f made)
    → ((c : Choice) (left : List Choice) → IsWalk i walk (c ∷ left) → (bare next.choice ≡ c) × IsWalk i next left)
    → IsHere i certs next sides frames f made
here_of i certs walk next sides frames f made at went =
    let there = went at.choice (at.choices ++ all_choices at.groups) at.walk_is in
    record {
      group = at.group;
      groups = at.groups;
      choices = at.choices;
      choices_are = at.choices_are ∙ ap (λ (c : Choice). c ∷ at.choices) (sym there.0);
      choice = there.1.choice;
      walk_is = there.1;
      frame_is = at.frame_is;
      frames_are = at.frames_are;
      groups_are = at.groups_are;
      sides_are = at.sides_are;
      makes = at.makes;
    }

frame_count : (due : ℕ) (xs : List Choice) (c : Choice) (cs : List Choice) → due ≡ length xs → xs ≡ c ∷ cs → due - 1 ≡ length cs
frame_count due xs c cs is choices = omega (arith, is, ap length choices)

module _ (i : Instance) (certs : List Cert) (walk : Walk) (sides : List Side) (frames : List Frame) (f : Frame) (made : List Node)
    (at : IsHere i certs walk sides frames f made) (next : Walk) (new : List Side) (flags : List Bool)
    (passed : ArePassed certs (length at.groups) flags sides new) where
  abbrev less : Frame
  less = record { due = f.due - 1; above = f.above }

  frame_behind : IsFrame certs (behind_first at.group at.choices) less
  frame_behind = record {
    due = frame_count f.due at.group.choices (bare walk.choice) at.choices at.frame_is.due at.choices_are;
    above = at.frame_is.above;
  }

  pub leaf_placed : (here : Leaf) → IsWalk i next (at.choices ++ all_choices at.groups)
      → StandsAlone i certs (bare walk.choice) at.group.above at.group.at here → ClosesLeaf i (bare walk.choice) here
      → ((k : ℕ) → k < length certs → IsTrue (flag_at flags k) → ⊥)
      → IsJoining i certs next new (frames ++ less ∷ []) (made ++ node.Leaf here ∷ [])
  leaf_placed here walk_is alone closes nobody =
      let g = at.group in
      let gs = at.groups in record {
        groups = behind_first g at.choices ∷ gs;
        walk_is = walk_is;
        frames_are = subst (AreFrames certs (behind_first g at.choices ∷ gs)) (sym (reverse_last frames less)) (frame_behind, at.frames_are);
        groups_are = (group_behind i certs g (bare walk.choice) at.choices at.choices_are at.groups_are.0, at.groups_are.1);
        sides_are = record {
          count = passed.count ∙ at.sides_are.count;
          left = λ k inside.
              left_beside k g gs (bare walk.choice) at.choices [] None flags (branch_of Place 0) (preorder (own_trees certs k)) (side_at sides k) (side_at new k)
              at.choices_are refl (passed.each k inside) (at.sides_are.left k inside) (λ on. absurd (nobody k inside on))
              (cases_Bool (flag_at flags k)) (nobody k inside);
          right = λ k inside right. right_behind i k g gs (bare walk.choice) at.choices at.choices_are (at.sides_are.right k inside right);
        };
        makes = makes_leaf i certs g gs (bare walk.choice) at.choices here made at.choices_are alone closes at.makes;
      }

  pub branch_placed : (branch : Branch) (best : Option Leaf) (spot : Option NodePlace) → LeadsOn i certs at.group (bare walk.choice) branch best flags
      → IsChoice i (bare walk.choice) → IsHeldAt i (bare walk.choice) best → IsSpot certs spot best
      → IsWalk i next (child_choices i (bare walk.choice) branch.kind ++ (at.choices ++ all_choices at.groups))
      → ((k : ℕ) → k < length certs → IsTrue (flag_at flags k) → branch_on_top (at.group.at k) ≡ Some branch)
      → IsJoining i certs next new ((frames ++ less ∷ []) ++ record { due = branch.children; above = spot } ∷ []) (made ++ node.Branch branch ∷ [])
  branch_placed branch best spot on ok held is_spot walk_is followers =
      let g = at.group in
      let gs = at.groups in
      let below_cs = child_choices i (bare walk.choice) branch.kind in
      let count : branch.children ≡ length below_cs = on.suits.just ∙ sym (length-child_choices i (bare walk.choice) branch.kind) in
      let below = below_first g below_cs best flags in
      let behind = behind_first g at.choices in
      let own : Frame = record { due = branch.children; above = spot } in
      let number = on.leads.number in
      let inside = on.leads.greatest.inside in
      let there : HasThere (length gs) (side_at sides number).level (suc (length at.choices)) (g.at number) =
      subst (λ (xs : List Choice). HasThere (length gs) (side_at sides number).level (length xs) (g.at number)) at.choices_are
      (at.sides_are.left number inside).1.1.0 in
      let under = cond (slice_index_or flags number false) (below_top (g.at number)) none in
      let trees : AreTrees branch.children under =
      leader_trees (length gs) (side_at sides number).level (length at.choices) branch (g.at number) under on.leads.own (on.under number inside) there in record {
        groups = below ∷ behind ∷ gs;
        walk_is = walk_is;
        frames_are =
            subst (AreFrames certs (below ∷ behind ∷ gs))
            (sym (reverse_last (frames ++ less ∷ []) own ∙ ap (λ (fs : List Frame). own ∷ fs) (reverse_last frames less)))
            (record { due = count; above = is_spot }, (frame_behind, at.frames_are));
        groups_are = (
          group_below i certs g (bare walk.choice) branch best flags number ok on held inside trees,
          (group_behind i certs g (bare walk.choice) at.choices at.choices_are at.groups_are.0, at.groups_are.1),
        );
        sides_are = record {
          count = passed.count ∙ at.sides_are.count;
          left = λ k within.
              left_below k g gs (bare walk.choice) at.choices below_cs best flags branch (preorder (own_trees certs k)) (side_at sides k) (side_at new k)
              at.choices_are count (passed.each k within) (at.sides_are.left k within) (followers k within);
          right = λ k within right.
              right_below i certs k g gs (bare walk.choice) at.choices branch best flags within at.choices_are on (at.sides_are.right k within right);
        };
        makes = makes_branch i certs g gs (bare walk.choice) at.choices branch best flags made at.choices_are on at.makes;
      }

-- ---- the end

pub joining_all : (i : Instance) (certs : List Cert) (walk : Walk) (sides : List Side) (made : List Node) → IsJoining i certs walk sides [] made
    → IsJoinedTree i certs (trees_of made) × IsRight i (trees_of made)
unfolding trees_of
joining_all i certs walk sides made joining = all_of joining.groups joining.frames_are joining.makes
  where
    all_of : (groups : List Group) → AreFrames certs groups [] → Makes i certs groups made
        → IsJoinedTree i certs (trees_of made) × IsRight i (trees_of made)
    all_of [] frames_are makes =
        let whole = append-nil made in (
          subst (λ (ns : List Node). IsJoinedTree i certs (trees_of ns)) whole (makes.joins [] refl),
          subst (λ (ns : List Node). IsRight i (trees_of ns)) whole (makes.seen.proofs tt [] tt),
        )
    all_of (g ∷ gs) frames_are makes = absurd frames_are

-- What is found at a place, as the code knows it: the best leaf, and the branch that leads.
use Rattle.std.proofs.Common.{◌≡◌, ℕ, ◌≤◌, List, length, Option, None, Some, Bool, true, false, arith, inr, refl, ap, subst}
use Rattle.ttp_model.specs.declared.step.Leaf.{Leaf}
use Rattle.tt_choice.specs.Choice.{bare}
use Rattle.tt_infer.specs.Leaves.{ClosesLeaf}
use Rattle.certificate.specs.declared.node.Node.TheVariants as node
use Rattle.certificate.specs.Cert.{Cert}
use Rattle.side_by_side.specs.declared.side.Compared.TheVariants.{Goals, Bounds}
use Rattle.side_by_side.specs.declared.frame.Frame.{Frame}
use Rattle.side_by_side.specs.declared.joining.Joining.{Joining}
use Rattle.side_by_side.specs.Joined.{IsBest}
use Rattle.side_by_side.specs.Faults.{IsNodeAt}
use Rattle.side_by_side.specs.Found.{IsFound, goal_of, number_at, side_at}
use Rattle.side_by_side.specs.Left.{left_of}
use Rattle.side_by_side.specs.Steps.{FindsLeader, IsFewer, IsHereOf, IsStep, KnowsBest, work_of}
use Rattle.side_by_side.proofs.Places.{best_held}
use Rattle.side_by_side.proofs.Here.{best_above, best_own, leader_found, no_branch}
use Rattle.side_by_side.proofs.OnePlace.{has_leaf, held_here, here_choice, somebody}

module _ (j : Joining) (frame : Frame) (at : IsHereOf j frame) where
  abbrev FoundGoal : Option ℕ → Type 0
  FoundGoal = IsFound (length j.certs.now) (number_at j.certs.now j.sides.items (length j.frames.items) Goals) (goal_of at.group.above)

  -- one that stands there, once it was judged
  pub own_leaf : (k : ℕ) → FoundGoal (Some k)
      → (leaf : Leaf) × IsBest (length j.certs.now) at.group.above at.group.at (Some leaf)
      × IsNodeAt j.instance.now j.certs.now k (side_at j.sides.items k).passed (bare j.walk.choice) (node.Leaf leaf)
  own_leaf k found = best_own j.instance.now j.certs.now j.walk j.sides.items j.frames.items frame j.nodes.items at k found

  pub knows_own : (k : ℕ) (leaf : Leaf) → IsBest (length j.certs.now) at.group.above at.group.at (Some leaf)
      → IsNodeAt j.instance.now j.certs.now k (side_at j.sides.items k).passed (bare j.walk.choice) (node.Leaf leaf)
      → ClosesLeaf j.instance.now (bare j.walk.choice) leaf
      → KnowsBest j frame at (Some (record { certificate = k; node = (side_at j.sides.items k).passed })) true
  knows_own k leaf best there closes = record {
    best = Some leaf;
    is = best;
    spot_is = (leaf, refl, has_leaf j.instance.now j.certs.now k (side_at j.sides.items k).passed (bare j.walk.choice) leaf there);
    held =
        best_held j.instance.now (bare j.walk.choice) at.group.above (Some leaf)
        (here_choice j.instance.now j.certs.now j.walk j.sides.items j.frames.items frame j.nodes.items at)
        (held_here j.instance.now j.certs.now j.walk j.sides.items j.frames.items frame j.nodes.items at) (inr (leaf, refl, closes));
    closes = λ judged own is.
        let one : Some leaf ≡ Some own = is in
        let same : leaf ≡ own = cc in
        subst (ClosesLeaf j.instance.now (bare j.walk.choice)) same closes;
  }

  -- the one from above
  pub knows_above : FoundGoal None → KnowsBest j frame at frame.above false
  knows_above found = record {
    best = at.group.above;
    is = best_above j.instance.now j.certs.now j.walk j.sides.items j.frames.items frame j.nodes.items at found;
    spot_is = at.frame_is.above;
    held = held_here j.instance.now j.certs.now j.walk j.sides.items j.frames.items frame j.nodes.items at;
    closes = λ judged own is. let bad : false ≡ true = judged in cc;
  }

  pub finds_leader : (leads : Option ℕ)
      → IsFound (length j.certs.now) (number_at j.certs.now j.sides.items (length j.frames.items) Bounds) None leads → FindsLeader j frame at leads
  finds_leader None found = no_branch j.instance.now j.certs.now j.walk j.sides.items j.frames.items frame j.nodes.items at found
  finds_leader (Some k) found =
      let led = leader_found j.instance.now j.certs.now j.walk j.sides.items j.frames.items frame j.nodes.items at k found in
      record { branch = led.0; leads = led.1; number_is = led.2 }

  -- there is a best leaf, where no branch leads
  pub no_end : (judged : Bool) → KnowsBest j frame at None judged → FindsLeader j frame at None → ⊥
  no_end judged known no_leader =
      somebody j.instance.now j.certs.now j.walk j.sides.items j.frames.items frame j.nodes.items at
      (subst (IsBest (length j.certs.now) at.group.above at.group.at) known.spot_is known.is) no_leader

-- less is left to do behind a place
pub less_work : (old new : Joining) → IsStep old new → IsFewer old new → work_of new ≤ work_of old
less_work old new step fewer =
    let certs : new.certs.now ≡ old.certs.now = rw step.certs refl in
    let same : left_of new.certs.now new.sides.items (length new.certs.now) ≡ left_of old.certs.now new.sides.items (length old.certs.now) =
    ap (λ (cs : List Cert). left_of cs new.sides.items (length cs)) certs in
    omega (arith, same, fewer.left, fewer.frames)

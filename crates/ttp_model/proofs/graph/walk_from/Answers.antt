use Rattle.std.proofs.Common.{◌≡◌, ◌+◌, ◌-◌, ◌<◌, [], length, drop, slice_index, arith}
use Rattle.std.proofs.lemmas.Grind.{common_steps}
use Rattle.ttp_model.proofs.Paths.{IsPath_start, IsPath_step, count_path_step, first_below, IsClosedWalk_from, HasNoRepeats_from}
use Rattle.ttp_model.proofs.graph.walk_from.Goals as goal

pub loop-path-init : goal.loop-path-init
loop-path-init c =
    let none : c.new-path.result.items ≡ [] = c.new-path.ensures.items in
    let zeros = c.in_ok-places.ensures in
    rw none (IsPath_start _ _ _ _ c.requires.inside c.requires.no_turn zeros.length zeros.zeros, omega (arith, zeros.all))

pub loop-path-preserved : goal.loop-path-preserved
loop-path-preserved c =
    let h = c.loop-path.invariant in
    let inside : c.loop-path.at < length c.loop-path.places.items = omega (arith, h.0.inside, h.0.places_length) in
    let zero : slice_index c.loop-path.places.items c.loop-path.at ≡ 0 = grind (arith, common_steps) in
    let long : c.len.result ≡ length c.loop-path.path.items + 1 = omega (arith, c.len.ensures, c.in_ok-push.ensures.len, c.loop-path.path.ok.0) in
    let next = c.next_stuck-at.ensures in
    rw (c.in_ok-push.ensures.items, long) (IsPath_step _ _ _ _ _ _ h.0 zero next.leads next.no_turn next.inside, count_path_step _ _ _ _ inside zero h.1)

pub slice_bounds-from_slice-count : goal.slice_bounds-from_slice-count
slice_bounds-from_slice-count c =
    let h = c.loop-path.invariant in
    let inside : c.loop-path.at < length c.loop-path.places.items = omega (arith, h.0.inside, h.0.places_length) in
    let seen : slice_index c.loop-path.places.items c.loop-path.at ≡ c.index-2.result.now - 1 + 1 = grind (arith, common_steps) in
    omega (arith, c.as_slice.ensures.len, c.loop-path.path.ok.0, first_below _ _ _ _ _ _ h.0 seen)

pub returns-clause-walk : goal.returns-clause-walk
returns-clause-walk c =
    let h = c.loop-path.invariant in
    let inside : c.loop-path.at < length c.loop-path.places.items = omega (arith, h.0.inside, h.0.places_length) in
    let seen : slice_index c.loop-path.places.items c.loop-path.at ≡ c.index-2.result.now - 1 + 1 = grind (arith, common_steps) in
    let items : c.in_ok-walk.walk.items ≡ drop (c.index-2.result.now - 1) c.loop-path.path.items = grind (arith, common_steps) in
    rw items (IsClosedWalk_from _ _ _ _ _ _ h.0 seen)

pub returns-clause-once : goal.returns-clause-once
returns-clause-once c =
    let h = c.loop-path.invariant in
    let inside : c.loop-path.at < length c.loop-path.places.items = omega (arith, h.0.inside, h.0.places_length) in
    let seen : slice_index c.loop-path.places.items c.loop-path.at ≡ c.index-2.result.now - 1 + 1 = grind (arith, common_steps) in
    let items : c.in_ok-walk.walk.items ≡ drop (c.index-2.result.now - 1) c.loop-path.path.items = grind (arith, common_steps) in
    rw items (HasNoRepeats_from _ _ _ _ _ _ h.0 seen)

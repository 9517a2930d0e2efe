use Rattle.std.proofs.Common.{◌≡◌, ◌<◌, ◌-◌, [], ◌∷◌, ◌++◌, List, length, arith, sym, ap, subst, ◌∙◌}
use Rattle.std.proofs.lemmas.List.{length-append}
use Rattle.certificate.specs.declared.node.Node.TheVariants as node
use Rattle.side_by_side.specs.declared.side.Side.{Side}
use Rattle.side_by_side.specs.declared.frame.Frame.{Frame}
use Rattle.side_by_side.specs.Left.{left_of}
use Rattle.side_by_side.proofs.Here.{may_be_passed}
use Rattle.side_by_side.proofs.OnePlace.{joining_alike, leaf_fewer, leaf_step, written_back}
use Rattle.side_by_side.proofs.joining.Joining.stand_as.Goals as goal

pub pass_all-requires-clause-may : goal.pass_all-requires-clause-may
pass_all-requires-clause-may c =
    let j = c.args.self.now in
    rw (c.as_slice-depth.ensures.value, c.as_mut_slice.ensures.value)
    (may_be_passed j.instance.now j.certs.now j.walk j.sides.items j.frames.items c.args.frame j.nodes.items c.requires.0)

pub returns-clause-joining : goal.returns-clause-joining
returns-clause-joining c =
    let j = c.args.self.now in
    let i = j.instance.now in
    let certs = j.certs.now in
    let sides = j.sides.items in
    let frames = j.frames.items in
    let f = c.args.frame in
    let at = c.requires.0 in
    let here = c.args.leaf in
    let passed = rw (c.as_slice-depth.ensures.value, c.as_mut_slice.ensures.value, c.as_slice-2.ensures.value) at c.pass_all.ensures in
    let follow = c.in_ok-flags.ensures.each in
    let less : Frame = record { due = f.due - 1; above = f.above } in
    let frames_are : c.push.new.self.items ≡ frames ++ less ∷ [] = c.in_ok-push.ensures.items ∙ ap (λ (g : Frame). frames ++ g ∷ []) c.less.ensures in
    let sides_are = written_back j.sides.len sides c.pass_all.new.sides passed.count (omega (arith, j.sides.ok.0)) in
    joining_alike i certs j.walk c.pass_all.new.sides _ (frames ++ less ∷ []) c.push.new.self.items (j.nodes.items ++ node.Leaf here ∷ [])
    c.push-2.new.self.items sides_are frames_are c.in_ok-push-2.ensures.items
    (leaf_step i certs j.walk sides frames f j.nodes.items at c.pass_all.new.sides c.in_ok-flags.flags.items passed c.requires.1 here c.requires.2
    c.requires.3 c.requires.4 follow)

pub returns-clause-fewer : goal.returns-clause-fewer
returns-clause-fewer c =
    let j = c.args.self.now in
    let i = j.instance.now in
    let certs = j.certs.now in
    let sides = j.sides.items in
    let frames = j.frames.items in
    let passed = rw (c.as_slice-depth.ensures.value, c.as_mut_slice.ensures.value, c.as_slice-2.ensures.value) at c.pass_all.ensures in
    let follow = c.in_ok-flags.ensures.each in
    let sides_are = written_back j.sides.len sides c.pass_all.new.sides passed.count (omega (arith, j.sides.ok.0)) in
    record {
      left =
          subst (λ (ss : List Side). left_of certs ss (length certs) < left_of certs sides (length certs)) (sym sides_are)
          (leaf_fewer i certs j.walk sides frames c.args.frame j.nodes.items c.requires.0 c.pass_all.new.sides c.in_ok-flags.flags.items passed follow);
      frames = omega (arith, ap length c.in_ok-push.ensures.items, length-append frames (c.less.result ∷ []));
    }

use Rattle.std.proofs.Common.{◌≡◌, ◌<◌, ◌-◌, [], ◌∷◌, ◌++◌, ℕ, List, length, arith, sym, ap, subst, ◌∙◌}
use Rattle.std.proofs.lemmas.List.{length-append}
use Rattle.tt_choice.specs.Choice.{bare}
use Rattle.tt_choice.specs.Branches.{IsBranch}
use Rattle.certificate.specs.declared.branch.Branch.{Branch}
use Rattle.certificate.specs.declared.node.Node.TheVariants as node
use Rattle.tree_check.specs.Seen.{TellsBranch}
use Rattle.side_by_side.specs.declared.side.Side.{Side}
use Rattle.side_by_side.specs.declared.frame.Frame.{Frame}
use Rattle.side_by_side.specs.Faults.{IsNodeAt}
use Rattle.side_by_side.specs.Found.{side_at}
use Rattle.side_by_side.specs.Left.{left_of}
use Rattle.side_by_side.specs.Passing.{all_choices}
use Rattle.side_by_side.proofs.Here.{may_be_passed}
use Rattle.side_by_side.proofs.OnePlace.{branch_fewer, branch_step, has_branch, joining_alike, leader_node, tells_branch, written_back}
use Rattle.side_by_side.proofs.joining.Joining.lead.Goals as goal

pub branch_at-branch-requires : goal.branch_at-branch-requires
branch_at-branch-requires c =
    let j = c.args.self.now in
    let i = j.instance.now in
    let led = c.requires.3 in
    let placed = c.passed_of-place.ensures ∙ ap (λ (ss : List Side). (side_at ss c.args.k).passed) c.as_slice.ensures.value in
    let there = leader_node i j.certs.now j.walk j.sides.items j.frames.items c.args.frame j.nodes.items c.requires.0 led.branch led.leads c.args.k led.number_is in
    let own = subst (λ (p : ℕ). IsNodeAt i j.certs.now c.args.k p (bare j.walk.choice) (node.Branch led.branch)) (sym placed) there in
    (led.branch, has_branch i j.certs.now c.args.k c.passed_of-place.result (bare j.walk.choice) led.branch own)

pub told-requires : goal.told-requires
told-requires c =
    let j = c.args.self.now in
    let i = j.instance.now in
    let ch = bare j.walk.choice in
    let led = c.requires.3 in
    let placed = c.passed_of-place.ensures ∙ ap (λ (ss : List Side). (side_at ss c.args.k).passed) c.as_slice.ensures.value in
    let there = leader_node i j.certs.now j.walk j.sides.items j.frames.items c.args.frame j.nodes.items c.requires.0 led.branch led.leads c.args.k led.number_is in
    let own = subst (λ (p : ℕ). IsNodeAt i j.certs.now c.args.k p ch (node.Branch led.branch)) (sym placed) there in
    let same = c.branch_at-branch.ensures led.branch (has_branch i j.certs.now c.args.k c.passed_of-place.result ch led.branch own) in
    let tells = subst (λ (b : Branch). TellsBranch i ch b 0 c.in_Err-self.fault) same c.in_Err-self.ensures.err in
    (i, ch, tells_branch i j.certs.now c.args.k c.passed_of-place.result ch led.branch c.in_Err-self.fault own tells)

pub returns-in_Err-self-clause-fault : goal.returns-in_Err-self-clause-fault
returns-in_Err-self-clause-fault c =
    let j = c.args.self.now in
    let i = j.instance.now in
    let ch = bare j.walk.choice in
    let led = c.requires.3 in
    let placed = c.passed_of-place.ensures ∙ ap (λ (ss : List Side). (side_at ss c.args.k).passed) c.as_slice.ensures.value in
    let there = leader_node i j.certs.now j.walk j.sides.items j.frames.items c.args.frame j.nodes.items c.requires.0 led.branch led.leads c.args.k led.number_is in
    let own = subst (λ (p : ℕ). IsNodeAt i j.certs.now c.args.k p ch (node.Branch led.branch)) (sym placed) there in
    let same = c.branch_at-branch.ensures led.branch (has_branch i j.certs.now c.args.k c.passed_of-place.result ch led.branch own) in
    let tells = subst (λ (b : Branch). TellsBranch i ch b 0 c.in_Err-self.fault) same c.in_Err-self.ensures.err in
    c.told.ensures i ch (tells_branch i j.certs.now c.args.k c.passed_of-place.result ch led.branch c.in_Err-self.fault own tells)

pub pass_all-requires-clause-may : goal.pass_all-requires-clause-may
pass_all-requires-clause-may c =
    let j = c.args.self.now in
    rw (c.as_slice-depth.ensures.value, c.as_mut_slice.ensures.value)
    (may_be_passed j.instance.now j.certs.now j.walk j.sides.items j.frames.items c.args.frame j.nodes.items c.requires.0)

pub returns-clause-joining : goal.returns-clause-joining
returns-clause-joining c =
    let j = c.args.self.now in
    let i = j.instance.now in
    let certs = j.certs.now in
    let sides = j.sides.items in
    let frames = j.frames.items in
    let f = c.args.frame in
    let ch = bare j.walk.choice in
    let at = c.requires.0 in
    let known = c.requires.2 in
    let led = c.requires.3 in
    let branch = led.branch in
    let placed = c.passed_of-place.ensures ∙ ap (λ (ss : List Side). (side_at ss c.args.k).passed) c.as_slice.ensures.value in
    let there = leader_node i certs j.walk sides frames f j.nodes.items at branch led.leads c.args.k led.number_is in
    let own = subst (λ (p : ℕ). IsNodeAt i certs c.args.k p ch (node.Branch branch)) (sym placed) there in
    let same : c.branch_at-branch.result ≡ branch =
    c.branch_at-branch.ensures branch (has_branch i certs c.args.k c.passed_of-place.result ch branch own) in
    let passed = rw (c.as_slice-depth.ensures.value, c.as_mut_slice.ensures.value, c.as_slice-3.ensures.value) at c.pass_all.ensures in
    let follow = rw (c.as_slice-depth.ensures.value, c.as_slice-2.ensures.value, same) at c.in_ok-flags.ensures.each in
    let suits = subst (λ (b : Branch). IsBranch i ch b.kind b.children) same c.in_Ok-self.ensures.suits in
    let walk = rw same at (c.in_Ok-self.ensures.below (at.choices ++ all_choices at.groups) at.walk_is) in
    let less : Frame = record { due = f.due - 1; above = f.above } in
    let below : Frame = record { due = branch.children; above = c.args.best } in
    let frames_are : c.push-2.new.self.items ≡ (frames ++ less ∷ []) ++ below ∷ [] =
    c.in_ok-push-2.ensures.items
    ∙ (ap (λ (fs : List Frame). fs ++ record { due = c.branch_at-branch.result.children; above = c.args.best } ∷ [])
    (c.in_ok-push.ensures.items ∙ ap (λ (g : Frame). frames ++ g ∷ []) c.less.ensures)
    ∙ ap (λ (b : Branch). (frames ++ less ∷ []) ++ record { due = b.children; above = c.args.best } ∷ []) same) in
    let nodes_are = c.in_ok-push-3.ensures.items ∙ ap (λ (b : Branch). j.nodes.items ++ node.Branch b ∷ []) same in
    let sides_are = written_back j.sides.len sides c.pass_all.new.sides passed.count (omega (arith, j.sides.ok.0)) in
    joining_alike i certs c.branch-self.new.self c.pass_all.new.sides _ ((frames ++ less ∷ []) ++ below ∷ []) c.push-2.new.self.items
    (j.nodes.items ++ node.Branch branch ∷ []) c.push-3.new.self.items sides_are frames_are nodes_are
    (branch_step i certs j.walk sides frames f j.nodes.items at c.pass_all.new.sides c.in_ok-flags.flags.items passed branch known.best c.args.best
    c.branch-self.new.self led.leads known.is suits known.held known.spot_is walk follow)

pub returns-clause-fewer : goal.returns-clause-fewer
returns-clause-fewer c =
    let j = c.args.self.now in
    let i = j.instance.now in
    let certs = j.certs.now in
    let sides = j.sides.items in
    let frames = j.frames.items in
    let f = c.args.frame in
    let ch = bare j.walk.choice in
    let at = c.requires.0 in
    let led = c.requires.3 in
    let branch = led.branch in
    let placed = c.passed_of-place.ensures ∙ ap (λ (ss : List Side). (side_at ss c.args.k).passed) c.as_slice.ensures.value in
    let there = leader_node i certs j.walk sides frames f j.nodes.items at branch led.leads c.args.k led.number_is in
    let own = subst (λ (p : ℕ). IsNodeAt i certs c.args.k p ch (node.Branch branch)) (sym placed) there in
    let same : c.branch_at-branch.result ≡ branch =
    c.branch_at-branch.ensures branch (has_branch i certs c.args.k c.passed_of-place.result ch branch own) in
    let passed = rw (c.as_slice-depth.ensures.value, c.as_mut_slice.ensures.value, c.as_slice-3.ensures.value) at c.pass_all.ensures in
    let follow = rw (c.as_slice-depth.ensures.value, c.as_slice-2.ensures.value, same) at c.in_ok-flags.ensures.each in
    let sides_are = written_back j.sides.len sides c.pass_all.new.sides passed.count (omega (arith, j.sides.ok.0)) in
    record {
      left =
          subst (λ (ss : List Side). left_of certs ss (length certs) < left_of certs sides (length certs)) (sym sides_are)
          (branch_fewer i certs j.walk sides frames f j.nodes.items at c.pass_all.new.sides c.in_ok-flags.flags.items passed branch follow);
      frames =
          omega (
            arith,
            ap length c.in_ok-push-2.ensures.items,
            ap length c.in_ok-push.ensures.items,
            length-append frames (c.less.result ∷ []),
            length-append c.push.new.self.items (record { due = c.branch_at-branch.result.children; above = c.args.best } ∷ []),
          );
    }

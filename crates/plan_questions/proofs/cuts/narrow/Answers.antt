use Rattle.std.proofs.Common.{arith, refl}
use Rattle.plan_questions.proofs.Halves.{known_absent, known_found, rules_half_way}
use Rattle.plan_questions.proofs.cuts.narrow.Goals as goal

pub any_at-requires-clause-rules : goal.any_at-requires-clause-rules
any_at-requires-clause-rules g c =
    λ κs alive. rw c.middle-number.ensures (rules_half_way (g.C.Cut.cutting c.args.cut.now) c.args.asking.now.options c.requires.cutting c.args.known.now c.requires.known)

pub returns-in-Found-clause-known : goal.returns-in-Found-clause-known
returns-in-Found-clause-known g c =
    (known_found (g.C.Cut.cutting c.args.cut.now) c.args.asking.now.options c.requires.cutting c.args.known.now c.requires.known c.middle-number.result _
    c.in-Found.plan (rw c.in-Found.is at c.in_ok-plan.ensures).0 refl refl c.measured-known.ensures refl).0

pub returns-in-Found-clause-closer : goal.returns-in-Found-clause-closer
returns-in-Found-clause-closer g c =
    let found = known_found (g.C.Cut.cutting c.args.cut.now) c.args.asking.now.options c.requires.cutting c.args.known.now c.requires.known c.middle-number.result _
    c.in-Found.plan (rw c.in-Found.is at c.in_ok-plan.ensures).0 refl refl c.measured-known.ensures refl in
    omega (arith, found.1, c.middle-number.ensures, c.requires.apart)

pub returns-in-Absent-clause-known : goal.returns-in-Absent-clause-known
returns-in-Absent-clause-known g c =
    let sought = rw c.in-Absent.is at c.in_ok-plan.ensures in
    known_absent (g.C.Cut.cutting c.args.cut.now) c.args.asking.now.options c.requires.cutting c.args.known.now c.requires.known c.middle-number.result _
    c.in-Absent.cert sought (omega (arith, c.middle-number.ensures)) refl

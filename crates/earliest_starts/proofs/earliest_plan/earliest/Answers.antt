use Rattle.earliest_starts.specs.declared.clash.Clash.TheVariants.{Cycle}
use Rattle.earliest_starts.proofs.Sound.{IsBarren-clash}
use Rattle.earliest_starts.proofs.earliest_plan.earliest.Goals as goal

pub returns-in-Some : goal.returns-in-Some
returns-in-Some c =
    let i = c.args.instance.now in
    let ring = c.in-Some.ensures.found in
    rw (c.new.ensures, c.in_ok-two.ensures.items) (ring, IsBarren-clash _ _ (Cycle _) c.processes-processes.ensures.instance c.requires.of c.requires.complete ring)

pub returns-in-Some-disorder : goal.returns-in-Some-disorder
returns-in-Some-disorder c = (c.in_ok-ring.ensures, IsBarren-clash _ _ (Cycle c.in_ok-ring.ring) c.processes-processes.ensures.instance c.requires.of c.requires.complete c.in_ok-ring.ensures)

use Rattle.earliest_starts.specs.declared.clash.Clash.TheVariants.{Round, Window, Frame}
use Rattle.earliest_starts.proofs.Sound.{IsBarren-clash}
use Rattle.earliest_starts.proofs.Made.{own_caps, IsEarliest-found, MissesSlot-late}
use Rattle.earliest_starts.proofs.earliest_plan.timed.Goals as goal

pub of-layout-requires-clause-capacities : goal.of-layout-requires-clause-capacities
of-layout-requires-clause-capacities c = rw (c.as_slice.ensures.value, c.in_ok-caps.ensures) (own_caps _ _ c.processes-count.ensures.instance c.requires.of c.requires.complete)

pub returns-in-Some : goal.returns-in-Some
returns-in-Some c = (c.in-Some.ensures.found, IsBarren-clash _ _ (Window c.in-Some.p) c.processes-count.ensures.instance c.requires.of c.requires.complete c.in-Some.ensures.found)

pub late_message-requires-clause-all : goal.late_message-requires-clause-all
late_message-requires-clause-all c = rw c.as_slice-3.ensures.value c.settle.ensures.all

pub returns-in-Some-late_message : goal.returns-in-Some-late_message
returns-in-Some-late_message c =
    let late = rw c.as_slice-3.ensures.value at c.in-Some-late_message.ensures.found in
    let misses = MissesSlot-late _ _ c.in_ok-floors.floors.items c.settle.new.starts.items c.processes-count.ensures.instance c.requires.of c.requires.complete c.requires.links c.in_ok-floors.ensures c.settle.ensures.all (rw c.as_slice-2.ensures.value at c.in_default.ensures.none) c.in-Some-late_message.m late.0 late.1 in
    (misses, IsBarren-clash _ _ (Round c.in-Some-late_message.m) c.processes-count.ensures.instance c.requires.of c.requires.complete misses)

pub returns-in-Some-2 : goal.returns-in-Some-2
returns-in-Some-2 c = let over = rw c.in-Some-2.is at c.in_ok-n.ensures.found in (over, IsBarren-clash _ _ (Frame c.in-Some-2.n c.in-Some-2.r c.in-Some-2.k) c.processes-count.ensures.instance c.requires.of c.requires.complete over)

pub made-requires-clause-all : goal.made-requires-clause-all
made-requires-clause-all c = c.settle.ensures.all

pub returns : goal.returns
returns c = rw c.in_ok-plan.ensures.plan (IsEarliest-found _ _ c.in_ok-floors.floors.items c.settle.new.starts.items c.processes-count.ensures.instance c.requires.of c.requires.complete c.requires.links c.in_ok-floors.ensures c.settle.ensures.all (rw c.as_slice-2.ensures.value at c.in_default.ensures.none) (rw c.as_slice-3.ensures.value at c.in_default-late_message.ensures.none) (rw c.in_default-2.is at c.in_ok-n.ensures.none), c.in_ok-plan.ensures.ticks)

use Rattle.std.proofs.Common.{◌≡◌}
use Rattle.tt_infer.proofs.AddedFacts.{adds_none}
use Rattle.tt_infer.proofs.read_facts.add_source.Goals as goal

pub returns-in-Learnt : goal.returns-in-Learnt
returns-in-Learnt c = rw c.in-Learnt.is (λ there. c.add.ensures)

pub returns-in-Fixed : goal.returns-in-Fixed
returns-in-Fixed c = rw c.in-Fixed.is (λ there. adds_none (λ fact. ⊥) _ (λ fact is. is))

pub returns-in-Waits : goal.returns-in-Waits
returns-in-Waits c = rw c.in-Waits.is c.add_settled.ensures

pub returns-in-Circle : goal.returns-in-Circle
returns-in-Circle c =
    let orders = rw (c.instance.ensures.value, c.as_slice.ensures.value) at c.add_ring.ensures in
    rw c.in-Circle.is (λ there. orders)

pub returns-in-Runs : goal.returns-in-Runs
returns-in-Runs c = rw c.in-Runs.is (λ there. c.add_load.ensures)

pub returns-in-Frames : goal.returns-in-Frames
returns-in-Frames c = rw c.in-Frames.is (λ there. c.add_frames.ensures)

pub returns-in-Halves : goal.returns-in-Halves
returns-in-Halves c = rw c.in-Halves.is (λ there. c.add_channel.ensures)

pub returns-in-Earlier : goal.returns-in-Earlier
returns-in-Earlier c = rw c.in-Earlier.is c.add_late.ensures

pub returns-in-Lower : goal.returns-in-Lower
returns-in-Lower c = rw c.in-Lower.is c.add_mirror.ensures

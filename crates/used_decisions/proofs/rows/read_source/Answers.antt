use Rattle.used_decisions.proofs.OrdersRead.{ring_read}
use Rattle.used_decisions.proofs.RowsRead.{fact_read, limit_read, load_read}
use Rattle.used_decisions.proofs.Tells.{more_none}
use Rattle.used_decisions.proofs.rows.read_source.Goals as goal

pub returns-in-Learnt : goal.returns-in-Learnt
returns-in-Learnt c =
    rw c.in-Learnt.is (record {
      more = c.read_fact.ensures.more;
      told = λ read. fact_read c.args.path.now c.args.given.now c.read_fact.new.uses c.in-Learnt.fact (c.read_fact.ensures.told read);
    })

pub returns-in-Fixed : goal.returns-in-Fixed
returns-in-Fixed c =
    rw c.in-Fixed.is (record {
      more = c.read_limit.ensures.more;
      told = λ read. limit_read c.args.path.now c.args.given.now c.read_limit.new.uses c.in-Fixed.limit (c.read_limit.ensures.told read);
    })

pub returns-in-Waits : goal.returns-in-Waits
returns-in-Waits c = rw c.in-Waits.is (record { more = c.settled.ensures.more; told = c.settled.ensures.told })

pub returns-in-Circle : goal.returns-in-Circle
returns-in-Circle c =
    rw c.in-Circle.is (record {
      more = c.ring.ensures.more;
      told = λ read. ring_read c.args.path.now c.args.given.now c.ring.new.uses _ (rw c.as_slice.ensures.value at (c.ring.ensures.told read));
    })

pub returns-in-Runs : goal.returns-in-Runs
returns-in-Runs c =
    rw c.in-Runs.is (record {
      more = more_none c.args.uses.now;
      told = λ read. load_read c.args.path.now c.args.given.now c.args.uses.now c.in-Runs.field-0 c.in-Runs.field-1 c.in-Runs.field-2;
    })

pub returns-in-Frames : goal.returns-in-Frames
returns-in-Frames c = rw c.in-Frames.is (record { more = c.frames.ensures.more; told = c.frames.ensures.told })

pub returns-in-Halves : goal.returns-in-Halves
returns-in-Halves c = rw c.in-Halves.is (record { more = c.halves.ensures.more; told = c.halves.ensures.told })

pub returns-in-Earlier : goal.returns-in-Earlier
returns-in-Earlier c = rw c.in-Earlier.is (record { more = c.late.ensures.more; told = c.late.ensures.told })

pub returns-in-Lower : goal.returns-in-Lower
returns-in-Lower c = rw c.in-Lower.is (record { more = c.mirror.ensures.more; told = c.mirror.ensures.told })

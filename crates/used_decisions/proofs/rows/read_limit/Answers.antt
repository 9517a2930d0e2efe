use Rattle.std.proofs.Common.{ℕ, ◌==◌, length, refl}
use Rattle.ttp_model.specs.Limits.{both_channels}
use Rattle.ttp_model.specs.Plans.{is_on}
use Rattle.tt_choice.specs.Kept.{fixes_above, fixes_below}
use Rattle.used_decisions.proofs.Marked.{told_level}
use Rattle.used_decisions.proofs.OneChannel.{told_channel}
use Rattle.used_decisions.proofs.RowsRead.{place_read}
use Rattle.used_decisions.proofs.Tells.{least_slot_told, greatest_slot_told, more_none}
use Rattle.used_decisions.proofs.rows.read_limit.Goals as goal

pub returns-in-Goal : goal.returns-in-Goal
returns-in-Goal c = rw c.in-Goal.is (record { more = more_none c.args.uses.now; told = λ read there place. tt })

pub returns-in-LeastSlot : goal.returns-in-LeastSlot
returns-in-LeastSlot c =
    let n = c.in-LeastSlot.n in
    rw c.in-LeastSlot.is (record {
      more = c.least_slot.ensures.more;
      told = λ read there place. least_slot_told c.args.path.now c.least_slot.new.self n n refl there c.least_slot.ensures.capacities
          c.least_slot.ensures.front c.least_slot.ensures.all;
    })

pub returns-in-GreatestSlot : goal.returns-in-GreatestSlot
returns-in-GreatestSlot c =
    let n = c.in-GreatestSlot.n in
    rw c.in-GreatestSlot.is (record {
      more = c.greatest_slot.ensures.more;
      told = λ read there place. greatest_slot_told c.args.path.now c.greatest_slot.new.self n n refl there c.greatest_slot.ensures.capacities
          c.greatest_slot.ensures.place;
    })

pub returns-in-LeastFrame : goal.returns-in-LeastFrame
returns-in-LeastFrame c =
    rw c.in-LeastFrame.is (record {
      more = c.branch-uses.ensures.more;
      told = λ read there place. told_level c.branch-uses.new.self.levels (length c.args.uses.now.levels) (fixes_above c.in-LeastFrame.n)
          c.args.path.now.turns read.room c.above_least.result (c.above_least.ensures there) c.branch-uses.ensures.told;
    })

pub returns-in-GreatestFrame : goal.returns-in-GreatestFrame
returns-in-GreatestFrame c =
    rw c.in-GreatestFrame.is (record {
      more = c.branch-uses-in-GreatestFrame.ensures.more;
      told = λ read there place. told_level c.branch-uses-in-GreatestFrame.new.self.levels (length c.args.uses.now.levels)
          (fixes_below c.args.path.now.instance c.in-GreatestFrame.n) c.args.path.now.turns read.room c.below_most.result (c.below_most.ensures there)
          c.branch-uses-in-GreatestFrame.ensures.told;
    })

pub returns-in-Place : goal.returns-in-Place
returns-in-Place c =
    rw c.in-Place.is (record {
      more = c.place.ensures.more;
      told = λ read there place. place_read c.args.path.now c.place.new.self c.in-Place.v c.place.ensures.told place;
    })

pub returns-in-Copies : goal.returns-in-Copies
returns-in-Copies c =
    rw c.in-Copies.is (record {
      more = c.channel.ensures.more;
      told = λ read there place. told_channel c.args.path.now.instance c.in-Copies.m there c.args.path.now.turns read.are_open c.channel.new.uses.levels
          (λ (k : ℕ). k == both_channels) (c.channel.ensures.told read there);
    })

pub returns-in-Counted : goal.returns-in-Counted
returns-in-Counted c =
    rw c.in-Counted.is (record {
      more = c.channel-in-Counted.ensures.more;
      told = λ read there place. told_channel c.args.path.now.instance c.in-Counted.m there c.args.path.now.turns read.are_open
          c.channel-in-Counted.new.uses.levels (is_on c.in-Counted.field-1) (c.channel-in-Counted.ensures.told read there);
    })

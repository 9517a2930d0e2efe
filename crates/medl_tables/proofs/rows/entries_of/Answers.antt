use Rattle.std.proofs.Common.{◌∙◌, Contains, refl, sym}
use Rattle.std.proofs.lemmas.Bool.{false≢true}
use Rattle.tt_layout.proofs.Ranges.{flat_map-range_with_len_more}
use Rattle.medl_tables.specs.Rows.{entries_on}
use Rattle.medl_tables.proofs.FrameEntries.{entries_of-none}
use Rattle.medl_tables.proofs.rows.entries_of.Goals as goal

pub returns-then-not-sends : goal.returns-then-not-sends
returns-then-not-sends c =
    let silent : ¬ Contains c.args.plan.now.rounds c.args.r = λ has. false≢true (sym c.if-not-sends.true ∙ c.requires.sends.1 has) in
    let none = entries_of-none c.args.instance.now c.args.plan.now c.args.node c.args.n c.args.r c.requires.lengths silent in
    rw (c.new.ensures, c.new-entries.ensures.items, none) refl

pub loop-channel-preserved : goal.loop-channel-preserved
loop-channel-preserved c =
    let shown = entries_on c.args.instance.now c.args.plan.now c.args.node c.args.n c.args.r in
    rw (c.in_ok-push_entries_on.ensures, c.loop-channel.invariant) (flat_map-range_with_len_more shown c.loop-channel.channel)

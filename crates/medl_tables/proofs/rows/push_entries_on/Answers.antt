use Rattle.std.proofs.Common.{◌∙◌, sym, ap, arith}
use Rattle.ttp_model.specs.Plans.{bytes_on}
use Rattle.ttp_model.proofs.Totals.{total_next}
use Rattle.medl_tables.specs.declared.row.Entry.{Entry}
use Rattle.medl_tables.specs.Rows.{entry_of, is_entry}
use Rattle.medl_tables.proofs.FrameEntries.{filter-left, filter-taken}
use Rattle.medl_tables.proofs.rows.push_entries_on.Goals.{then-is_entry+in_ok-push, else-is_entry}
use Rattle.medl_tables.proofs.rows.push_entries_on.Goals as goal

pub loop-m-preserved : goal.loop-m-preserved
loop-m-preserved c =
    let i = c.args.instance.now in
    let plan = c.args.plan.now in
    let m = c.loop-m.m in
    let before = c.args.entries.now.items in
    let now = c.loop-m.entries.items in
    let entry = entry_of i plan c.args.n c.args.r c.args.channel in
    let shows = λ (e : Entry). is_entry i plan c.args.node c.args.n c.args.r c.args.channel e.message in
    let so_far = c.loop-m.invariant.entries in
    let more = total_next (bytes_on i plan c.args.n c.args.r c.args.channel) m in
    record {
      entries = elim c.if-is_entry.branch [
        | then-is_entry+in_ok-push w ↦
            let passes = sym c.is_entry.ensures ∙ w.if-is_entry.true in
            rw (w.entries-is, w.in_ok-push.ensures.items) (filter-taken shows entry before now m _ passes
            (ap (λ offset. record { message = m; channel = c.args.channel; offset = offset }) c.loop-m.invariant.offset) so_far)
        | else-is_entry w ↦
            let fails = sym c.is_entry.ensures ∙ w.if-is_entry.false in
            rw w.entries-is (filter-left shows entry before now m fails so_far)
      ];
      offset = omega (arith, c.loop-m.invariant.offset, more, c.bytes_on-offset.ensures.value);
      bound = omega (arith, c.loop-m.invariant.bound, c.bytes_on-offset.ensures.bound);
    }

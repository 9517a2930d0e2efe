use Rattle.std.proofs.Common.{◌<◌, length, arith}
use Rattle.ttp_model.specs.Limits.{most_links}
use Rattle.endless_schedules.proofs.Found.{links_many}
use Rattle.endless_schedules.proofs.links.all_links.Goals as goal

pub returns-then-len-gt-MOST_LINKS-clause-err : goal.returns-then-len-gt-MOST_LINKS-clause-err
returns-then-len-gt-MOST_LINKS-clause-err c =
    let inside : c.loop-l.l < length c.args.rates.now.links = rw c.links-l-end.ensures.value at c.loop-l-test.true in
    let many : most_links < length c.push_links.new.list.items = omega (arith, c.push_links.new.list.ok.0, c.len.ensures, c.if-len-gt-MOST_LINKS.true) in
    links_many c.args.rates.now c.requires.places.few c.loop-l.l c.link_at.result c.loop-l.links.items c.push_links.new.list.items inside
    c.link_at.ensures.value c.loop-l.invariant.0 c.in_ok-push_links.ensures many

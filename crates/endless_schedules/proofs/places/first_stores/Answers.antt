use Rattle.std.proofs.Common.{◌≡◌, ◌∙◌, ◌<◌, ◌+◌, length, arith, sym, ap}
use Rattle.ttp_model.specs.Limits.{most_processes}
use Rattle.rates_model.specs.Rates.{message_at}
use Rattle.endless_schedules.specs.Stores.{first_store, storing_nodes}
use Rattle.endless_schedules.proofs.Counts.{first_store_next, first_store_none}
use Rattle.endless_schedules.proofs.Found.{stores_many, storing_read}
use Rattle.endless_schedules.proofs.Lists.{grown_by}
use Rattle.endless_schedules.proofs.places.first_stores.Goals as goal

pub loop-m-init : goal.loop-m-init
loop-m-init c = record {
  so_far = c.new-first.ensures.items;
  counted = c.requires.jobs ∙ sym (first_store_none c.args.rates.now);
  few = c.requires.few;
}

pub returns-then-stores-count-clause-err : goal.returns-then-stores-count-clause-err
returns-then-stores-count-clause-err c =
    let rho = c.args.rates.now in
    let inside : c.loop-m.m < length rho.messages = rw c.messages-m-end.ensures.value at c.loop-m-test.true in
    let is : c.len-stores.result ≡ length (storing_nodes rho (message_at rho c.loop-m.m)) =
    c.len-stores.ensures ∙ ap length (storing_read rho c.args.storing.now c.requires.storing c.loop-m.m c.index-storing-m.result inside c.index-storing-m.is) in
    let many : most_processes < c.loop-m.count + c.len-stores.result = omega (arith, c.loop-m.invariant.few) in
    stores_many rho c.loop-m.m c.loop-m.count c.len-stores.result inside c.loop-m.invariant.counted is many

pub loop-m-preserved : goal.loop-m-preserved
loop-m-preserved c =
    let rho = c.args.rates.now in
    let inside : c.loop-m.m < length rho.messages = rw c.messages-m-end.ensures.value at c.loop-m-test.true in
    let is : c.len-stores.result ≡ length (storing_nodes rho (message_at rho c.loop-m.m)) =
    c.len-stores.ensures ∙ ap length (storing_read rho c.args.storing.now c.requires.storing c.loop-m.m c.index-storing-m.result inside c.index-storing-m.is) in
    record {
      so_far = c.in_ok-push.ensures.items ∙ grown_by (first_store rho) _ _ c.loop-m.m c.loop-m.invariant.counted c.loop-m.invariant.so_far;
      counted = omega (arith, first_store_next rho c.loop-m.m, c.loop-m.invariant.counted, is);
      few = omega (arith, c.loop-m.invariant.few);
    }

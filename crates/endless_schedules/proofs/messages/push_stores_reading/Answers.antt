use Rattle.std.proofs.Common.{◌≡◌, ◌∙◌, ℕ, ◌+◌, ◌<◌, length, arith, sym, ap}
use Rattle.rates_model.specs.Rates.{message_at}
use Rattle.endless_schedules.specs.Stores.{first_store, storing_nodes}
use Rattle.endless_schedules.proofs.Found.{made_length, sender_jobs, store_read, store_small, storing_read}
use Rattle.endless_schedules.proofs.Lists.{grown_behind}
use Rattle.endless_schedules.proofs.Pieces.{stores_reading_done, stores_reading_none}
use Rattle.endless_schedules.proofs.messages.push_stores_reading.Goals as goal

pub returns-then-k-jobs : goal.returns-then-k-jobs
returns-then-k-jobs c =
    let jobs = sender_jobs c.args.rates.now c.args.m _ c.message_at.ensures.value c.jobs_of-jobs.result c.jobs_of-jobs.ensures.value in
    stores_reading_none c.args.rates.now _ c.args.m c.args.k (λ last. c.if-k-jobs.true (last ∙ sym jobs))

pub index-first-requires : goal.index-first-requires
index-first-requires c =
    let count : length c.args.places.now.first_stores.items ≡ length c.args.rates.now.messages = made_length _ _ _ c.requires.places.stores in
    omega (arith, count, c.args.places.now.first_stores.ok.0, c.requires.inside)

pub overflow_cast-place : goal.overflow_cast-place
overflow_cast-place c =
    let below : c.loop-place.place < length c.index.result.now = omega (arith, c.len-place-end.ensures, c.loop-place-test.true) in
    let small = store_small c.args.rates.now c.args.places.now c.requires.places c.args.m c.index-first.result.now c.requires.inside c.index-first.ensures c.index.result.now c.loop-place.place c.index.ensures below in
    omega (arith, small)

pub overflow_add-first : goal.overflow_add-first
overflow_add-first c =
    let below : c.loop-place.place < length c.index.result.now = omega (arith, c.len-place-end.ensures, c.loop-place-test.true) in
    let small = store_small c.args.rates.now c.args.places.now c.requires.places c.args.m c.index-first.result.now c.requires.inside c.index-first.ensures c.index.result.now c.loop-place.place c.index.ensures below in
    omega (arith, small)

pub loop-place-preserved : goal.loop-place-preserved
loop-place-preserved c =
    let first : c.index-first.result.now ≡ first_store c.args.rates.now c.args.m = store_read c.args.rates.now c.args.places.now c.requires.places c.args.m _ c.requires.inside c.index-first.ensures in
    c.in_ok-push.ensures.items
    ∙ grown_behind (λ (place : ℕ). first_store c.args.rates.now c.args.m + place) _ _ c.loop-place.place (ap (λ (n : ℕ). n + c.loop-place.place) first) _ c.loop-place.invariant

pub returns : goal.returns
returns c =
    let rho = c.args.rates.now in
    let jobs = sender_jobs rho c.args.m _ c.message_at.ensures.value c.jobs_of-jobs.result c.jobs_of-jobs.ensures.value in
    let count : c.len-place-end.result ≡ length (storing_nodes rho (message_at rho c.args.m)) =
    c.len-place-end.ensures ∙ ap length (storing_read rho _ c.requires.places.storing c.args.m c.index.result.now c.requires.inside c.index.ensures) in
    c.loop-place.invariant
    ∙ stores_reading_done rho _ c.args.m c.args.k c.loop-place.place (c.if-k-jobs.false ∙ jobs) (omega (arith, count, c.loop-place-test.false, c.loop-place.auto.place-end))

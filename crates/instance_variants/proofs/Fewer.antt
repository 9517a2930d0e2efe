-- An instance by fewer of its constraints is looser than by more of them.
use Rattle.std.proofs.Common.{◌≡◌, ℕ, ◌<◌, Bool, if◌then◌else◌, List, length, slice_index, arith, refl, sym, ap, ◌∙◌}
use Rattle.std.proofs.lemmas.List.FromFn.{length-map-range_with_len}
use Rattle.ttp_model.specs.declared.error.Place.TheVariants.{AtCluster, AtProcess}
use Rattle.ttp_model.specs.Limits.{most_ticks}
use Rattle.ttp_model.specs.Instance.{Instance, process_at, link_at, message_at}
use Rattle.ttp_model.specs.Network.{indices}
use Rattle.ttp_model.specs.Rules.{IsInstance}
use Rattle.ttp_model.proofs.Indices.{picked}
use Rattle.instance_variants.specs.declared.kept.constraints.Constraints.{Constraints}
use Rattle.ttp_model.specs.Lists.{is_set}
use Rattle.instance_variants.specs.Only.{kept_links, kept_messages, process_of, message_of, only_processes, only_links, only_messages, only}
use Rattle.instance_variants.specs.Fewer.{AreSetAmong, AreAmong}
use Rattle.instance_variants.proofs.Places.{place_inside, places_rising, before, stands_behind, before_rising, picked_more}
use Rattle.instance_variants.specs.Variants.{Variant, IsMessageAsBefore}
use Rattle.instance_variants.proofs.Varied.{both_differ, turned}
use Rattle.instance_variants.proofs.Looser.{IsLooserProcess, IsLooser}
use Rattle.instance_variants.proofs.KeptVariants.{bound_looser, bound_kept, release_looser, both_looser, process_is, link_is, message_is, links_many, messages_many, processes_differ}

-- what fewer constraints keep of what more of them make: a place stands there behind as many as are before it
abbrev pub kept_of : Instance → Constraints → Constraints → Variant
kept_of i fewer more = record {
  horizon = if fewer.horizon then i.cluster.horizon else most_ticks;
  processes = only_processes i fewer;
  links = only_links i fewer;
  messages = only_messages i fewer;
  link_place = λ l. before (is_set more.links) (slice_index (kept_links i fewer) l);
  message_place = λ m. before (is_set more.messages) (slice_index (kept_messages i fewer) m);
}

-- a place that fewer flags pick stands where it did among those that more pick
there_too : (fewer more : List Bool) (count k : ℕ) → AreSetAmong fewer more → k < length (indices (is_set fewer) count) →
    (before (is_set more) (slice_index (indices (is_set fewer) count) k) < length (indices (is_set more) count))
    × (slice_index (indices (is_set more) count) (before (is_set more) (slice_index (indices (is_set fewer) count) k)) ≡ slice_index (indices (is_set fewer) count) k)
there_too fewer more count k among inside =
    let at : ℕ = slice_index (indices (is_set fewer) count) k in
    stands_behind (is_set more) count at (place_inside (is_set fewer) count k inside) (among at (picked (is_set fewer) count k inside))

rising_too : (fewer more : List Bool) (count j k : ℕ) → AreSetAmong fewer more → j < k → k < length (indices (is_set fewer) count) →
    before (is_set more) (slice_index (indices (is_set fewer) count) j) < before (is_set more) (slice_index (indices (is_set fewer) count) k)
rising_too fewer more count j k among less inside =
    let at : ℕ = slice_index (indices (is_set fewer) count) j in
    before_rising (is_set more) at (slice_index (indices (is_set fewer) count) k) (places_rising (is_set fewer) count j k less inside)
    (among at (picked (is_set fewer) count j (omega (arith, less, inside))))

process_looser : (i : Instance) (fewer more : Constraints) (p : ℕ) → IsInstance i → AreAmong fewer more → p < length i.processes →
    IsLooserProcess (process_at (only i more) p) (process_at (only i fewer) p)
process_looser i fewer more p good among inside =
    let one = process_at i p in
    let small = (good.ranges (AtProcess p) inside).deadline in
    rw (process_is i fewer p inside, process_is i more p inside) (record {
      wcet = refl;
      release = release_looser (is_set fewer.releases p) (is_set more.releases p) one.release (among.releases p);
      deadline = bound_looser (is_set fewer.deadlines p) (is_set more.deadlines p) one.deadline most_ticks small (among.deadlines p);
      small = (bound_kept (is_set fewer.deadlines p) one.deadline most_ticks small).1;
    })

link_looser : (i : Instance) (fewer more : Constraints) (l : ℕ) → AreAmong fewer more → l < length (kept_links i fewer) →
    link_at (only i fewer) l ≡ link_at (only i more) (before (is_set more.links) (slice_index (kept_links i fewer) l))
link_looser i fewer more l among inside =
    let there = there_too fewer.links more.links (length i.links) l among.links inside in
    link_is i fewer l inside ∙ sym (link_is i more (before (is_set more.links) (slice_index (kept_links i fewer) l)) there.0 ∙ ap (link_at i) there.1)

message_looser : (i : Instance) (fewer more : Constraints) (m : ℕ) → AreAmong fewer more → m < length (kept_messages i fewer) →
    IsMessageAsBefore (message_at (only i more) (before (is_set more.messages) (slice_index (kept_messages i fewer) m))) (message_at (only i fewer) m)
message_looser i fewer more m among inside =
    let at : ℕ = slice_index (kept_messages i fewer) m in
    let there = there_too fewer.messages more.messages (length i.messages) m among.messages inside in
    let same = message_is i more (before (is_set more.messages) at) there.0 ∙ ap (message_of i more) there.1 in
    rw (message_is i fewer m inside, same) (record {
      name = refl;
      sender = refl;
      receivers = refl;
      bytes = refl;
      both = both_looser (is_set fewer.both at) (is_set more.both at) (message_at i at).both (among.both at);
    })

pub fewer_is_looser : (i : Instance) (fewer more : Constraints) → IsInstance i → AreAmong fewer more → IsLooser (only i more) (kept_of i fewer more)
fewer_is_looser i fewer more good among =
    let small = (good.ranges AtCluster).horizon in
    let links = links_many i fewer in
    let messages = messages_many i fewer in
    let processes = length-map-range_with_len (process_of i more) 0 (length i.processes) in
    record {
      variant = record {
        processes = both_differ (only i more).processes i.processes (only i fewer).processes
            (turned _ _ (processes_differ i more)) (processes_differ i fewer);
        few_links = omega (arith, links, links_many i more, picked_more (is_set fewer.links) (is_set more.links) (length i.links) among.links);
        link_there = λ l inside. omega (arith, links_many i more, (there_too fewer.links more.links (length i.links) l among.links (omega (arith, inside, links))).0);
        link = λ l inside. link_looser i fewer more l among (omega (arith, inside, links));
        few_messages = omega (arith, messages, messages_many i more, picked_more (is_set fewer.messages) (is_set more.messages) (length i.messages) among.messages);
        message_there = λ m inside.
            omega (arith, messages_many i more, (there_too fewer.messages more.messages (length i.messages) m among.messages (omega (arith, inside, messages))).0);
        message = λ m inside. message_looser i fewer more m among (omega (arith, inside, messages));
        rising = λ m l less inside. rising_too fewer.messages more.messages (length i.messages) m l among.messages less (omega (arith, inside, messages));
      };
      horizon = bound_looser fewer.horizon more.horizon i.cluster.horizon most_ticks small among.horizon;
      small = (bound_kept fewer.horizon i.cluster.horizon most_ticks small).1;
      process = λ p inside. process_looser i fewer more p good among (omega (arith, inside, processes));
    }

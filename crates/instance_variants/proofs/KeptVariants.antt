-- An instance by some of its constraints alone is a looser one: looser than the instance, and than the same by more of them.
use Rattle.std.proofs.Common.{◌≡◌, ℕ, ◌<◌, ◌≤◌, Bool, true, false, ◌&&◌, if◌then◌else◌, IsTrue, length, slice_index, arith, refl, sym, ap}
use Rattle.std.proofs.lemmas.Bool.{true≢false}
use Rattle.std.proofs.lemmas.List.{get_or-map, length-map}
use Rattle.std.proofs.lemmas.List.FromFn.{get_or-map-range_with_len, length-map-range_with_len}
use Rattle.ttp_model.specs.declared.error.Place.TheVariants.{AtCluster, AtProcess}
use Rattle.ttp_model.specs.declared.parts.Process.{Process}
use Rattle.ttp_model.specs.Limits.{most_ticks}
use Rattle.ttp_model.specs.Instance.{Instance, no_process, no_link, no_message, process_at, link_at, message_at}
use Rattle.ttp_model.specs.Rules.{IsInstance}
use Rattle.ttp_model.proofs.Indices.{length_indices}
use Rattle.instance_variants.specs.declared.kept.constraints.Constraints.{Constraints}
use Rattle.ttp_model.specs.Lists.{is_set}
use Rattle.instance_variants.specs.Only.{kept_links, kept_messages, process_of, message_of, only_processes, only_links, only_messages, only}
use Rattle.instance_variants.proofs.Places.{place_inside, places_rising}
use Rattle.instance_variants.specs.Variants.{Variant, DifferInTimes, IsMessageAsBefore}
use Rattle.instance_variants.proofs.Looser.{IsLooserProcess, IsLooser}

-- a bound that is kept by fewer is no tighter, and none is tighter than the bound itself
pub bound_kept : (kept : Bool) (bound most : ℕ) → bound ≤ most → (bound ≤ (if kept then bound else most)) × ((if kept then bound else most) ≤ most)
bound_kept true bound most small = (omega arith, small)
bound_kept false bound most small = (small, omega arith)

pub bound_looser : (fewer more : Bool) (bound most : ℕ) → bound ≤ most → (IsTrue fewer → IsTrue more) → (if more then bound else most) ≤ (if fewer then bound else most)
bound_looser true true bound most small among = omega arith
bound_looser true false bound most small among = absurd (true≢false (sym (among refl)))
bound_looser false true bound most small among = small
bound_looser false false bound most small among = omega arith

release_kept : (kept : Bool) (release : ℕ) → (if kept then release else 0) ≤ release
release_kept true release = omega arith
release_kept false release = omega arith

pub release_looser : (fewer more : Bool) (release : ℕ) → (IsTrue fewer → IsTrue more) → (if fewer then release else 0) ≤ (if more then release else 0)
release_looser true true release among = omega arith
release_looser true false release among = absurd (true≢false (sym (among refl)))
release_looser false more release among = omega arith

both_kept : (kept both : Bool) → IsTrue (kept && both) → IsTrue both
both_kept true both is = is
both_kept false both is = absurd (true≢false (sym is))

pub both_looser : (fewer more both : Bool) → (IsTrue fewer → IsTrue more) → IsTrue (fewer && both) → IsTrue (more && both)
both_looser true true both among is = is
both_looser true false both among is = absurd (true≢false (sym (among refl)))
both_looser false more both among is = absurd (true≢false (sym is))

-- the parts of what is kept, by their indices
pub process_is : (i : Instance) (K : Constraints) (p : ℕ) → p < length i.processes → process_at (only i K) p ≡ process_of i K p
process_is i K p inside = get_or-map-range_with_len (process_of i K) 0 (length i.processes) p p no_process inside (omega arith)

pub link_is : (i : Instance) (K : Constraints) (l : ℕ) → l < length (kept_links i K) → link_at (only i K) l ≡ link_at i (slice_index (kept_links i K) l)
link_is i K l inside = get_or-map (link_at i) (kept_links i K) l 0 no_link inside

pub message_is : (i : Instance) (K : Constraints) (m : ℕ) → m < length (kept_messages i K) → message_at (only i K) m ≡ message_of i K (slice_index (kept_messages i K) m)
message_is i K m inside = get_or-map (message_of i K) (kept_messages i K) m 0 no_message inside

pub links_many : (i : Instance) (K : Constraints) → length (only_links i K) ≡ length (kept_links i K)
links_many i K = length-map (kept_links i K) (link_at i)

pub messages_many : (i : Instance) (K : Constraints) → length (only_messages i K) ≡ length (kept_messages i K)
messages_many i K = length-map (kept_messages i K) (message_of i K)

pub processes_differ : (i : Instance) (K : Constraints) → DifferInTimes i.processes (only i K).processes
processes_differ i K = record {
  all = length-map-range_with_len (process_of i K) 0 (length i.processes);
  name = λ p inside. ap (λ (process : Process). process.name) (process_is i K p inside);
  node = λ p inside. ap (λ (process : Process). process.node) (process_is i K p inside);
}

-- what is kept of an instance
abbrev pub kept : Instance → Constraints → Variant
kept i K = record {
  horizon = if K.horizon then i.cluster.horizon else most_ticks;
  processes = only_processes i K;
  links = only_links i K;
  messages = only_messages i K;
  link_place = slice_index (kept_links i K);
  message_place = slice_index (kept_messages i K);
}

process_kept : (i : Instance) (K : Constraints) (p : ℕ) → IsInstance i → p < length i.processes → IsLooserProcess (process_at i p) (process_at (only i K) p)
process_kept i K p good inside =
    let old = (good.ranges (AtProcess p) inside).deadline in
    let kept = bound_kept (is_set K.deadlines p) (process_at i p).deadline most_ticks old in
    rw (process_is i K p inside) (record {
      wcet = refl;
      release = release_kept (is_set K.releases p) (process_at i p).release;
      deadline = kept.0;
      small = kept.1;
    })

message_kept : (i : Instance) (K : Constraints) (m : ℕ) → m < length (kept_messages i K) → IsMessageAsBefore (message_at i (slice_index (kept_messages i K) m)) (message_at (only i K) m)
message_kept i K m inside =
    let at : ℕ = slice_index (kept_messages i K) m in
    rw (message_is i K m inside) (record {
      name = refl;
      sender = refl;
      receivers = refl;
      bytes = refl;
      both = both_kept (is_set K.both at) (message_at i at).both;
    })

pub kept_is_looser : (i : Instance) (K : Constraints) → IsInstance i → IsLooser i (kept i K)
kept_is_looser i K good =
    let horizon = bound_kept K.horizon i.cluster.horizon most_ticks (good.ranges AtCluster).horizon in
    let links = links_many i K in
    let messages = messages_many i K in
    record {
      variant = record {
        processes = processes_differ i K;
        few_links = omega (arith, links, length_indices (is_set K.links) (length i.links));
        link_there = λ l inside. place_inside (is_set K.links) (length i.links) l (omega (arith, inside, links));
        link = λ l inside. link_is i K l (omega (arith, inside, links));
        few_messages = omega (arith, messages, length_indices (is_set K.messages) (length i.messages));
        message_there = λ m inside. place_inside (is_set K.messages) (length i.messages) m (omega (arith, inside, messages));
        message = λ m inside. message_kept i K m (omega (arith, inside, messages));
        rising = λ m l less inside. places_rising (is_set K.messages) (length i.messages) m l less (omega (arith, inside, messages));
      };
      horizon = horizon.0;
      small = horizon.1;
      process = λ p inside. process_kept i K p good inside;
    }

-- All constraints of an instance make the instance itself.
use Rattle.std.proofs.Common.{◌≡◌, ℕ, zero, suc, ◌<◌, ◌≤◌, Bool, true, false, ◌&&◌, if◌then◌else◌, nat_lt, length, map, replicate, arith, refl, sym, ◌∙◌, add-one}
use Rattle.std.specs.List.{range_with_len}
use Rattle.std.proofs.lemmas.List.{get_or-map, get_or-replicate}
use Rattle.std.proofs.lemmas.List.FromFn.{fill_by_all}
use Rattle.ttp_model.specs.declared.error.Place.TheVariants.{AtCluster, AtProcess}
use Rattle.ttp_model.specs.declared.parts.Process.{Process}
use Rattle.ttp_model.specs.Limits.{most_ticks}
use Rattle.ttp_model.specs.Instance.{Instance, no_process, no_link, no_message, process_at, link_at, message_at}
use Rattle.ttp_model.specs.Network.{indices}
use Rattle.ttp_model.specs.Rules.{IsInstance}
use Rattle.ttp_model.proofs.Ranges.{range_more}
use Rattle.instance_variants.specs.Constraints.{has_deadline, has_release, is_on_both, all_of}
use Rattle.ttp_model.specs.Lists.{is_set}
use Rattle.instance_variants.specs.Only.{cluster_with, process_with, process_of, message_of, only_processes, only_links, only_messages, only}
use Rattle.std.proofs.lemmas.Bool.Decides.{nat_tests}
use Rattle.instance_variants.proofs.Places.{one_picked}

bound_whole : (bound most : ℕ) → bound ≤ most → (if nat_lt bound most then bound else most) ≡ bound
bound_whole bound most small = grind (arith, nat_tests)

release_whole : (release : ℕ) → (if nat_lt 0 release then release else 0) ≡ release
release_whole release = grind (arith, nat_tests)

both_whole : (both : Bool) → (both && both) ≡ both
both_whole true = refl
both_whole false = refl

process_whole : (p : Process) → p.deadline ≤ most_ticks → process_with (has_deadline p) (has_release p) p ≡ p
process_whole p small = rw (bound_whole p.deadline most_ticks small, release_whole p.release) refl

processes_whole : (i : Instance) → IsInstance i → only_processes i (all_of i) ≡ i.processes
processes_whole i good = sym (fill_by_all (process_of i (all_of i)) i.processes (length i.processes) no_process refl (λ p inside.
    let deadline : is_set (map has_deadline i.processes) p ≡ has_deadline (process_at i p) = get_or-map has_deadline i.processes p no_process false inside in
    let release : is_set (map has_release i.processes) p ≡ has_release (process_at i p) = get_or-map has_release i.processes p no_process false inside in
    sym (rw (deadline, release) (process_whole (process_at i p) (good.ranges (AtProcess p) inside).deadline))))

-- where each is picked, they are all numbers below the count
all_picked : (test : ℕ → Bool) (count : ℕ) → ((k : ℕ) → k < count → test k ≡ true) → indices test count ≡ range_with_len 0 count
all_picked test zero each = refl
all_picked test (suc count) each =
    let rest = all_picked test count (λ k below. each k (omega (arith, below))) in
    one_picked test count (each count (omega arith)) ∙ rw rest (sym (rw add-one at (range_more count)))

all_set : (count : ℕ) → indices (is_set (replicate count true)) count ≡ range_with_len 0 count
all_set count = all_picked (is_set (replicate count true)) count (λ k below. get_or-replicate count k true false below)

links_whole : (i : Instance) → only_links i (all_of i) ≡ i.links
links_whole i = rw (all_set (length i.links)) (sym (fill_by_all (link_at i) i.links (length i.links) no_link refl (λ l inside. refl)))

messages_whole : (i : Instance) → only_messages i (all_of i) ≡ i.messages
messages_whole i = rw (all_set (length i.messages)) (sym (fill_by_all (message_of i (all_of i)) i.messages (length i.messages) no_message refl (λ m inside.
    let both : is_set (map is_on_both i.messages) m ≡ (message_at i m).both = get_or-map is_on_both i.messages m no_message false inside in
    rw (both, both_whole (message_at i m).both) refl)))

cluster_whole : (i : Instance) → IsInstance i → cluster_with (nat_lt i.cluster.horizon most_ticks) i.cluster ≡ i.cluster
cluster_whole i good = rw (bound_whole i.cluster.horizon most_ticks (good.ranges AtCluster).horizon) refl

pub all_is_whole : (i : Instance) → IsInstance i → only i (all_of i) ≡ i
all_is_whole i good = rw (cluster_whole i good, processes_whole i good, links_whole i, messages_whole i) refl

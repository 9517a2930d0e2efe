-- Rules are kept where each window is left: an instance that differs in times and parts keeps all of them, rule by rule.
use Rattle.std.proofs.Common.{ℕ, ◌+◌, ◌-◌, ◌<◌, length, slice_index, slice_index_or, arith, inl, inr, sym, ◌∙◌}
use Rattle.std.proofs.lemmas.Bool.{false_from_ne_true, true≢false}
use Rattle.ttp_model.specs.declared.error.Place.TheVariants.{AtCluster, AtNode, AtProcess, AtLink, AtMessage}
use Rattle.ttp_model.specs.Instance.{Instance, process_at, link_at, message_at}
use Rattle.ttp_model.specs.Graph.{Leads}
use Rattle.ttp_model.specs.Rules.{IsInstance, IsProcessInRange, KeepsRule, Receivers, Names, NewNames, Indices, Ranges, ReceiversAway, LinkEnds, ReceiversOnce, Cycles, Channels}
use Rattle.instance_variants.specs.Variants.{Variant, varied, own, IsVariant, HasWindows}
use Rattle.instance_variants.proofs.Varied.{inside_old, node_same, source_same}

module _ (i : Instance) (v : Variant) (is : IsVariant i v) (good : IsInstance i) where
  abbrev j : Instance
  j = varied i v

  there : (p : ℕ) → p < length v.processes → p < length i.processes
  there p inside = inside_old i v is p inside

  receivers : KeepsRule j Receivers
  receivers m inside = rw ((is.message m inside).receivers) (good.receivers (v.message_place m) (is.message_there m inside))

  named : KeepsRule j Names
  named AtCluster = tt
  named (AtNode n) = good.names (AtNode n)
  named (AtProcess p) = λ inside. rw (is.processes.name p (there p inside)) (good.names (AtProcess p) (there p inside))
  named (AtLink l) = tt
  named (AtMessage m) = λ inside. rw ((is.message m inside).name) (good.names (AtMessage (v.message_place m)) (is.message_there m inside))

  new_names : KeepsRule j NewNames
  new_names AtCluster = tt
  new_names (AtNode n) = good.new_names (AtNode n)
  new_names (AtProcess p) = λ inside k before.
      rw (is.processes.name p (there p inside), is.processes.name k (omega (arith, before, there p inside)))
      (good.new_names (AtProcess p) (there p inside) k before)
  new_names (AtLink l) = tt
  new_names (AtMessage m) = λ inside k before.
      rw ((is.message m inside).name, (is.message k (omega (arith, before, inside))).name)
      (good.new_names (AtMessage (v.message_place m)) (is.message_there m inside) (v.message_place k) (is.rising k m before inside))

  indexed : KeepsRule j Indices
  indexed AtCluster = tt
  indexed (AtNode n) = tt
  indexed (AtProcess p) = λ inside. rw (is.processes.node p (there p inside)) (good.indices (AtProcess p) (there p inside))
  indexed (AtLink l) = λ inside.
      let old = good.indices (AtLink (v.link_place l)) (is.link_there l inside) in
      rw (is.link l inside) (omega (arith, old.0, is.processes.all), omega (arith, old.1, is.processes.all))
  indexed (AtMessage m) = λ inside.
      let old = good.indices (AtMessage (v.message_place m)) (is.message_there m inside) in
      rw ((is.message m inside).sender, (is.message m inside).receivers, is.processes.all) old

  away : KeepsRule j ReceiversAway
  away m inside = rw (source_same i v is m inside, (is.message m inside).receivers) (λ k past below.
      let q : ℕ = slice_index_or (message_at i (v.message_place m)).receivers k past in
      rw (node_same i v is q) (good.away (v.message_place m) (is.message_there m inside) k past below))

  on_node : KeepsRule j LinkEnds
  on_node l inside =
      let old = good.links (v.link_place l) (is.link_there l inside) in
      let same = is.link l inside in
      let nodes = node_same i v is (link_at i (v.link_place l)).before ∙ old.one_node ∙ sym (node_same i v is (link_at i (v.link_place l)).after) in
      record { two = rw same old.two; one_node = rw same nodes }

  once : KeepsRule j ReceiversOnce
  once m inside = rw ((is.message m inside).receivers) (good.receivers_once (v.message_place m) (is.message_there m inside))

  -- what leads here leads in the other, so no walk is closed
  leads : (p q : ℕ) → Leads j p q → Leads i p q
  leads p q (inl has) = inl (record {
    link = v.link_place has.link;
    is_there = is.link_there has.link has.is_there;
    before = rw (is.link has.link has.is_there) at has.before;
    after = rw (is.link has.link has.is_there) at has.after;
  })
  leads p q (inr has) = inr (record {
    message = v.message_place has.message;
    is_there = is.message_there has.message has.is_there;
    sender = sym (is.message has.message has.is_there).sender ∙ has.sender;
    receiver = rw ((is.message has.message has.is_there).receivers) at has.receiver;
  })

  acyclic : KeepsRule j Cycles
  acyclic ps walk = good.acyclic ps (record {
    some = walk.some;
    each = λ k below. leads (slice_index ps k) (slice_index ps (k + 1)) (walk.each k below);
    closes = leads (slice_index ps (length ps - 1)) (slice_index ps 0) walk.closes;
  })

  on_channels : KeepsRule j Channels
  on_channels m inside alone =
      let old = good.channels (v.message_place m) (is.message_there m inside) alone in
      false_from_ne_true (message_at j m).both (λ both. true≢false (sym ((is.message m inside).both both) ∙ old))

  module _ (has : HasWindows j) where
    process_range : (p : ℕ) → p < length v.processes → IsProcessInRange (process_at j p)
    process_range p inside =
        let least = has.wcet_least p inside in
        let window = has.windows p inside in
        let most = has.deadlines p inside in
        record {
          wcet_least = least;
          wcet = omega (arith, window, most);
          release = omega (arith, window, most);
          deadline_least = omega (arith, least, window);
          deadline = most;
        }

    ranged : KeepsRule j Ranges
    ranged AtCluster =
        let old = good.ranges AtCluster in
        record {
          precision = old.precision;
          lead = old.lead;
          trail = old.trail;
          head_least = old.head_least;
          head = old.head;
          per_byte_least = old.per_byte_least;
          per_byte = old.per_byte;
          copy_out = old.copy_out;
          copy_in = old.copy_in;
          horizon_least = has.horizon_least;
          horizon = has.horizon;
          channels_least = old.channels_least;
          channels = old.channels;
        }
    ranged (AtNode n) = tt
    ranged (AtProcess p) = process_range p
    ranged (AtLink l) = tt
    ranged (AtMessage m) = λ inside. rw ((is.message m inside).bytes) (good.ranges (AtMessage (v.message_place m)) (is.message_there m inside))

    pub rules_varied : IsInstance j
    rules_varied = record {
      limits = record {
        nodes_least = good.limits.nodes_least;
        nodes = good.limits.nodes;
        processes_least = omega (arith, good.limits.processes_least, is.processes.all);
        processes = omega (arith, good.limits.processes, is.processes.all);
        links = omega (arith, good.limits.links, is.few_links);
        messages = omega (arith, good.limits.messages, is.few_messages);
      };
      receivers = receivers;
      names = named;
      new_names = new_names;
      indices = indexed;
      ranges = ranged;
      capacities = good.capacities;
      away = away;
      lead = good.lead;
      trail = good.trail;
      deadlines = has.windows;
      links = on_node;
      receivers_once = once;
      acyclic = acyclic;
      channels = on_channels;
    }

-- each process of an instance has a window
pub own_windows : (i : Instance) → IsInstance i → HasWindows i
own_windows i good = record {
  horizon_least = (good.ranges AtCluster).horizon_least;
  horizon = (good.ranges AtCluster).horizon;
  wcet_least = λ p inside. (good.ranges (AtProcess p) inside).wcet_least;
  windows = good.deadlines;
  deadlines = λ p inside. (good.ranges (AtProcess p) inside).deadline;
}

-- What a text states with each index in 32 bits is what it states, for all that is told of it.
use Rattle.std.proofs.Common.{◌≡◌, ℕ, ◌-◌, ◌<◌, ◌≤◌, ◌^◌, List, [], map, length, Option, None, Some, option_map, Ok, Err, lit<, lit≤, refl, sym, ap, subst, ◌∙◌, arith}
use Rattle.std.specs.Prelude.{min, position}
use Rattle.std.specs.Str.{bytes_eq}
use Rattle.std.proofs.Math.Nat.{min-eq_left}
use Rattle.std.proofs.lemmas.List.{length-map}
use Rattle.std.proofs.lemmas.List.Quantifiers.{position-Some}
use Rattle.toml.specs.Data.{Members}
use Rattle.ttp_model.specs.Instance.{Instance}
use Rattle.ttp_model.specs.Rules.{KeepsLimits, Rule, Lengths, Receivers, Names, NewNames, Indices, Ranges, CapacityLists, ReceiversAway, Lead, Trail, Deadlines, LinkEnds, ReceiversOnce, Cycles, Channels}
use Rattle.ttp_model.specs.Refusals.{IsRefusal, KeepsRulesBefore, rule_number}
use Rattle.ttp_model.specs.declared.error.Part.{Part}
use Rattle.ttp_model.specs.declared.error.Part.TheVariants as part
use Rattle.ttp_model.specs.declared.error.ModelError.{ModelError}
use Rattle.ttp_model.specs.declared.error.ModelError.TheVariants as model
use Rattle.instance_text.specs.declared.error.TextError.{TextError}
use Rattle.instance_text.specs.Kinds.{index_in}
use Rattle.instance_text.specs.Index.{cut_index, cut_index_in}
use Rattle.instance_text.specs.Stated.{stated, stated_by, node_names, process_names}
use Rattle.instance_text.specs.Faults.{IsDocument, IsFaultOfPart, States}
use Rattle.instance_text.proofs.CutLaws.{AreAlike, BothOrNeither, HaveLengths, KnowSame, alike_err, alike_ok, alike_stated, stated_alike}

as_known : (o : Option ℕ) → BothOrNeither (option_map cut_index o) o
as_known None = tt
as_known (Some k) = tt

know_same : (names : List (List ℕ)) → KnowSame (cut_index_in names) (index_in names)
know_same names name = as_known (index_in names name)

alike : (ms : Members) → AreAlike HaveLengths (stated_by cut_index_in ms) (stated ms)
alike ms = alike_stated cut_index_in index_in know_same ms

known_there : (o : Option ℕ) → BothOrNeither o (option_map cut_index o)
known_there None = tt
known_there (Some k) = tt

known_same : (names : List (List ℕ)) → KnowSame (index_in names) (cut_index_in names)
known_same names name = known_there (index_in names name)

-- a fault is the same
pub fault_kept : (ms : Members) (e : TextError) → IsFaultOfPart (stated_by cut_index_in ms) e → IsFaultOfPart (stated ms) e
fault_kept ms e fault other = alike_err HaveLengths (stated_by cut_index_in ms) (stated ms) e (alike ms) (fault other)

-- ---- few names

uncut : (k : ℕ) → k < 2 ^ 16 → cut_index k ≡ k
uncut k lt = min-eq_left (omega arith)

uncut_here : (names : List (List ℕ)) (name : List ℕ) → length names < 2 ^ 16 → (o : Option ℕ) → position (bytes_eq name) names ≡ o → option_map cut_index o ≡ o
uncut_here names name few None e = refl
uncut_here names name few (Some k) e =
    let within = position-Some (bytes_eq name) names k [] e in
    ap (λ (n : ℕ). Some n) (uncut k (omega (arith, few, within.0)))

few_same : (names : List (List ℕ)) → length names < 2 ^ 16 → cut_index_in names ≡ index_in names
few_same names few = λ j. λ name. (uncut_here names name few (position (bytes_eq name) names) refl) j

module _ (i : Instance) (limits : KeepsLimits i) where
  few_nodes : cut_index_in (node_names i.nodes) ≡ index_in (node_names i.nodes)
  few_nodes = few_same (node_names i.nodes) (omega (arith, length-map i.nodes (λ n. n.name), limits.nodes))

  few_processes : cut_index_in (process_names i.processes) ≡ index_in (process_names i.processes)
  few_processes = few_same (process_names i.processes) (omega (arith, length-map i.processes (λ p. p.name), limits.processes))

  -- an instance that keeps its limits is stated either way
  pub stated_uncut : (ms : Members) → stated_by cut_index_in ms ≡ Ok i → stated ms ≡ Ok i
  stated_uncut ms is = stated_alike cut_index_in index_in know_same ms i is few_nodes few_processes

  -- and of these bytes nothing else is
  pub only_stated : (bytes : List ℕ) (ms : Members) (j : Instance) → IsDocument bytes ms → States bytes (Ok i) → stated_by cut_index_in ms ≡ Ok j → i ≡ j
  only_stated bytes ms j document given is =
      let one = given.document.parsed in
      let other = document.parsed in
      let reads = given.reading in
      let back : stated_by cut_index_in given.table ≡ Ok i = stated_alike index_in cut_index_in known_same given.table i reads (sym few_nodes) (sym few_processes) in
      cc

-- ---- refusals

-- no rule goes before the lengths
rule_numbered : (rule : Rule) → 1 ≤ rule_number rule
rule_numbered Lengths = lit≤ tt
rule_numbered Receivers = lit≤ tt
rule_numbered Names = lit≤ tt
rule_numbered NewNames = lit≤ tt
rule_numbered Indices = lit≤ tt
rule_numbered Ranges = lit≤ tt
rule_numbered CapacityLists = lit≤ tt
rule_numbered ReceiversAway = lit≤ tt
rule_numbered Lead = lit≤ tt
rule_numbered Trail = lit≤ tt
rule_numbered Deadlines = lit≤ tt
rule_numbered LinkEnds = lit≤ tt
rule_numbered ReceiversOnce = lit≤ tt
rule_numbered Cycles = lit≤ tt
rule_numbered Channels = lit≤ tt

no_rule_before : (i : Instance) → KeepsRulesBefore i Lengths
no_rule_before i = record { each = λ earlier lt. absurd (omega (arith, rule_numbered earlier, lt)) }

long_too : (list : Part) (j i : Instance) → HaveLengths j i → IsRefusal j (model.Length list) → IsRefusal i (model.Length list)
long_too part.Nodes j i same refusal = (no_rule_before i, rw same.nodes at refusal.1)
long_too part.Processes j i same refusal = (no_rule_before i, rw (same.nodes, same.processes) at refusal.1)
long_too part.Links j i same refusal = (no_rule_before i, rw (same.nodes, same.processes, same.links) at refusal.1)
long_too part.Messages j i same refusal = (no_rule_before i, rw (same.nodes, same.processes, same.links, same.messages) at refusal.1)

module _ (ms : Members) (j : Instance) (is : stated_by cut_index_in ms ≡ Ok j) where
  abbrev IsRefusedToo : ModelError → Type 0
  IsRefusedToo e = (i : Instance) × (stated ms ≡ Ok i) × IsRefusal i e

  limited : (e : ModelError) → IsRefusal j e → KeepsLimits j → IsRefusedToo e
  limited e refusal limits = (j, stated_uncut j limits ms is, refusal)

  -- the instance that the text states is refused for the same
  pub refusal_kept : (e : ModelError) → IsRefusal j e → IsRefusedToo e
  refusal_kept (model.Length list) refusal =
      let other = alike_ok HaveLengths (stated_by cut_index_in ms) (stated ms) j (alike ms) is in
      (other.0, other.1, long_too list j other.0 other.2 refusal)
  refusal_kept (model.NoReceiver m) refusal = limited (model.NoReceiver m) refusal (refusal.0.each Lengths (lit< tt))
  refusal_kept (model.NameForm at) refusal = limited (model.NameForm at) refusal (refusal.0.each Lengths (lit< tt))
  refusal_kept (model.NameRepeated at) refusal = limited (model.NameRepeated at) refusal (refusal.0.each Lengths (lit< tt))
  refusal_kept (model.NoSuchIndex at) refusal = limited (model.NoSuchIndex at) refusal (refusal.0.each Lengths (lit< tt))
  refusal_kept (model.OutOfRange at) refusal = limited (model.OutOfRange at) refusal (refusal.0.each Lengths (lit< tt))
  refusal_kept (model.Capacities n) refusal = limited (model.Capacities n) refusal (refusal.0.each Lengths (lit< tt))
  refusal_kept (model.ReceiverOnSender m) refusal = limited (model.ReceiverOnSender m) refusal (refusal.0.each Lengths (lit< tt))
  refusal_kept model.ShortLead refusal = limited model.ShortLead refusal (refusal.0.each Lengths (lit< tt))
  refusal_kept model.ShortTrail refusal = limited model.ShortTrail refusal (refusal.0.each Lengths (lit< tt))
  refusal_kept (model.Deadline p) refusal = limited (model.Deadline p) refusal (refusal.0.each Lengths (lit< tt))
  refusal_kept (model.LinkAcross l) refusal = limited (model.LinkAcross l) refusal (refusal.0.each Lengths (lit< tt))
  refusal_kept (model.ReceiverTwice m) refusal = limited (model.ReceiverTwice m) refusal (refusal.0.each Lengths (lit< tt))
  refusal_kept (model.Cycle ps) refusal = limited (model.Cycle ps) refusal (refusal.0.each Lengths (lit< tt))
  refusal_kept (model.BothOfOne m) refusal = limited (model.BothOfOne m) refusal (refusal.0.each Lengths (lit< tt))
  refusal_kept model.OutOfMemory refusal = limited model.OutOfMemory refusal (refusal.each Lengths (lit< tt))

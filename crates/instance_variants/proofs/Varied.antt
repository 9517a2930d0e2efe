-- What of an instance is the same in another one that differs in times and parts.
use Rattle.std.proofs.Common.{◌≡◌, ℕ, ◌+◌, ◌<◌, ◌≤◌, List, length, slice_index_or, arith, inl, inr, refl, sym, ap, ◌∙◌}
use Rattle.std.proofs.lemmas.Bool.{cases_lt}
use Rattle.std.proofs.lemmas.List.{get_or_past}
use Rattle.ttp_model.specs.declared.parts.Process.{Process}
use Rattle.ttp_model.specs.declared.plan.Plan.{Plan}
use Rattle.ttp_model.specs.Instance.{Instance, no_process, process_at, message_at, node_of, source_of}
use Rattle.ttp_model.specs.Plans.{start_of, end_of, sent_from, sent_until, bytes_on}
use Rattle.instance_variants.specs.Variants.{Variant, varied, with_times, DifferInTimes, IsNoneLonger, IsVariant, sent_otherwise, AreSentAlike}

pub turned : (old new : List Process) → DifferInTimes old new → DifferInTimes new old
turned old new differ = record {
  all = sym differ.all;
  name = λ p inside. sym (differ.name p (omega (arith, inside, differ.all)));
  node = λ p inside. sym (differ.node p (omega (arith, inside, differ.all)));
}

pub both_differ : (a b c : List Process) → DifferInTimes a b → DifferInTimes b c → DifferInTimes a c
both_differ a b c one two = record {
  all = two.all ∙ one.all;
  name = λ p inside. two.name p (omega (arith, inside, one.all)) ∙ one.name p inside;
  node = λ p inside. two.node p (omega (arith, inside, one.all)) ∙ one.node p inside;
}

-- what is read of a process is the same past the end, where there is none
module _ (old new : List Process) (differ : DifferInTimes old new) where
  both_past : (p : ℕ) → length old ≤ p → slice_index_or new p no_process ≡ slice_index_or old p no_process
  both_past p past = get_or_past new p no_process (omega (arith, differ.all, past)) ∙ sym (get_or_past old p no_process past)

  pub same_everywhere : {X : Type 0} (read : Process → X)
      → ((p : ℕ) → p < length old → read (slice_index_or new p no_process) ≡ read (slice_index_or old p no_process))
      → (p : ℕ) → read (slice_index_or new p no_process) ≡ read (slice_index_or old p no_process)
  same_everywhere read same p = elim (cases_lt p (length old)) [ inl inside ↦ same p inside | inr past ↦ ap read (both_past p past) ]

  pub no_longer_everywhere : IsNoneLonger old new → (p : ℕ) → (slice_index_or new p no_process).wcet ≤ (slice_index_or old p no_process).wcet
  no_longer_everywhere none p = elim (cases_lt p (length old)) [
    | inl inside ↦ none p inside
    | inr past ↦ (let same = ap (λ (process : Process). process.wcet) (both_past p past) in omega (arith, same))
  ]

-- where processes take as long as they did, they end when they did
pub end_same : (i : Instance) (horizon : ℕ) (new : List Process) → DifferInTimes i.processes new
    → ((p : ℕ) → p < length i.processes → (slice_index_or new p no_process).wcet ≡ (process_at i p).wcet)
    → (plan : Plan) (p : ℕ) → end_of (with_times i horizon new) plan p ≡ end_of i plan p
end_same i horizon new differ long plan p =
    ap (λ (wcet : ℕ). start_of plan p + wcet) (same_everywhere i.processes new differ (λ process. process.wcet) long p)

module _ (i : Instance) (v : Variant) (is : IsVariant i v) where
  abbrev j : Instance
  j = varied i v

  pub inside_old : (p : ℕ) → p < length v.processes → p < length i.processes
  inside_old p inside = omega (arith, inside, is.processes.all)

  pub node_same : (p : ℕ) → node_of j p ≡ node_of i p
  node_same = same_everywhere i.processes v.processes is.processes (λ process. process.node) is.processes.node

  pub source_same : (m : ℕ) → m < length v.messages → source_of j m ≡ source_of i (v.message_place m)
  source_same m inside = node_same (message_at j m).sender ∙ ap (node_of i) (is.message m inside).sender

  module _ (plan : Plan) (rounds channels : List ℕ) where
    abbrev other : Plan
    other = sent_otherwise plan rounds channels

    pub end_no_later : IsNoneLonger i.processes v.processes → (p : ℕ) → end_of j other p ≤ end_of i plan p
    end_no_later none p = let less = no_longer_everywhere i.processes v.processes is.processes none p in omega (arith, less)

    module _ (alike : AreSentAlike v plan rounds channels) where
      pub sent_from_same : (m : ℕ) → m < length v.messages → sent_from j other m ≡ sent_from i plan (v.message_place m)
      sent_from_same m inside = rw (source_same m inside, alike.round m inside) refl

      pub sent_until_same : (m : ℕ) → m < length v.messages → sent_until j other m ≡ sent_until i plan (v.message_place m)
      sent_until_same m inside = rw (source_same m inside, alike.round m inside) refl

      pub bytes_same : (n r c m : ℕ) → m < length v.messages → bytes_on j other n r c m ≡ bytes_on i plan n r c (v.message_place m)
      bytes_same n r c m inside = rw (source_same m inside, alike.round m inside, alike.channel m inside, (is.message m inside).bytes) refl

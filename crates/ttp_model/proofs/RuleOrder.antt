-- All rules together, from those before the last and the last; and those before the last, from those before cycles and that one.
use Rattle.std.proofs.Common.{◌<◌, arith}
use Rattle.ttp_model.specs.Instance.{Instance}
use Rattle.ttp_model.specs.Rules.{Lengths, Receivers, Names, NewNames, Indices, Ranges, CapacityLists, ReceiversAway, Lead, Trail, Deadlines, LinkEnds, ReceiversOnce, Cycles, Channels, Rule, IsInstance, KeepsRule}
use Rattle.ttp_model.specs.Refusals.{KeepsRulesBefore, rule_number}

pub KeepsRulesBefore-channels : (i : Instance) → KeepsRulesBefore i Cycles → KeepsRule i Cycles → KeepsRulesBefore i Channels
KeepsRulesBefore-channels i before last = record { each = each }
  where
    each : (earlier : Rule) → rule_number earlier < rule_number Channels → KeepsRule i earlier
    each Lengths lower = before.each Lengths (omega arith)
    each Receivers lower = before.each Receivers (omega arith)
    each Names lower = before.each Names (omega arith)
    each NewNames lower = before.each NewNames (omega arith)
    each Indices lower = before.each Indices (omega arith)
    each Ranges lower = before.each Ranges (omega arith)
    each CapacityLists lower = before.each CapacityLists (omega arith)
    each ReceiversAway lower = before.each ReceiversAway (omega arith)
    each Lead lower = before.each Lead (omega arith)
    each Trail lower = before.each Trail (omega arith)
    each Deadlines lower = before.each Deadlines (omega arith)
    each LinkEnds lower = before.each LinkEnds (omega arith)
    each ReceiversOnce lower = before.each ReceiversOnce (omega arith)
    each Cycles lower = last
    each Channels lower = absurd (omega (arith, lower))

pub IsInstance_from : (i : Instance) → KeepsRulesBefore i Channels → KeepsRule i Channels → IsInstance i
IsInstance_from i before last = record {
  limits = before.each Lengths (omega arith);
  receivers = before.each Receivers (omega arith);
  names = before.each Names (omega arith);
  new_names = before.each NewNames (omega arith);
  indices = before.each Indices (omega arith);
  ranges = before.each Ranges (omega arith);
  capacities = before.each CapacityLists (omega arith);
  away = before.each ReceiversAway (omega arith);
  lead = before.each Lead (omega arith);
  trail = before.each Trail (omega arith);
  deadlines = before.each Deadlines (omega arith);
  links = before.each LinkEnds (omega arith);
  receivers_once = before.each ReceiversOnce (omega arith);
  acyclic = before.each Cycles (omega arith);
  channels = last;
}

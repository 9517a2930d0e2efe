-- A list that is too long is the first rule that the instance of a cycle breaks.
use Rattle.std.proofs.Common.{◌≡◌, ◌≤◌, length, Result, Ok, Err, IfErr, IsErrAnd, arith, lit≤}
use Rattle.std.proofs.lemmas.List.{length-map}
use Rattle.ttp_model.specs.declared.error.Part.{Part}
use Rattle.ttp_model.specs.declared.error.Part.TheVariants as part
use Rattle.ttp_model.specs.declared.error.ModelError.TheVariants as model
use Rattle.ttp_model.specs.Instance.{Instance}
use Rattle.ttp_model.specs.Limits.{most_nodes}
use Rattle.ttp_model.specs.Refusals.{HasLength, IsRefusal, KeepsRulesBefore, rule_number}
use Rattle.ttp_model.specs.Rules.{Rule, Lengths, Receivers, Names, NewNames, Indices, Ranges, CapacityLists, ReceiversAway, Lead, Trail, Deadlines, LinkEnds, ReceiversOnce, Cycles, Channels}
use Rattle.rates_model.specs.Rates.{Rates}
use Rattle.rates_model.specs.Rules.{IsRates}
use Rattle.endless_schedules.specs.declared.unrolling.UnrollFault.{UnrollFault}
use Rattle.endless_schedules.specs.declared.fault.TableFault.{TableFault}
use Rattle.endless_schedules.specs.declared.fault.TableFault.TheVariants.{TooMany, Memory}
use Rattle.endless_schedules.specs.Faults.{IsTableFault, IsTooMany}
use Rattle.endless_schedules.specs.Refusals.{IsUnrollFault, told}
use Rattle.endless_schedules.specs.Unrolled.{unrolled, unrolled_node, unrolled_processes}

-- no rule goes before the lengths
rule_numbered : (rule : Rule) → 1 ≤ rule_number rule
rule_numbered Lengths = lit≤ tt
rule_numbered Receivers = lit≤ tt
rule_numbered Names = lit≤ tt
rule_numbered NewNames = lit≤ tt
rule_numbered Indices = lit≤ tt
rule_numbered Ranges = lit≤ tt
rule_numbered CapacityLists = lit≤ tt
rule_numbered ReceiversAway = lit≤ tt
rule_numbered Lead = lit≤ tt
rule_numbered Trail = lit≤ tt
rule_numbered Deadlines = lit≤ tt
rule_numbered LinkEnds = lit≤ tt
rule_numbered ReceiversOnce = lit≤ tt
rule_numbered Cycles = lit≤ tt
rule_numbered Channels = lit≤ tt

no_rule_before : (i : Instance) → KeepsRulesBefore i Lengths
no_rule_before i = record { each = λ earlier lt. absurd (omega (arith, rule_numbered earlier, lt)) }

module _ (rho : Rates) (w : IsRates rho) (some : 1 ≤ length (unrolled_processes rho)) where
  nodes_right : HasLength 1 most_nodes (unrolled rho).nodes
  nodes_right =
      let count = length-map rho.nodes unrolled_node in
      (omega (arith, count, w.limits.nodes_least), omega (arith, count, w.limits.nodes))

  pub too_many : (list : Part) → IsTooMany rho list → IsRefusal (unrolled rho) (model.Length list)
  too_many part.Nodes many = absurd many
  too_many part.Processes many = (no_rule_before (unrolled rho), (nodes_right, λ right. omega (arith, right.1, many)))
  too_many part.Links many = (no_rule_before (unrolled rho), (nodes_right, (some, many.0), λ right. omega (arith, right.1, many.1)))
  too_many part.Messages many =
      (no_rule_before (unrolled rho), (nodes_right, (some, many.0), (omega arith, many.1), λ right. omega (arith, right.1, many.2)))

  -- why there are no tables is told so
  pub told_fault : (fault : TableFault) → IsTableFault rho fault → IsUnrollFault rho (told fault)
  told_fault (TooMany list) many = too_many list many
  told_fault Memory many = tt

-- what is true of an error is true of it at the exit of a `?`
pub handed : {A : Type 0} (P : UnrollFault → Type 0) (r : Result A UnrollFault) (e : UnrollFault) → IsErrAnd r (λ d. d ≡ e) → P e → IfErr r P
handed P (Ok x) e from holds = tt
handed P (Err d) e from holds = rw from holds

-- Which reason a refusal has: the one of its rule, at its place. Own profile.
use Rattle.ttp_model.specs.declared.error.ModelError.{ModelError}
use Rattle.ttp_model.specs.declared.error.ModelError.TheVariants as model
use Rattle.ttp_model.specs.declared.error.Place.{Place}
use Rattle.ttp_model.specs.Instance.{Instance}
use Rattle.instance_reasons.specs.declared.rules.NoSuchIndex.{NoSuchIndex}
use Rattle.instance_reasons.specs.declared.rules.RuleReason.{RuleReason}
use Rattle.instance_reasons.specs.declared.rules.RuleReason.TheVariants as reason
use Rattle.instance_reasons.specs.Capacities.{IsWrongCapacities}
use Rattle.instance_reasons.specs.Circles.{IsCircle}
use Rattle.instance_reasons.specs.Counts.{IsNoReceiver, IsWrongCount}
use Rattle.instance_reasons.specs.Joins.{IsBothOfOne, IsReceiverThere, IsReceiverTwice, IsWrongLink}
use Rattle.instance_reasons.specs.Malformed.{IsMalformedName}
use Rattle.instance_reasons.specs.Ranges.{IsOutsideRange}
use Rattle.instance_reasons.specs.Shared.{IsSharedName}
use Rattle.instance_reasons.specs.Spots.{IsSpot}
use Rattle.instance_reasons.specs.Times.{IsNoTime, IsShortLead, IsShortTrail}

-- a place that names an index that isn't there
abbrev pub IsNoSuchIndex : Instance → Place → NoSuchIndex → Type 0
IsNoSuchIndex i at r = IsSpot i at r.spot

abbrev pub IsRuleReason : Instance → ModelError → RuleReason → Type 0
IsRuleReason i (model.Length list) (reason.WrongCount r) = IsWrongCount i list r
IsRuleReason i (model.NoReceiver m) (reason.NoReceiver r) = IsNoReceiver i m r
IsRuleReason i (model.NameForm at) (reason.MalformedName r) = IsMalformedName i at r
IsRuleReason i (model.NameRepeated at) (reason.SharedName r) = IsSharedName i at r
IsRuleReason i (model.NoSuchIndex at) (reason.NoSuchIndex r) = IsNoSuchIndex i at r
IsRuleReason i (model.OutOfRange at) (reason.OutsideRange r) = IsOutsideRange i at r
IsRuleReason i (model.Capacities n) (reason.WrongCapacities r) = IsWrongCapacities i n r
IsRuleReason i (model.ReceiverOnSender m) (reason.ReceiverThere r) = IsReceiverThere i m r
IsRuleReason i model.ShortLead (reason.ShortLead r) = IsShortLead i r
IsRuleReason i model.ShortTrail (reason.ShortTrail r) = IsShortTrail i r
IsRuleReason i (model.Deadline p) (reason.NoTime r) = IsNoTime i p r
IsRuleReason i (model.LinkAcross l) (reason.WrongLink r) = IsWrongLink i l r
IsRuleReason i (model.ReceiverTwice m) (reason.ReceiverTwice r) = IsReceiverTwice i m r
IsRuleReason i (model.Cycle ps) (reason.Circle r) = IsCircle i ps r
IsRuleReason i (model.BothOfOne m) (reason.BothOfOne r) = IsBothOfOne i m r
IsRuleReason i _ _ = ⊥

-- What is told of the links of a chain: names in place of indices, and the ticks that hold each one back. Own profile.
use Rattle.std.specs.Prelude.{◌≡◌, ℕ, List}
use Rattle.ttp_model.specs.declared.plan.Plan.{Plan}
use Rattle.ttp_model.specs.Delays.{delay}
use Rattle.ttp_model.specs.Instance.{Instance}
use Rattle.ttp_model.specs.Names.{message_name, source_name}
use Rattle.ttp_model.specs.Plans.{round_of}
use Rattle.plan_facts.specs.Messages.{ready_at}
use Rattle.sentences.specs.Lists.{AreTold}
use Rattle.plan_reasons.specs.declared.plan_links.ChainLink.{ChainLink}
use Rattle.plan_reasons.specs.declared.plan_links.ChainLink.TheVariants as link
use Rattle.plan_reasons.specs.declared.plan_links.RoundCause.{RoundCause}
use Rattle.plan_reasons.specs.declared.plan_lines.ChainLine.{ChainLine}
use Rattle.plan_reasons.specs.declared.plan_lines.ChainLine.TheVariants as line
use Rattle.plan_reasons.specs.declared.plan_lines.PlanChain.{PlanChain}
use Rattle.plan_reasons.specs.declared.plan_lines.SendingLine.{SendingLine}
use Rattle.plan_reasons.specs.PlanChains.{IsChain}
use Rattle.plan_reasons.specs.Runs.{IsRunLine}

-- message m from this tick to that one, for this cause
pub record IsSendingLine (i : Instance) (plan : Plan) (m from until : ℕ) (cause : RoundCause) (x : SendingLine) : Type 0 where
  pub from_is : x.from ≡ from
  pub until_is : x.until ≡ until
  pub message_is : x.message.now ≡ message_name i m
  pub round_is : x.round ≡ round_of plan m
  pub node_is : x.node.now ≡ source_name i m
  pub ready_is : x.ready ≡ ready_at i plan m
  pub why_is : x.why ≡ cause

-- what is told of a link
abbrev pub IsLineOf : Instance → Plan → ChainLink → ChainLine → Type 0
IsLineOf i plan (link.Run p from until why) (line.Run x) = IsRunLine i p from until why x
IsLineOf i plan (link.Sending m from until why) (line.Sending x) = IsSendingLine i plan m from until why x
IsLineOf i plan _ _ = ⊥

-- Why a valid plan ends when it does: its delay, and each link of its chain.
pub record IsChainReason (i : Instance) (plan : Plan) (r : PlanChain) : Type 0 where
  pub delay_is : r.delay ≡ delay i plan
  pub links : List ChainLink
  pub chain : IsChain i plan links
  pub lines_are : AreTold (IsLineOf i plan) links r.lines.items

-- The message for which the last process of a chain waits.
use Rattle.std.proofs.Common.{◌≡◌, ℕ, List, [], ◌∷◌, Option, Some, subst}
use Rattle.ttp_model.specs.Chains.{least_transfer}
use Rattle.ttp_model.specs.Instance.{Instance, source_of}
use Rattle.ttp_model.specs.Names.{message_name}
use Rattle.sentences.specs.Lists.{AreTold}
use Rattle.plan_reasons.specs.declared.runs.StartCause.{StartCause}
use Rattle.plan_reasons.specs.declared.runs.StartCause.TheVariants.{Arrival, Behind, CouldStart, Link, Release}
use Rattle.plan_reasons.specs.declared.path_parts.ChainPart.{ChainPart}
use Rattle.plan_reasons.specs.declared.path_lines.PathChain.{PathChain}
use Rattle.plan_reasons.specs.declared.path_lines.PathPart.{PathPart}
use Rattle.plan_reasons.specs.declared.path_lines.Transfer.{Transfer}
use Rattle.plan_reasons.specs.PathLines.{IsAbove, IsPathChain, IsPathPart}

-- all ticks of a message
abbrev HasAllTicks : Instance → Transfer → Type 0
HasAllTicks i x = (m : ℕ) × (x.message.now ≡ message_name i m) × (x.ticks ≡ least_transfer i (source_of i m))

above : (i : Instance) (from : ℕ) (cause : StartCause) (x : Transfer) → IsAbove i from cause (Some x) → HasAllTicks i x
above i from Release x is = absurd is
above i from (Link l) x is = absurd is
above i from (Behind q) x is = absurd is
above i from (CouldStart time) x is = absurd is
above i from (Arrival m) x is = (m, is.message_is, is.ticks_are)

first : (i : Instance) (chain : List ChainPart) (part : PathPart) (others : List PathPart) (x : Transfer)
    → AreTold (IsPathPart i) chain (part ∷ others) → part.transfer ≡ Some x → HasAllTicks i x
first i [] part others x are is = absurd are
first i (c ∷ chain) part others x are is = above i c.from c.cause x (subst (λ (t : Option Transfer). IsAbove i c.from c.cause t) is are.0.transfer_is)

pub last_transfer : (i : Instance) (r : PathChain) → IsPathChain i r → (part : PathPart) (others : List PathPart) (x : Transfer)
    → r.parts.items ≡ part ∷ others → part.transfer ≡ Some x → (m : ℕ) × (x.message.now ≡ message_name i m) × (x.ticks ≡ least_transfer i (source_of i m))
last_transfer i r told part others x begins is =
    first i told.chain part others x (subst (λ (parts : List PathPart). AreTold (IsPathPart i) told.chain parts) begins told.parts_are) is

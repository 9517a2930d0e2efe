-- What `replay` writes of an instance and a valid plan of it, for words that name losses.
use Rattle.std.specs.Prelude.{◌≡◌, ℕ, ◌<◌, ◌≤◌, List, length, Option}
use Rattle.ttp_model.specs.Lists.{IsFirstFailure}
use Rattle.ttp_model.specs.declared.plan.Plan.{Plan as Table}
use Rattle.ttp_model.specs.Instance.{Instance}
use Rattle.medl_tables.specs.Medl.{medl_of}
use Rattle.membership_replay.specs.Losses.{CanBeReplayed}
use Rattle.membership_replay.specs.Trace.{replay_of}
use Rattle.membership_replay.specs.Text.{replay_text}
use Rattle.plan_commands.specs.declared.losses.LossWord.{LossWord}
use Rattle.plan_commands.specs.declared.verdict.Verified.{Verified}
use Rattle.command_streams.specs.declared.ending.Fault.{Fault}
use Rattle.command_streams.specs.declared.ending.Fault.TheVariants.{LossForm, Memory, TooFewNodes, WrongLoss}
use Rattle.command_streams.specs.declared.ending.End.{End}
use Rattle.plan_commands.specs.LossWords.{AllSpell, AreLossWords, CanBeAt, IsWordFault, losses_of_words}
use Rattle.command_streams.specs.Outcomes.{IsCommandAnswer, OnDone}
use Rattle.plan_commands.specs.Verdicts.{IsRefused, IsTold, IsVerified}

-- the text of the replay of a plan's cycle in which these frames are lost, each of which can be
pub record IsTraceOf (losses : List LossWord) (i : Instance) (plan : Table) (text : List ℕ) : Type 0 where
  pub can_be : CanBeReplayed (medl_of i plan) (losses_of_words (medl_of i plan) losses)
  pub is : text ≡ replay_text i (replay_of (medl_of i plan) (losses_of_words (medl_of i plan) losses))

-- why it isn't replayed: the nodes go first, then the first word of which some loss can't be
abbrev pub IsTraceFault : List LossWord → Instance → Table → Fault → Type 0
IsTraceFault losses i plan TooFewNodes = length i.nodes < 3
IsTraceFault losses i plan (WrongLoss k) =
    (3 ≤ length i.nodes) × IsFirstFailure (length losses) (CanBeAt (medl_of i plan) losses) k
IsTraceFault losses i plan Memory = Unit {0}
IsTraceFault losses i plan _ = ⊥

-- what `replay` tells of a valid plan: the trace with the losses that the words spell
pub record IsTraceText (words : List (List ℕ)) (i : Instance) (plan : Table) (text : List ℕ) : Type 0 where
  pub losses : List LossWord
  pub spelled : AllSpell words losses
  pub trace : IsTraceOf losses i plan text

-- an instance and a valid plan are verified, and aren't replayed with the losses that the words spell
pub record IsNotReplayed (words : List (List ℕ)) (instance plan : List ℕ) (fault : Fault) : Type 0 where
  pub losses : List LossWord
  pub spelled : AllSpell words losses
  pub verified : Verified
  pub is : IsVerified instance plan verified
  pub refused : IsTraceFault losses verified.instance verified.plan fault

-- why `replay` refuses: for the form of a word, then for the instance or the plan, then for the losses
abbrev pub IsReplayRefused : List (List ℕ) → List ℕ → List ℕ → Fault → Type 0
IsReplayRefused words instance plan Memory = Unit {0}
IsReplayRefused words instance plan (LossForm k) = IsWordFault words (LossForm k)
IsReplayRefused words instance plan TooFewNodes = IsNotReplayed words instance plan TooFewNodes
IsReplayRefused words instance plan (WrongLoss k) = IsNotReplayed words instance plan (WrongLoss k)
IsReplayRefused words instance plan fault = AreLossWords words × IsRefused instance plan fault

-- what `replay` answers of the words and the bytes of an instance and of a plan, and what it writes
abbrev pub IsReplayAnswer : List (List ℕ) → List ℕ → List ℕ → Option (List ℕ) → Option (List ℕ) → End → Type 0
IsReplayAnswer words instance plan =
    IsCommandAnswer (OnDone (IsTold (IsVerified instance plan) (IsTraceText words))) (IsReplayRefused words instance plan)

-- What is right to tell of a certificate, and of a cycle in which frames are lost.
use Rattle.std.specs.Prelude.{◌≡◌, ℕ, ◌<◌, List, [], ◌∷◌, ◌++◌, All, codes, decimal, length, slice_index_or}
use Rattle.ttp_model.specs.declared.plan.Plan.{Plan as Table}
use Rattle.ttp_model.specs.Instance.{Instance}
use Rattle.certificate.specs.Cert.{Cert}
use Rattle.certificate.specs.Spelling.{SpellsCert}
use Rattle.tree_check.specs.Proofs.{Proves}
use Rattle.medl_tables.specs.Medl.{medl_of}
use Rattle.membership_replay.specs.Losses.{IsLossOf}
use Rattle.membership_replay.specs.Text.{replay_text}
use Rattle.membership_replay.specs.Trace.{replay_of}
use Rattle.command_streams.specs.Instances.{HasInstance}
use Rattle.plan_commands.specs.declared.losses.LossWord.{LossWord}
use Rattle.plan_commands.specs.LossWords.{AllSpell, losses_of_word, losses_of_words, no_word}
use Rattle.evidence.specs.Verdicts.{IsPlanOf}

-- the bytes spell a certificate that proves its bound of the instance, and the line tells that bound
pub record TellsItsBound (instance bytes line : List ℕ) : Type 0 where
  pub problem : Instance
  pub has_instance : HasInstance instance problem
  pub cert : Cert
  pub spelled : SpellsCert bytes cert
  pub proves : Proves problem cert
  pub line_is : line ≡ codes "bound " ++ (decimal cert.low ++ 10 ∷ [])

-- the text is of the plan's cycle in which the frames that the words name are lost, all of them
pub record TracesLosses (words : List (List ℕ)) (instance bytes text : List ℕ) : Type 0 where
  pub problem : Instance
  pub plan : Table
  pub is : IsPlanOf instance bytes problem plan
  pub losses : List LossWord
  pub spelled : AllSpell words losses
  pub text_is : text ≡ replay_text problem (replay_of (medl_of problem plan) (losses_of_words (medl_of problem plan) losses))

-- a loss that the word of this index names isn't one of the plan's cycle
pub record HasWrongLoss (words : List (List ℕ)) (instance bytes : List ℕ) (k : ℕ) : Type 0 where
  pub problem : Instance
  pub plan : Table
  pub is : IsPlanOf instance bytes problem plan
  pub losses : List LossWord
  pub spelled : AllSpell words losses
  pub there : k < length losses
  pub wrong : ¬ All (IsLossOf (medl_of problem plan)) (losses_of_word (medl_of problem plan) (slice_index_or losses k no_word))

-- Which steps a propagation tries until none of them sharpens.
use Rattle.std.specs.Prelude.{◌≡◌, ℕ, ◌+◌, ◌<◌, ◌≤◌, List, length, Contains, IsTrue}
use Rattle.ttp_model.specs.declared.step.Step.{Step}
use Rattle.ttp_model.specs.declared.step.Step.TheVariants.{EsRelease, EsLink, EsBefore, EsArrive, EsMessage, LeOwn, LeSend, XWindow, XRound, XFrames, XChannel}
use Rattle.ttp_model.specs.Instance.{Instance, source_of}
use Rattle.tt_choice.specs.Choice.{Choice, is_before, least_round}
use Rattle.tt_infer.specs.Premises.{GoesTo}

-- what is in a list stays in it
abbrev pub KeepsSteps : List Step → List Step → Type 0
KeepsSteps old new = (step : Step) → Contains old step → Contains new step

-- the steps that ask for nothing but process p
pub record HasProcessSteps (steps : List Step) (p : ℕ) : Type 0 where
  pub release : Contains steps (EsRelease p)
  pub end : Contains steps (LeOwn p)
  pub window : Contains steps (XWindow p)

-- the steps from message m to its receiver q
pub record HasReceiverSteps (steps : List Step) (m q : ℕ) : Type 0 where
  pub transfer : Contains steps (EsMessage m q)
  pub arrival : Contains steps (EsArrive m q)

-- the steps that count along chains of links and messages stand in the list
pub record HasChainSteps (i : Instance) (steps : List Step) : Type 0 where
  pub processes : (p : ℕ) → p < length i.processes → HasProcessSteps steps p
  pub links : (l : ℕ) → l < length i.links → Contains steps (EsLink l)
  pub messages : (m q : ℕ) → GoesTo i m q → HasReceiverSteps steps m q

-- the closers of the frame of node n in round r: of the whole where there is one channel, and of each of its halves where there are two
pub record HasFrameSteps (count n r : ℕ) (steps : List Step) : Type 0 where
  pub frame : count ≡ 1 → Contains steps (XFrames n r (r + 1))
  pub channels : (k : ℕ) → k < count → 2 ≤ count → Contains steps (XChannel k n r (r + 1))

-- the steps about the one round that a complete choice leaves to message m
pub record HasRoundSteps (i : Instance) (c : Choice) (steps : List Step) (m : ℕ) : Type 0 where
  pub send : Contains steps (LeSend m)
  pub round : Contains steps (XRound m)
  pub frame : i.cluster.channels ≡ 1 → Contains steps (XFrames (source_of i m) (least_round c m) (least_round c m + 1))
  pub channels : (k : ℕ) → k < i.cluster.channels → 2 ≤ i.cluster.channels → Contains steps (XChannel k (source_of i m) (least_round c m) (least_round c m + 1))

-- all steps that decide a complete choice stand in the list
pub record HasCompleteSteps (i : Instance) (c : Choice) (steps : List Step) : Type 0 where
  pub chain : HasChainSteps i steps
  pub orders : (p q : ℕ) → IsTrue (is_before c p q) → Contains steps (EsBefore p q)
  pub rounds : (m : ℕ) → m < length i.messages → HasRoundSteps i c steps m

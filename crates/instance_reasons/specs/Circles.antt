-- Processes that wait for each other: by what each waits for the one before it. Own profile.
use Rattle.std.specs.Prelude.{◌≡◌, ℕ, ◌-◌, ◌<◌, ◌==◌, List, if◌then◌else◌, length, slice_index}
use Rattle.std.specs.List.{range_with_len}
use Rattle.ttp_model.specs.Graph.{HasLink, Receives}
use Rattle.ttp_model.specs.Instance.{Instance, link_at, message_at}
use Rattle.ttp_model.specs.Lists.{EachBelow}
use Rattle.ttp_model.specs.Names.{message_name, process_name}
use Rattle.sentences.specs.Lists.{AreTold}
use Rattle.instance_reasons.specs.declared.circles.Circle.{Circle}
use Rattle.instance_reasons.specs.declared.circles.CircleStep.{CircleStep}
use Rattle.instance_reasons.specs.declared.circles.Join.{Join}
use Rattle.instance_reasons.specs.declared.circles.Join.TheVariants.{Link, Message}

-- a link leads from p to q
abbrev pub LinkLeads : Instance → ℕ → ℕ → ℕ → Type 0
LinkLeads i p q l = ((link_at i l).before ≡ p) × ((link_at i l).after ≡ q)

-- or a message does
abbrev pub MessageLeads : Instance → ℕ → ℕ → ℕ → Type 0
MessageLeads i p q m = ((message_at i m).sender ≡ p) × Receives i q m

-- the first that does
abbrev pub IsFirstLink : Instance → ℕ → ℕ → ℕ → Type 0
IsFirstLink i p q l = (l < length i.links) × LinkLeads i p q l × EachBelow l (λ k. ¬ LinkLeads i p q k)

abbrev pub IsFirstMessage : Instance → ℕ → ℕ → ℕ → Type 0
IsFirstMessage i p q m = (m < length i.messages) × MessageLeads i p q m × EachBelow m (λ k. ¬ MessageLeads i p q k)

-- by this q waits for p
abbrev pub IsJoin : Instance → ℕ → ℕ → Join → Type 0
IsJoin i p q (Link l) = IsFirstLink i p q l
IsJoin i p q (Message name) = (¬ HasLink i p q) × (m : ℕ) × IsFirstMessage i p q m × (name.now ≡ message_name i m)

-- the process in front of the k-th, and the last in front of the first
abbrev pub before_at : List ℕ → ℕ → ℕ
before_at ps k = slice_index ps (if k == 0 then length ps - 1 else k - 1)

-- the k-th of a circle
pub record IsCircleStep (i : Instance) (ps : List ℕ) (k : ℕ) (x : CircleStep) : Type 0 where
  pub process_is : x.process.now ≡ process_name i (slice_index ps k)
  pub other_is : x.other.now ≡ process_name i (before_at ps k)
  pub by_is : IsJoin i (before_at ps k) (slice_index ps k) x.by

-- all of it
pub record IsCircle (i : Instance) (ps : List ℕ) (r : Circle) : Type 0 where
  pub steps_are : AreTold (IsCircleStep i ps) (range_with_len 0 (length ps)) r.steps.items

-- Why no plan is left, by times, rounds and orders. Own profile.
use Rattle.std.specs.Borrow.{Bor}
use Rattle.std.specs.Prelude.{◌≡◌, ℕ, List}
use Rattle.ttp_model.specs.Instance.{Instance}
use Rattle.ttp_model.specs.Names.{message_name, process_name}
use Rattle.sentences.specs.Lists.{AreTold}
use Rattle.sought_plans.specs.Known.{Known, le_of, lo_of, top_of}
use Rattle.sought_plans.specs.Premises.{least_end}
use Rattle.certificate_reasons.specs.declared.closers.CloserReason.{CloserReason}
use Rattle.certificate_reasons.specs.declared.closers.CloserReason.TheVariants.{Cycle, Rounds, Window}

-- a process can't end in time
abbrev pub IsWindow : Instance → Known → ℕ → CloserReason → Type 0
IsWindow i f p (Window process least most) = (process.now ≡ process_name i p) × (least ≡ least_end i f p) × (most ≡ le_of f p)
IsWindow i f p _ = ⊥

-- a message has no round
abbrev pub IsRounds : Instance → Known → ℕ → CloserReason → Type 0
IsRounds i f m (Rounds message least late) = (message.now ≡ message_name i m) × (least ≡ lo_of f m) × (late ≡ top_of f m)
IsRounds i f m _ = ⊥

-- the name of a process
abbrev pub IsNameOf : Instance → ℕ → Bor (List ℕ) → Type 0
IsNameOf i p name = name.now ≡ process_name i p

-- processes wait for each other in a circle
abbrev pub IsCycle : Instance → List ℕ → CloserReason → Type 0
IsCycle i ps (Cycle processes) = AreTold (IsNameOf i) ps processes.items
IsCycle i ps _ = ⊥

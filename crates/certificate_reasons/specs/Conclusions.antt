-- What is known of a fact after a step, and what was before it. Own profile.
use Rattle.std.specs.Prelude.{◌≡◌, ℕ}
use Rattle.ttp_model.specs.Instance.{Instance}
use Rattle.ttp_model.specs.Names.{message_name, process_name}
use Rattle.tt_infer.specs.declared.fact.Fact.{Fact}
use Rattle.tt_infer.specs.declared.fact.Fact.TheVariants.{Start, End, FirstRound, LateRound, Order, Closed}
use Rattle.certificate_reasons.specs.declared.conclusions.Conclusion.{Conclusion}
use Rattle.certificate_reasons.specs.declared.conclusions.Conclusion.TheVariants.{EndsUntil, GoesFirst, NoPlanLeft, SentBefore, SentFrom, StartsFrom}

-- when a process starts at least
abbrev pub IsStartsFrom : Instance → ℕ → ℕ → ℕ → Conclusion → Type 0
IsStartsFrom i p old new (StartsFrom process before after) = (process.now ≡ process_name i p) × (before ≡ old) × (after ≡ new)
IsStartsFrom i p old new _ = ⊥

-- when it ends at most
abbrev pub IsEndsUntil : Instance → ℕ → ℕ → ℕ → Conclusion → Type 0
IsEndsUntil i p old new (EndsUntil process before after) = (process.now ≡ process_name i p) × (before ≡ old) × (after ≡ new)
IsEndsUntil i p old new _ = ⊥

-- the first round of a message
abbrev pub IsSentFrom : Instance → ℕ → ℕ → ℕ → Conclusion → Type 0
IsSentFrom i m old new (SentFrom message before after) = (message.now ≡ message_name i m) × (before ≡ old) × (after ≡ new)
IsSentFrom i m old new _ = ⊥

-- the round before which it is sent
abbrev pub IsSentBefore : Instance → ℕ → ℕ → ℕ → Conclusion → Type 0
IsSentBefore i m old new (SentBefore message before after) = (message.now ≡ message_name i m) × (before ≡ old) × (after ≡ new)
IsSentBefore i m old new _ = ⊥

-- a process ends before another one starts
abbrev pub IsGoesFirst : Instance → ℕ → ℕ → Conclusion → Type 0
IsGoesFirst i p q (GoesFirst process other) = (process.now ≡ process_name i p) × (other.now ≡ process_name i q)
IsGoesFirst i p q _ = ⊥

-- what is known of a fact, with what was
abbrev pub IsConclusion : Instance → Fact → ℕ → ℕ → Conclusion → Type 0
IsConclusion i (Start p) old new k = IsStartsFrom i p old new k
IsConclusion i (End p) old new k = IsEndsUntil i p old new k
IsConclusion i (FirstRound m) old new k = IsSentFrom i m old new k
IsConclusion i (LateRound m) old new k = IsSentBefore i m old new k
IsConclusion i (Order p q) old new k = IsGoesFirst i p q k
IsConclusion i Closed old new k = k ≡ NoPlanLeft

-- How an answer is told: its certificate is written, and then its text.
use Rattle.std.specs.Prelude.{◌≡◌, ℕ, List}
use Rattle.std.specs.Prelude.{◌⊎◌, Bool, IsTrue, Option, None, Some, IfSome, Result, Ok, Err}
use Rattle.std.proofs.Common.{inl, inr}
use Rattle.std.specs.Borrow.{MutBor}
use Rattle.std.specs.Io.KnownBytes.{Appends, Keeps}
use Rattle.certificate.specs.Cert.{Cert}
use Rattle.certificate.specs.Spelling as certificate_text
use Rattle.planner.specs.outcome.Outcome.{Outcome}
use Rattle.planner.specs.outcome.Outcome.TheVariants as answer
use Rattle.planner.specs.Answers as answers
use Rattle.solve_command.specs.declared.solve.Solved.{Solved}
use Rattle.command_streams.specs.declared.ending.Sink.TheVariants as sink
use Rattle.command_streams.specs.declared.ending.Fault.{Fault}
use Rattle.command_streams.specs.declared.ending.Fault.TheVariants.{Memory, Unwritten}
use Rattle.command_streams.specs.declared.ending.End.{End}
use Rattle.command_streams.specs.declared.ending.End.TheVariants.{Done, Absent, Stopped, Refused}
use Rattle.command_streams.specs.Streams.{AppendsPart}
use Rattle.command_streams.specs.Outcomes.{IsCommandAnswer, IsWritten}

-- the end at which each answer is told
abbrev pub end_told : Outcome → End
end_told (answer.Optimal plan ticks cert) = Done
end_told (answer.Infeasible cert) = Absent
end_told (answer.Stopped why low best cert) = Stopped

-- how the writing of a text ends a command: at its own end, or the writer failed and gained a prefix
abbrev pub IsWritingTo : End → List ℕ → Option (List ℕ) → Option (List ℕ) → End → Type 0
IsWritingTo last text old new end =
    ((end ≡ last) × Appends old new text) ⊎ ((end ≡ Refused (Unwritten sink.Out)) × AppendsPart old new text)

-- the writer gained a prefix of the certificate's text
pub record IsCertificatePart (cert : Cert) (old new : Option (List ℕ)) : Type 0 where
  pub text : List ℕ
  pub spelled : certificate_text.SpellsCert text cert
  pub part : AppendsPart old new text

-- a writer that tells its bytes gained the certificate's text
abbrev pub IsCertified : Cert → Option (List ℕ) → Option (List ℕ) → Type 0
IsCertified cert old new = IfSome old (λ before. IsWritten (λ text. certificate_text.SpellsCert text cert) old new)

-- how the writing of a certificate ends: the writer gained its text, or a prefix where it failed, or nothing where
-- memory was refused
abbrev pub IsCertifying : Cert → Option (List ℕ) → Option (List ℕ) → Result Unit Fault → Type 0
IsCertifying cert old new (Ok done) = IsCertified cert old new
IsCertifying cert old new (Err Memory) = Keeps old new
IsCertifying cert old new (Err (Unwritten sink.Certificate)) = IsCertificatePart cert old new
IsCertifying cert old new (Err _) = ⊥

-- how an answer is told: its text behind its certificate; or that one couldn't be written, and then nothing else is
abbrev pub IsTelling : Solved → (wanted : Bool) → (from to old new : Option (List ℕ)) → End → Type 0
IsTelling solved wanted from to old new end =
    (IsCertified (answers.cert_of solved.outcome) from to × IsWritingTo (end_told solved.outcome) solved.text.items old new end)
    ⊎ ((fault : Fault) × IsTrue wanted × IsCertifying (answers.cert_of solved.outcome) from to (Err fault) × (end ≡ Refused fault) × Keeps old new)

-- and how it is told that there is none
abbrev pub IsTellingOf : Result Solved Fault → (wanted : Bool) → (from to old new : Option (List ℕ)) → End → Type 0
IsTellingOf (Ok solved) wanted from to old new end = IsTelling solved wanted from to old new end
IsTellingOf (Err fault) wanted from to old new end = (end ≡ Refused fault) × Keeps from to × Keeps old new

-- What is told of a search, by what was found or why nothing was; `wanted` says whether there is a writer for the certificate, and
-- `from` and `to` are what it held and holds.
module _ (IsFoundSo : Solved → Type 0) (IsLackingFor : Fault → Type 0) (wanted : Bool) (from to : Option (List ℕ)) where
  -- an answer that is told by this text at this end, and whose certificate was written in full
  pub record IsToldAnswer (end : End) (text : List ℕ) : Type 0 where
    pub solved : Solved
    pub is : IsFoundSo solved
    pub ends : end ≡ end_told solved.outcome
    pub text_is : text ≡ solved.text.items
    pub certified : IsCertified (answers.cert_of solved.outcome) from to

  -- an answer whose certificate was wanted, and could only be written in part
  pub record IsHalfCertified : Type 0 where
    pub is_wanted : IsTrue wanted
    pub solved : Solved
    pub is : IsFoundSo solved
    pub part : IsCertificatePart (answers.cert_of solved.outcome) from to

  -- why nothing is told: the certificate's writer failed, or there is no answer and the writer keeps what it held
  abbrev pub IsUntold : Fault → Type 0
  IsUntold (Unwritten sink.Certificate) = IsHalfCertified
  IsUntold fault = IsLackingFor fault × Keeps from to

  -- the certificate is written, and then the answer's text
  abbrev pub IsToldOf : Option (List ℕ) → Option (List ℕ) → End → Type 0
  IsToldOf = IsCommandAnswer IsToldAnswer IsUntold

-- what the certificate's writer holds, where there is one
abbrev pub held : {C : Type 0} → (C → Option (List ℕ)) → Option (MutBor C) → Option (List ℕ)
held contents None = None
held contents (Some writer) = contents writer.now

-- and what it holds as it is left
abbrev pub left : {C : Type 0} → (C → Option (List ℕ)) → Unit {0} ⊎ ((MutBor C × Unit {0}) ⊎ ⊥) → Option (List ℕ)
left contents (inl none) = None
left contents (inr (inl writer)) = contents writer.0.now
left contents (inr (inr never)) = absurd never

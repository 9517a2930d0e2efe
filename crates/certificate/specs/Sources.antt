-- What a source of lines may leave of a text, and what is read of it. Where all its bytes are known it leaves one
-- text, and else any that goes on as what was seen of it. Own profile.
use Rattle.std.specs.Prelude.{◌≡◌, List, ℕ, Option, Ok, Err}
use Rattle.std.specs.Borrow.{GName}
use Rattle.certificate.specs.declared.fault.CertTextError.{CertTextError}
use Rattle.certificate.specs.declared.fault.CertTextError.TheVariants.{At, OutOfMemory}
use Rattle.certificate.specs.declared.fault.SourceFault.{SourceFault}
use Rattle.certificate.specs.declared.fault.SourceFault.TheVariants.{Read, TooLong, Text}
use Rattle.certificate.specs.Reading.{Reading}

-- What a source takes its lines from: which reader, and the bytes that it had at first.
pub record Origin : Type 0 where
  pub reader : GName
  pub bytes : Option (List ℕ)

-- Whatever text is left behind it, a text was left before that reads as this value and then as that text.
abbrev pub Says : {A : Type 0} → (Before After : List ℕ → Type 0) → (List ℕ → Reading (A × List ℕ)) → A → Type 0
Says Before After at x = (rest : List ℕ) → After rest → (text : List ℕ) × (Before text × (at text ≡ Ok (x, rest)))

-- a text that may be left reads as this fault
abbrev pub Fails : {A : Type 0} → (Before : List ℕ → Type 0) → (List ℕ → Reading A) → CertTextError → Type 0
Fails Before at fault = (text : List ℕ) × (Before text × (at text ≡ Err fault))

-- a text may be left
abbrev pub HasText : (List ℕ → Type 0) → Type 0
HasText After = (rest : List ℕ) × After rest

-- what is wrong with the text is so by what reading it gives, and else the source stops
abbrev pub IsFaultOn : {A : Type 0} → (Stops : SourceFault → Type 0) → (Before : List ℕ → Type 0) → (List ℕ → Reading A) → SourceFault → Type 0
IsFaultOn Stops Before at Read = Stops Read
IsFaultOn Stops Before at TooLong = Stops TooLong
IsFaultOn Stops Before at (Text OutOfMemory) = Stops (Text OutOfMemory)
IsFaultOn Stops Before at (Text (At line fault)) = Fails Before at (At line fault)

-- the source stops, or memory is refused
abbrev pub OrMemory : (SourceFault → Type 0) → SourceFault → Type 0
OrMemory Stops Read = Stops Read
OrMemory Stops TooLong = Stops TooLong
OrMemory Stops (Text OutOfMemory) = Unit {0}
OrMemory Stops (Text (At line fault)) = Stops (Text (At line fault))

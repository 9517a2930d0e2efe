-- The bytes that are taken of a reader, and what is passed of them. Where what a reader has isn't known, any bytes may
-- come. Own profile.
use Rattle.std.specs.Prelude.{◌≡◌, ℕ, ◌+◌, List, ◌∷◌, ◌++◌, length, slice_range, Bool, true, false, Option, IfSome}
use Rattle.std.specs.Borrow.{MutBor}
use Rattle.std.specs.Io.KnownBytes.{Consumes, IsAtEnd}
use Rattle.line_text.specs.Parts.{Lacks}
use Rattle.certificate.specs.declared.block.Block.{Block}
use Rattle.certificate.specs.declared.fault.CertTextError.TheVariants.{At, OutOfMemory}
use Rattle.certificate.specs.declared.fault.SourceFault.{SourceFault}
use Rattle.certificate.specs.declared.fault.SourceFault.TheVariants.{Read, TooLong, Text}
use Rattle.certificate.specs.Limits.{most_text_bytes}
use Rattle.certificate.specs.Sources.{Origin}

-- the bytes that are taken and not passed
abbrev pub held : Block → List ℕ
held b = slice_range b.bytes.items b.at b.end

-- a text that may be left: what is held, and then the reader's bytes
pub record MayLeave (known : Option (List ℕ)) (front text : List ℕ) : Type 0 where
  pub more : List ℕ
  pub known_is : IfSome known (λ bytes. bytes ≡ more)
  pub text_is : text ≡ front ++ more

-- so many bytes were taken of the reader since it had all of these
pub record IsFrom (known : Option (List ℕ)) (taken : ℕ) (all : Option (List ℕ)) : Type 0 where
  pub bytes : List ℕ
  pub consumes : Consumes all known bytes
  pub count : length bytes ≡ taken

-- the reader is this one, and so many bytes were taken of those that it had at first
abbrev pub IsOrigin : {R : Type 0} → (R → Option (List ℕ)) → MutBor R → ℕ → Origin → Type 0
IsOrigin remaining reader taken origin =
    (reader.ghost_name ≡ origin.reader) × IsFrom (remaining reader.now) taken origin.bytes

-- why no more bytes are taken: the reader failed, or they are too many, or memory is refused
abbrev pub Stops : (taken : ℕ) → SourceFault → Type 0
Stops taken Read = Unit {0}
Stops taken TooLong = taken ≡ most_text_bytes + 1
Stops taken (Text OutOfMemory) = Unit {0}
Stops taken (Text (At line fault)) = ⊥

-- what is held was passed, up to a line's end where it has one, and stands behind what was passed of the line before
abbrev pub PassesPart : (old new : Block) → Bool → Type 0
PassesPart old new true =
    (part : List ℕ) × ((held old ≡ part ++ 10 ∷ held new) × ((new.line.items ≡ old.line.items ++ part) × Lacks 10 part))
PassesPart old new false =
    (new.line.items ≡ old.line.items ++ held old) × ((new.at ≡ new.end) × Lacks 10 (held old))

-- Bytes were taken of the reader, and what was held with them is a line, its end, and what is held now; or all of it is
-- a line without an end, and the reader has no more.
abbrev pub PassesLine : (known next : Option (List ℕ)) (old new : Block) → Bool → Type 0
PassesLine known next old new true =
    (bytes : List ℕ) × (Consumes known next bytes × ((held old ++ bytes ≡ new.line.items ++ 10 ∷ held new) × Lacks 10 new.line.items))
PassesLine known next old new false =
    (bytes : List ℕ) × (Consumes known next bytes × ((held old ++ bytes ≡ new.line.items) × (Lacks 10 new.line.items × IsAtEnd next)))

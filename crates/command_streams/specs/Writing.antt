-- Which text of an instance is written, and how an answer and the two texts beside it are.
use Rattle.std.specs.Prelude.{◌≡◌, ◌⊎◌, ◌≤◌, ℕ, List, [], length, Option, None, Some, IfSome, Ok}
use Rattle.std.specs.Global.{Vec}
use Rattle.std.specs.Io.KnownBytes.{Appends, Keeps}
use Rattle.ttp_model.specs.Instance.{Instance}
use Rattle.instance_text.specs.Faults.{States}
use Rattle.command_streams.specs.declared.ending.Sink.TheVariants as sink
use Rattle.command_streams.specs.declared.ending.Fault.TheVariants.{Unwritten}
use Rattle.command_streams.specs.declared.ending.End.{End}
use Rattle.command_streams.specs.declared.ending.End.TheVariants.{Refused, RefusedOf}
use Rattle.command_streams.specs.declared.limits.TheConstants.{INSTANCE_LIMIT}
use Rattle.command_streams.specs.Streams.{AppendsPart}
use Rattle.command_streams.specs.declared.texts.Texts.{Texts}

-- a text that states an instance, and isn't too long to be read as a file
pub record IsFileOf (i : Instance) (text : List ℕ) : Type 0 where
  pub states : States text (Ok i)
  pub within : length text ≤ INSTANCE_LIMIT

-- a text that was made is one of the instance; there may be none that reads back as it
abbrev pub IsTextOf : Instance → Option (Vec ℕ) → Type 0
IsTextOf i text = IfSome text (λ text. IsFileOf i text.items)

-- nothing is to be written
abbrev pub IsNothing : Option (Vec ℕ) → Type 0
IsNothing None = ⊥
IsNothing (Some text) = text.items ≡ []

-- what is written of a text that there may be
abbrev pub bytes_of : Option (Vec ℕ) → List ℕ
bytes_of None = []
bytes_of (Some text) = text.items

-- an end at which a command tells its answer
abbrev pub IsToldAt : End → Type 0
IsToldAt (Refused fault) = ⊥
IsToldAt (RefusedOf release fault) = ⊥
IsToldAt _ = Unit {0}

-- How texts are written: the certificate to a file that held `from`, the instance to one that held `before`, and then the answer.
module _ (texts : Texts) (from to before after old new : Option (List ℕ)) where
  -- all are
  pub record AreWritten : Type 0 where
    pub certificate : Appends from to texts.certificate.items
    pub reduced : Appends before after (bytes_of texts.reduced)
    pub answer : Appends old new texts.answer.items

  -- the certificate is written in part, and nothing else is
  pub record IsUncertified : Type 0 where
    pub certificate : AppendsPart from to texts.certificate.items
    pub reduced : Keeps before after
    pub answer : Keeps old new

  -- the instance is written in part, and no answer is
  pub record IsUnreduced : Type 0 where
    pub certificate : Appends from to texts.certificate.items
    pub reduced : AppendsPart before after (bytes_of texts.reduced)
    pub answer : Keeps old new

  -- the answer is written in part
  pub record IsCutOff : Type 0 where
    pub certificate : Appends from to texts.certificate.items
    pub reduced : Appends before after (bytes_of texts.reduced)
    pub answer : AppendsPart old new texts.answer.items

  -- how that ends: at its last end; or where a writer fails; or, with all written, where there is no text of the instance
  abbrev pub IsWritingTo : End → End → Type 0
  IsWritingTo last (Refused (Unwritten sink.Certificate)) = IsUncertified
  IsWritingTo last (Refused (Unwritten sink.Reduced)) = IsUnreduced ⊎ ((texts.reduced ≡ None) × AreWritten)
  IsWritingTo last (Refused (Unwritten sink.Out)) = IsCutOff
  IsWritingTo last end = (end ≡ last) × AreWritten

-- the same with the end behind the texts
abbrev pub IsWritingOf : Texts → End → (from to before after old new : Option (List ℕ)) → End → Type 0
IsWritingOf texts last from to before after old new end = IsWritingTo texts from to before after old new last end

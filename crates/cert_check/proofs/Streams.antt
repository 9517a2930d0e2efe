-- Which nodes of a stream were passed, and what is wrong with its lines.
use Rattle.std.proofs.Common.{◌≡◌, ℕ, List, [], ◌∷◌, ◌++◌, Option, Some, Result, Ok, Err, refl, subst}
use Rattle.certificate.specs.declared.fault.CertTextError.TheVariants as text
use Rattle.certificate.specs.declared.fault.SourceFault.{SourceFault}
use Rattle.certificate.specs.declared.fault.SourceFault.TheVariants as source
use Rattle.certificate.specs.declared.node.Node.{Node}
use Rattle.certificate.specs.declared.stream.CertStream.{CertStream}
use Rattle.certificate.specs.Reading.{Reading}
use Rattle.certificate.specs.Sources.{Origin}
use Rattle.certificate.specs.Streams.{stream_version, next_line, still_to_come, bytes_taken, StreamLeaves, LeavesNodes, LeavesNext, StreamIsFrom, IsNodeFault}
use Rattle.certificate.proofs.Opened.{given_first, given_more, given_all}
use Rattle.cert_check.specs.declared.fault.StreamFault.{StreamFault}
use Rattle.cert_check.specs.declared.fault.StreamFault.TheVariants.{Read, TooLong, Text, Cert as InCert}
use Rattle.cert_check.specs.Streams.{TakesAll, IsTakenFrom, fault_of_source}
use Rattle.cert_check.specs.UnderWay.{AreBehind, IsLinesFault}

-- a fault of lines is told as one of the stream
pub lines_fault : (Tells : Reading (List Node) → Type 0) (taken : ℕ) (fault : SourceFault) → IsNodeFault Tells taken fault
    → IsLinesFault Tells taken (fault_of_source fault)
lines_fault Tells taken source.Read is = tt
lines_fault Tells taken source.TooLong is = is
lines_fault Tells taken (source.Text text.OutOfMemory) is = tt
lines_fault Tells taken (source.Text (text.At line fault)) is = is

-- what such a fault says is said of more, where that tells as much
pub fault_by : (Tells Others : Reading (List Node) → Type 0) (taken : ℕ) (fault : StreamFault)
    → ((read : Reading (List Node)) → Tells read → Others read) → IsLinesFault Tells taken fault → IsLinesFault Others taken fault
fault_by Tells Others taken Read more is = tt
fault_by Tells Others taken TooLong more is = is
fault_by Tells Others taken (Text text.OutOfMemory) more is = tt
fault_by Tells Others taken (Text (text.At line fault)) more is = more (Err (text.At line fault)) is
fault_by Tells Others taken (InCert fault) more is = absurd is

-- Nodes were passed, and the bytes come from where they came from.
pub record IsPassed {R : Type 0} (remaining : R → Option (List ℕ)) (first now : CertStream R) : Type 0 where
  pub seen : List Node
  pub behind_them : AreBehind remaining first now seen
  pub from : (origin : Origin) → StreamIsFrom remaining first origin → StreamIsFrom remaining now origin

module _ {R : Type 0} (remaining : R → Option (List ℕ)) (first now : CertStream R) where
  pub behind_first : AreBehind remaining first first []
  behind_first = given_first (stream_version first) (StreamLeaves remaining first) (still_to_come first) (still_to_come first) (next_line first) refl

  pub passed_none : IsPassed remaining first first
  passed_none = record { seen = []; behind_them = behind_first; from = λ origin is. is }

  -- all that is left is what was passed
  pub behind_all : (seen : List Node) → AreBehind remaining first now seen → LeavesNodes remaining now (Ok []) → LeavesNodes remaining first (Ok seen)
  behind_all seen so_far ends =
      given_all (stream_version first) (StreamLeaves remaining first) (stream_version now) (StreamLeaves remaining now) (still_to_come first)
      (still_to_come now) (next_line first) (next_line now) seen so_far ends

  pub passed_all : IsPassed remaining first now → LeavesNodes remaining now (Ok []) → (rest : List Node) × LeavesNodes remaining first (Ok rest)
  passed_all p ends = (p.seen, behind_all p.seen p.behind_them ends)

  -- nodes that are left stand behind those that were passed
  pub behind_rest : (seen rest : List Node) → AreBehind remaining first now seen → LeavesNodes remaining now (Ok rest)
      → LeavesNodes remaining first (Ok (seen ++ rest))
  behind_rest seen rest so_far left = so_far (Ok rest) left

  -- a fault of what is left is one of all
  pub behind_fault : (seen : List Node) (taken : ℕ) (fault : StreamFault) → AreBehind remaining first now seen
      → IsLinesFault (LeavesNodes remaining now) taken fault → IsLinesFault (LeavesNodes remaining first) taken fault
  behind_fault seen taken Read so_far is = tt
  behind_fault seen taken TooLong so_far is = is
  behind_fault seen taken (Text text.OutOfMemory) so_far is = tt
  behind_fault seen taken (Text (text.At line fault)) so_far is = so_far (Err (text.At line fault)) is
  behind_fault seen taken (InCert fault) so_far is = absurd is

  pub passed_fault : (taken : ℕ) (fault : SourceFault) → IsPassed remaining first now → IsNodeFault (LeavesNodes remaining now) taken fault
      → IsLinesFault (LeavesNodes remaining first) taken (fault_of_source fault)
  passed_fault taken fault p is = behind_fault p.seen taken (fault_of_source fault) p.behind_them (lines_fault (LeavesNodes remaining now) taken fault is)

  module _ (next : CertStream R) (said : Node × ℕ) (leaves : LeavesNext remaining now next (Some said)) where
    pub behind_more : (seen : List Node) → AreBehind remaining first now seen → AreBehind remaining first next (seen ++ said.0 ∷ [])
    behind_more seen so_far =
        given_more (stream_version first) (StreamLeaves remaining first) (stream_version now) (StreamLeaves remaining now) (stream_version next)
        (StreamLeaves remaining next) (still_to_come first) (still_to_come now) (still_to_come next) (next_line first) (next_line now)
        (next_line next) seen said.0 so_far leaves

    pub passed_more : IsPassed remaining first now → ((origin : Origin) → StreamIsFrom remaining now origin → StreamIsFrom remaining next origin)
        → IsPassed remaining first next
    passed_more p from = record {
      seen = p.seen ++ said.0 ∷ [];
      behind_them = behind_more p.seen p.behind_them;
      from = λ origin is. from origin (p.from origin is);
    }

-- ---- what is told of a reader

-- the reader that a stream borrows is the one that it gives back
pub taken_from : {R : Type 0} (remaining : R → Option (List ℕ)) (s : CertStream R) (given : R) (origin : Origin) (answer : Result ℕ StreamFault)
    → s.lines.reader.now ≡ given → StreamIsFrom remaining s origin → TakesAll (bytes_taken s) (remaining s.lines.reader.now) answer
    → IsTakenFrom origin.bytes (remaining given) answer
taken_from {R} remaining s given origin answer same from all =
    subst (λ (r : R). IsTakenFrom origin.bytes (remaining r) answer) same (record { taken = bytes_taken s; from = from.1; all = all })

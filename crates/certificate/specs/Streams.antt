-- What a stream of a certificate's nodes has said, and what it leaves. Own profile.
use Rattle.std.specs.Prelude.{◌≡◌, ℕ, ◌+◌, List, [], Option, IfSome, None, Some, Ok, Err}
use Rattle.line_text.specs.Results.{◌>>=◌}
use Rattle.std.specs.Borrow.{MutBor}
use Rattle.certificate.specs.declared.fault.CertTextError.TheVariants.{At, OutOfMemory}
use Rattle.certificate.specs.declared.fault.SourceFault.{SourceFault}
use Rattle.certificate.specs.declared.fault.SourceFault.TheVariants.{Read, TooLong, Text}
use Rattle.certificate.specs.declared.head.Head.{Head}
use Rattle.certificate.specs.declared.node.Node.{Node}
use Rattle.certificate.specs.declared.stream.CertStream.{CertStream}
use Rattle.certificate.specs.declared.version.Version.{Version}
use Rattle.certificate.specs.Cert.{Cert}
use Rattle.certificate.specs.Reading.{Reading, Reads}
use Rattle.certificate.specs.Sources.{Origin}
use Rattle.certificate.specs.Blocks.{held, MayLeave, IsOrigin, Stops}
use Rattle.certificate.specs.Opened.{Gives, in_front}
use Rattle.certificate.specs.RawLines.{node_said}

-- the number of the next line
abbrev pub next_line : {R : Type 0} → CertStream R → ℕ
next_line s = s.lines.block.passed + 1

-- how many children are still to come of each open branch, the innermost last, and in front of them all whether the tree is
abbrev pub still_to_come : {R : Type 0} → CertStream R → List ℕ
still_to_come s = s.due.items

-- the version of the text, once its first line is passed
abbrev pub stream_version : {R : Type 0} → CertStream R → Version
stream_version s = s.version

-- how many bytes were taken of the reader
abbrev pub bytes_taken : {R : Type 0} → CertStream R → ℕ
bytes_taken s = s.lines.block.taken

-- the reader, which it borrows
abbrev pub stream_reader : {R : Type 0} → CertStream R → MutBor R
stream_reader s = s.lines.reader

-- a text that a stream may leave
abbrev pub StreamLeaves : {R : Type 0} → (R → Option (List ℕ)) → CertStream R → List ℕ → Type 0
StreamLeaves remaining s text = MayLeave (remaining s.lines.reader.now) (held s.lines.block) text

-- such a text gives these nodes and ends, or this fault, from the next line on
abbrev pub LeavesNodes : {R : Type 0} → (R → Option (List ℕ)) → CertStream R → Reading (List Node) → Type 0
LeavesNodes remaining s read = Gives (stream_version s) (StreamLeaves remaining s) (still_to_come s) (next_line s) read

-- such a text reads as a whole
abbrev pub LeavesCert : {R : Type 0} → (R → Option (List ℕ)) → CertStream R → Reading Cert → Type 0
LeavesCert remaining s reading = (text : List ℕ) × (StreamLeaves remaining s text × Reads text reading)

-- the bytes of a reader, which are any where they aren't known, read so
abbrev pub BytesRead : Option (List ℕ) → Reading Cert → Type 0
BytesRead known reading = (text : List ℕ) × (IfSome known (λ bytes. bytes ≡ text) × Reads text reading)

-- no line was passed yet
pub record IsFresh {R : Type 0} (s : CertStream R) : Type 0 where
  pub passed : s.lines.block.passed ≡ 0
  pub due : still_to_come s ≡ []

-- the reader, and how many bytes were taken of those that it had at first
abbrev pub StreamIsFrom : {R : Type 0} → (R → Option (List ℕ)) → CertStream R → Origin → Type 0
StreamIsFrom remaining s origin = IsOrigin remaining s.lines.reader s.lines.block.taken origin

-- what is wrong with the text is so by what reading it as a whole gives, and else the reader stops
abbrev pub IsCertFault : (Tells : Reading Cert → Type 0) → (taken : ℕ) → SourceFault → Type 0
IsCertFault Tells taken Read = Unit {0}
IsCertFault Tells taken TooLong = Stops taken TooLong
IsCertFault Tells taken (Text OutOfMemory) = Unit {0}
IsCertFault Tells taken (Text (At line fault)) = Tells (Err (At line fault))

-- the same of the nodes that are left
abbrev pub IsNodeFault : (Tells : Reading (List Node) → Type 0) → (taken : ℕ) → SourceFault → Type 0
IsNodeFault Tells taken Read = Unit {0}
IsNodeFault Tells taken TooLong = Stops taken TooLong
IsNodeFault Tells taken (Text OutOfMemory) = Unit {0}
IsNodeFault Tells taken (Text (At line fault)) = Tells (Err (At line fault))

-- The next node stands in front of all that is left behind it; behind the last one nothing is.
abbrev pub LeavesNext : {R : Type 0} → (R → Option (List ℕ)) → (old new : CertStream R) → Option (Node × ℕ) → Type 0
LeavesNext remaining old new None = LeavesNodes remaining old (Ok [])
LeavesNext remaining old new (Some said) =
    (read : Reading (List Node)) → LeavesNodes remaining new read → LeavesNodes remaining old (in_front said.0 read)

-- a node as its lines say it, in front of those that are left
abbrev pub said_in_front : Reading Node → Reading (List Node) → Reading (List Node)
said_in_front said read = said >>= λ node. in_front node read

-- The same where the next node's steps aren't read: what they say is in front of all that is left behind them.
abbrev pub LeavesPiece : {R : Type 0} → (R → Option (List ℕ)) → (old new : CertStream R) → (steps : List ℕ) → Option (Head × ℕ) → Type 0
LeavesPiece remaining old new steps None = LeavesNodes remaining old (Ok [])
LeavesPiece remaining old new steps (Some said) =
    (read : Reading (List Node)) → LeavesNodes remaining new read → LeavesNodes remaining old (said_in_front (node_said (stream_version new) said.0 said.1 steps) read)

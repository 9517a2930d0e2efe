-- Where the check of a stream stands once some of its nodes were passed and leaves wait. Only private contracts ask for it.
use Rattle.std.specs.Prelude.{◌≡◌, ℕ, ◌+◌, ◌-◌, ◌^◌, ◌<◌, ◌≤◌, List, [], ◌∷◌, ◌++◌, All, length, reverse, Option, Some, Result, Ok, Err}
use Rattle.ttp_model.specs.Instance.{Instance}
use Rattle.tt_choice.specs.Choice.{Choice}
use Rattle.tt_choice.specs.Branches.{root_choice}
use Rattle.certificate.specs.declared.branch.Branch.{Branch}
use Rattle.certificate.specs.declared.fault.CertTextError.{CertTextError}
use Rattle.certificate.specs.declared.fault.CertTextError.TheVariants as text
use Rattle.certificate.specs.declared.fault.SourceFault.TheVariants as source
use Rattle.certificate.specs.declared.node.Node.{Node}
use Rattle.certificate.specs.declared.node.Node.TheVariants as node
use Rattle.certificate.specs.declared.stream.CertStream.{CertStream}
use Rattle.certificate.specs.Blocks.{Stops}
use Rattle.certificate.specs.Opened.{still_due}
use Rattle.certificate.specs.Reading.{Reading}
use Rattle.certificate.specs.Sources.{Origin}
use Rattle.certificate.specs.Streams.{stream_version, next_line, still_to_come, bytes_taken, StreamLeaves, LeavesNodes, LeavesNext, StreamIsFrom}
use Rattle.certificate.specs.Trees.{trees_of}
use Rattle.certificate.proofs.Opened.{IsGivenSoFar}
use Rattle.tree_check.specs.declared.fault.CertFault.{CertFault}
use Rattle.tree_check.specs.declared.walk.Walk.{Walk}
use Rattle.tree_check.specs.Proofs.{AreProofs}
use Rattle.tree_check.specs.Turns.{IsWalk}
use Rattle.tree_check.specs.Seen.{ReadLeaf, IsSeen, TellsBranch, TellsFirst, line_behind}
use Rattle.cert_check.specs.declared.leaves.HeldLeaf.{HeldLeaf}
use Rattle.cert_check.specs.declared.ahead.Ahead.{Ahead}
use Rattle.cert_check.specs.declared.ahead.Ahead.TheVariants.{More, End, Fault}
use Rattle.cert_check.specs.declared.batches.Batches.{Batches}
use Rattle.cert_check.specs.declared.fault.StreamFault.{StreamFault}
use Rattle.cert_check.specs.declared.fault.StreamFault.TheVariants.{Read, TooLong, Text, Cert as InCert}
use Rattle.cert_check.specs.Waiting.{Waits, AreRead, IsUnread}

-- ---- the nodes that were taken

-- how many children are still to come of open branches
abbrev pub total_due : List ℕ → ℕ
total_due [] = 0
total_due (count ∷ above) = count + total_due above

-- whatever nodes are left at a place, behind these ones they are what was left at first
abbrev pub AreBehind : {R : Type 0} → (R → Option (List ℕ)) → (first at : CertStream R) → List Node → Type 0
AreBehind remaining first at seen =
    IsGivenSoFar (stream_version first) (StreamLeaves remaining first) (stream_version at) (StreamLeaves remaining at) (still_to_come first)
    (still_to_come at) (next_line first) (next_line at) seen

-- Nodes were taken, of which these leaves wait, and trees for these choices are to follow.
pub record IsReadSoFar {R : Type 0} (i : Instance) (low : ℕ) (remaining : R → Option (List ℕ)) (first at : CertStream R) (left : List Choice)
    (rs : List ReadLeaf) : Type 0 where
  pub seen : List Node
  pub behind_them : AreBehind remaining first at seen
  pub so_far : IsSeen i low seen rs left
  pub line : next_line at ≡ line_behind seen

-- where the steps of those that wait aren't spelled, that is the fault of the text
abbrev pub TellsUnread : {R : Type 0} → (R → Option (List ℕ)) → (first at : CertStream R) → List HeldLeaf → Type 0
TellsUnread remaining first at hs =
    (fault : CertTextError) → IsUnread hs fault → (read : Reading (List Node)) → LeavesNodes remaining at read → LeavesNodes remaining first (Err fault)

-- Nodes were taken, and these leaves wait, whatever their steps say.
pub record IsUnderWay {R : Type 0} (i : Instance) (low : ℕ) (remaining : R → Option (List ℕ)) (first at : CertStream R) (left : List Choice)
    (hs : List HeldLeaf) : Type 0 where
  pub count : length left ≡ total_due (reverse (still_to_come at))
  pub waits : All (Waits i) hs
  pub unread : TellsUnread remaining first at hs
  pub so_far : (rs : List ReadLeaf) → AreRead hs rs → IsReadSoFar i low remaining first at left rs

-- ---- what is ahead of them

-- a fault of lines, or what stopped the reader
abbrev pub IsLinesFault : (Tells : Reading (List Node) → Type 0) → (taken : ℕ) → StreamFault → Type 0
IsLinesFault Tells taken Read = Unit {0}
IsLinesFault Tells taken TooLong = Stops taken source.TooLong
IsLinesFault Tells taken (Text text.OutOfMemory) = Unit {0}
IsLinesFault Tells taken (Text (text.At line fault)) = Tells (Err (text.At line fault))
IsLinesFault Tells taken (InCert fault) = ⊥

-- The next choice is that of a branch with this fault, behind whose line the stream stands.
pub record IsWrongBranch {R : Type 0} (i : Instance) (remaining : R → Option (List ℕ)) (at now : CertStream R) (left : List Choice) (own : CertFault)
    : Type 0 where
  pub branch : Branch
  pub choice : Choice
  pub others : List Choice
  pub left_is : left ≡ choice ∷ others
  pub leaves : LeavesNext remaining at now (Some (node.Branch branch, next_line at))
  pub low_line : next_line at < 2 ^ 63
  pub tells : TellsBranch i choice branch (next_line at) own

-- what is ahead of the nodes that were taken: the stream and the walk stand there, or nothing is, or what is is at fault
abbrev pub IsAhead : {R : Type 0} → Instance → (R → Option (List ℕ)) → (at now : CertStream R) → Walk → List Choice → Ahead → Type 0
IsAhead i remaining at now w left More = (at ≡ now) × IsWalk i w left
IsAhead i remaining at now w left End = LeavesNodes remaining at (Ok []) × (still_due (reverse (still_to_come at)) ≡ [])
IsAhead i remaining at now w left (Fault (InCert own)) = IsWrongBranch i remaining at now left own
IsAhead i remaining at now w left (Fault Read) = Unit {0}
IsAhead i remaining at now w left (Fault TooLong) = Stops (bytes_taken now) source.TooLong
IsAhead i remaining at now w left (Fault (Text text.OutOfMemory)) = Unit {0}
IsAhead i remaining at now w left (Fault (Text (text.At line fault))) = LeavesNodes remaining at (Err (text.At line fault))

-- Some nodes of a stream were taken, these leaves wait, and this is ahead.
pub record Stands {R : Type 0} (i : Instance) (low : ℕ) (remaining : R → Option (List ℕ)) (first now : CertStream R) (w : Walk) (hs : List HeldLeaf)
    (ahead : Ahead) : Type 0 where
  pub at : CertStream R
  pub left : List Choice
  pub under_way : IsUnderWay i low remaining first at left hs
  pub is_ahead : IsAhead i remaining at now w left ahead
  pub from : (origin : Origin) → StreamIsFrom remaining first origin → StreamIsFrom remaining now origin

-- ---- from one batch to the next

-- none was taken, and no leaf waits
pub record IsFirst (i : Instance) (b : Batches) : Type 0 where
  pub walk : IsWalk i b.walk (root_choice i ∷ [])
  pub none_held : b.held.leaves.items ≡ []
  pub open_ahead : b.ahead ≡ More
  pub some : 0 < b.held.most

-- the same of a stream that has said its bound
pub record IsBegun {R : Type 0} (i : Instance) (s : CertStream R) (b : Batches) : Type 0 where
  pub batches : IsFirst i b
  pub due : still_to_come s ≡ 1 ∷ []
  pub line : next_line s ≡ 3

-- some nodes were taken, and these leaves wait behind others
abbrev pub IsSomewhere : {R : Type 0} → Instance → (R → Option (List ℕ)) → CertStream R → Batches → Type 0
IsSomewhere {R} i remaining now b =
    (low : ℕ) × (first : CertStream R) × (front : List HeldLeaf) × Stands i low remaining first now b.walk (front ++ b.held.leaves.items) b.ahead

-- how far it may still go: how many lines, and one step to the end
abbrev pub to_come : {R : Type 0} → Ahead → CertStream R → ℕ
to_come More s = 1 + (2 ^ 64 - s.lines.block.passed)
to_come End s = 0
to_come (Fault fault) s = 0

-- Whichever others they wait behind, further on these wait behind them, no more than may; and it was gone on, or nothing was ahead.
pub record GoesOn {R : Type 0} (i : Instance) (remaining : R → Option (List ℕ)) (s_old s_new : CertStream R) (old new : Batches) : Type 0 where
  pub stands : (low : ℕ) (first : CertStream R) (front : List HeldLeaf) → Stands i low remaining first s_old old.walk (front ++ old.held.leaves.items) old.ahead
      → Stands i low remaining first s_new new.walk (front ++ new.held.leaves.items) new.ahead
  pub few : length new.held.leaves.items ≤ new.held.most
  pub most : new.held.most ≡ old.held.most
  pub less : 0 < to_come old.ahead s_old → to_come new.ahead s_new < to_come old.ahead s_old
  pub still : to_come old.ahead s_old ≡ 0 → new ≡ old

-- ---- what is told of all nodes

-- The nodes that are left begin with a branch that has this fault.
pub record BeginsWrong (i : Instance) (left : List Choice) (line : ℕ) (own : CertFault) (rest : List Node) : Type 0 where
  pub branch : Branch
  pub more : List Node
  pub choice : Choice
  pub others : List Choice
  pub left_is : left ≡ choice ∷ others
  pub rest_is : rest ≡ node.Branch branch ∷ more
  pub low_line : line < 2 ^ 63
  pub tells : TellsBranch i choice branch line own

-- the nodes that are left where this is ahead
abbrev pub Fits : Instance → List Choice → (line : ℕ) → Ahead → List Node → Type 0
Fits i left line More rest = Unit {0}
Fits i left line End rest = rest ≡ []
Fits i left line (Fault (InCert own)) rest = BeginsWrong i left line own rest
Fits i left line (Fault Read) rest = ⊥
Fits i left line (Fault TooLong) rest = ⊥
Fits i left line (Fault (Text error)) rest = ⊥

-- what is said of them
abbrev pub LeavesRest : {R : Type 0} → Instance → (R → Option (List ℕ)) → (at : CertStream R) → List Choice → Ahead → (taken : ℕ)
    → Result (Unit {0}) StreamFault → Type 0
LeavesRest i remaining at left ahead taken (Ok _) = (rest : List Node) × (LeavesNodes remaining at (Ok rest) × Fits i left (next_line at) ahead rest)
LeavesRest i remaining at left ahead taken (Err fault) = IsLinesFault (LeavesNodes remaining at) taken fault

-- what is told where this is wrong with nodes, and that is said of those behind them
abbrev pub told_of : StreamFault → Result (Unit {0}) StreamFault → StreamFault
told_of fault (Ok _) = fault
told_of (Text error) (Err (Text (text.At line other))) = Text error
told_of fault (Err later) = later

-- what is told of all nodes: a proof, or the first fault of their trees, or what is wrong with their text
abbrev pub AnswersAll : {R : Type 0} → Instance → ℕ → (R → Option (List ℕ)) → (first : CertStream R) → (taken : ℕ) → Result (Unit {0}) StreamFault → Type 0
AnswersAll i low remaining first taken (Ok _) =
    (nodes : List Node) × (LeavesNodes remaining first (Ok nodes) × AreProofs i low (root_choice i ∷ []) (trees_of nodes))
AnswersAll i low remaining first taken (Err Read) = Unit {0}
AnswersAll i low remaining first taken (Err TooLong) = Stops taken source.TooLong
AnswersAll i low remaining first taken (Err (Text text.OutOfMemory)) = Unit {0}
AnswersAll i low remaining first taken (Err (Text (text.At line fault))) = LeavesNodes remaining first (Err (text.At line fault))
AnswersAll i low remaining first taken (Err (InCert fault)) =
    (nodes : List Node) × (LeavesNodes remaining first (Ok nodes) × TellsFirst i low (trees_of nodes) fault)

-- where the text is told to be too long, so many bytes were taken
abbrev pub StopsAt : (taken : ℕ) → Result ℕ StreamFault → Type 0
StopsAt taken (Err TooLong) = Stops taken source.TooLong
StopsAt taken _ = Unit {0}

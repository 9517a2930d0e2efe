-- Leaves that wait with steps that aren't read yet. Only private contracts ask for it.
use Rattle.std.specs.Prelude.{◌≡◌, ℕ, ◌+◌, ◌^◌, ◌<◌, List, [], ◌∷◌, ◌++◌, ◌*◌, take, drop, slice_index_or, Bool, false, IsTrue, Contains, ◌⊎◌, Result, Ok, Err}
use Rattle.std.specs.Global.{Vec}
use Rattle.ttp_model.specs.declared.step.Step.{Step}
use Rattle.ttp_model.specs.Instance.{Instance}
use Rattle.tt_choice.specs.Choice.{Choice, IsChoice, bare}
use Rattle.tt_choice.specs.Branches.{IsBranch, child_choices}
use Rattle.certificate.specs.declared.fault.CertTextError.{CertTextError}
use Rattle.certificate.specs.declared.fault.CertTextError.TheVariants as text
use Rattle.certificate.specs.declared.head.Head.{Head}
use Rattle.certificate.specs.declared.head.Head.TheVariants.{OfBranch, OfLeaf}
use Rattle.certificate.specs.declared.node.Node.TheVariants as node
use Rattle.certificate.specs.declared.version.Version.{Version}
use Rattle.certificate.specs.Reading.{Reading}
use Rattle.certificate.specs.RawLines.{steps_in}
use Rattle.tree_check.specs.declared.fault.CertFault.{CertFault}
use Rattle.cert_check.specs.declared.fault.StreamFault.{StreamFault}
use Rattle.cert_check.specs.declared.fault.StreamFault.TheVariants.{Read, TooLong, Text, Cert as InCert}
use Rattle.cert_check.specs.declared.leaves.HeldLeaf.{HeldLeaf}
use Rattle.cert_check.specs.declared.shares.TheConstants.{RUN}
use Rattle.tree_check.specs.declared.walk.Walk.{Walk}
use Rattle.tree_check.specs.Turns.{IsWalk}
use Rattle.tree_check.specs.Seen.{ReadLeaf, TellsNode, TellsBranch, Closes, AllClose, TellsHeld}

-- a leaf waits at a choice of the instance that keeps no decision, and its line is far below those that are told as the last
pub record Waits (i : Instance) (h : HeldLeaf) : Type 0 where
  pub choice : IsChoice i h.choice
  pub none_kept : bare h.choice ≡ h.choice
  pub line : h.line < 2 ^ 63
  pub few : h.count < 2 ^ 32

-- what reading its steps gives
abbrev pub steps_of : HeldLeaf → Reading (List Step)
steps_of h = steps_in h.version h.count (h.line + 1) h.steps.items

-- the leaf with these steps
abbrev pub leaf_with : HeldLeaf → List Step → ReadLeaf
leaf_with h steps = record { choice = h.choice; leaf = record { goal = h.goal; steps = steps }; line = h.line }

-- the steps of each are read, and these are the leaves
abbrev pub AreRead : List HeldLeaf → List ReadLeaf → Type 0
AreRead [] [] = Unit {0}
AreRead [] (r ∷ rs) = ⊥
AreRead (h ∷ hs) [] = ⊥
AreRead (h ∷ hs) (r ∷ rs) = ((steps : List Step) × ((steps_of h ≡ Ok steps) × (r ≡ leaf_with h steps))) × AreRead hs rs

-- this is the first fault of their text
abbrev pub IsUnread : List HeldLeaf → CertTextError → Type 0
IsUnread [] fault = ⊥
IsUnread (h ∷ hs) fault = (steps_of h ≡ Err fault) ⊎ (((steps : List Step) × (steps_of h ≡ Ok steps)) × IsUnread hs fault)

-- what judging one of them answers
abbrev pub IsLeafAnswer : Instance → ℕ → HeldLeaf → Result (Unit {0}) StreamFault → Type 0
IsLeafAnswer i low h (Ok _) = (steps : List Step) × ((steps_of h ≡ Ok steps) × Closes i low (leaf_with h steps))
IsLeafAnswer i low h (Err Read) = ⊥
IsLeafAnswer i low h (Err TooLong) = ⊥
IsLeafAnswer i low h (Err (Text text.OutOfMemory)) = Unit {0}
IsLeafAnswer i low h (Err (Text (text.At line fault))) = steps_of h ≡ Err (text.At line fault)
IsLeafAnswer i low h (Err (InCert fault)) =
    (steps : List Step) × ((steps_of h ≡ Ok steps) × TellsNode i low h.choice (node.Leaf (record { goal = h.goal; steps = steps })) h.line fault)

-- What judging them one after another answers: each is read and closes; or the first fault of their text; or a fault that is the first
-- of the leaves where each is read.
abbrev pub Judges : Instance → ℕ → List HeldLeaf → Result (Unit {0}) StreamFault → Type 0
Judges i low hs (Ok _) = (rs : List ReadLeaf) × (AreRead hs rs × AllClose i low rs)
Judges i low hs (Err Read) = ⊥
Judges i low hs (Err TooLong) = ⊥
Judges i low hs (Err (Text text.OutOfMemory)) = Unit {0}
Judges i low hs (Err (Text (text.At line fault))) = IsUnread hs (text.At line fault)
Judges i low hs (Err (InCert fault)) = (rs : List ReadLeaf) → AreRead hs rs → TellsHeld i low rs fault

-- What is told of all that wait: each is read and closes; or the first fault of their text; or where there is none, the first of the
-- leaves.
abbrev pub Finishes : Instance → ℕ → List HeldLeaf → Result (Unit {0}) StreamFault → Type 0
Finishes i low hs (Ok _) = (rs : List ReadLeaf) × (AreRead hs rs × AllClose i low rs)
Finishes i low hs (Err Read) = ⊥
Finishes i low hs (Err TooLong) = ⊥
Finishes i low hs (Err (Text text.OutOfMemory)) = Unit {0}
Finishes i low hs (Err (Text (text.At line fault))) = IsUnread hs (text.At line fault)
Finishes i low hs (Err (InCert fault)) = (rs : List ReadLeaf) × (AreRead hs rs × TellsHeld i low rs fault)

-- a fault of a leaf, unless these leaves have one of their text
abbrev pub TellsOrUnread : List HeldLeaf → CertFault → StreamFault → Type 0
TellsOrUnread hs own Read = ⊥
TellsOrUnread hs own TooLong = ⊥
TellsOrUnread hs own (Text text.OutOfMemory) = Unit {0}
TellsOrUnread hs own (Text (text.At line fault)) = IsUnread hs (text.At line fault)
TellsOrUnread hs own (InCert fault) = (fault ≡ own) × ((rs : List ReadLeaf) × AreRead hs rs)

-- What is told where this is wrong with a leaf among these or in front of them: a fault of their text goes before one of a leaf.
abbrev pub TellsBefore : List HeldLeaf → (fault told : StreamFault) → Type 0
TellsBefore hs Read told = told ≡ Read
TellsBefore hs TooLong told = told ≡ TooLong
TellsBefore hs (Text error) told = told ≡ Text error
TellsBefore hs (InCert own) told = TellsOrUnread hs own told

-- the leaves of the run at a place, or of the last one those that there are
abbrev pub run_at : ℕ → List HeldLeaf → List HeldLeaf
run_at place hs = take RUN (drop (place * RUN) hs)

-- each leaf of the run at a place is read and closes
abbrev pub RunCloses : Instance → ℕ → List HeldLeaf → ℕ → Type 0
RunCloses i low hs place = Judges i low (run_at place hs) (Ok tt)

-- whatever is marked is one of these places
abbrev pub MarksOnly : List ℕ → ℕ → List Bool → Type 0
MarksOnly places count marks = (place : ℕ) → place < count → IsTrue (slice_index_or marks place false) → Contains places place

-- ---- one node more

-- the leaf of a line that waits at a choice
abbrev pub held_leaf : Choice → Version → (goal count line : ℕ) → Vec ℕ → HeldLeaf
held_leaf c version goal count line steps = record { choice = c; version = version; goal = goal; count = count; line = line; steps = steps }

-- a node was taken at a choice, in front of these others
abbrev pub Takes : Instance → Version → Walk → (old new : List HeldLeaf) → Head → ℕ → Vec ℕ → Choice → List Choice → Type 0
Takes i version w old new (OfBranch branch) line steps c left =
    IsBranch i c branch.kind branch.children × (IsWalk i w (child_choices i c branch.kind ++ left) × (new ≡ old))
Takes i version w old new (OfLeaf goal count) line steps c left =
    Waits i (held_leaf c version goal count line steps) × (IsWalk i w left × (new ≡ old ++ held_leaf c version goal count line steps ∷ []))

-- why a node isn't taken
abbrev pub TakeFails : Instance → Head → ℕ → Choice → StreamFault → Type 0
TakeFails i head line c Read = ⊥
TakeFails i head line c TooLong = ⊥
TakeFails i head line c (Text error) = error ≡ text.OutOfMemory
TakeFails i (OfBranch branch) line c (InCert own) = TellsBranch i c branch line own
TakeFails i (OfLeaf goal count) line c (InCert own) = ⊥

-- Leaves that wait, judged one after another.
use Rattle.std.proofs.Common.{◌≡◌, ℕ, ◌+◌, ◌*◌, ◌<◌, List, [], ◌∷◌, ◌++◌, All, length, slice_index_or, take, drop, Result, Ok, Err, arith, inl, inr, refl, sym, ap, subst, ◌∙◌}
use Rattle.std.proofs.lemmas.List.{take_more, drop_more, take-append-drop}
use Rattle.std.proofs.lemmas.List.Elements.{All-take, All-drop}
use Rattle.std.proofs.Math.Seq.{take-add}
use Rattle.ttp_model.specs.declared.step.Step.{Step}
use Rattle.ttp_model.specs.Instance.{Instance}
use Rattle.certificate.specs.declared.fault.CertTextError.{CertTextError}
use Rattle.certificate.specs.declared.fault.CertTextError.TheVariants as text
use Rattle.certificate.specs.Reading.{IsFaultOf}
use Rattle.tree_check.specs.declared.fault.NodeFault.{NodeFault}
use Rattle.tree_check.specs.declared.fault.CertFault.{CertFault}
use Rattle.tree_check.specs.declared.fault.CertFault.TheVariants.{LowTooGreat, At, OutOfMemory}
use Rattle.cert_check.specs.declared.fault.StreamFault.{StreamFault}
use Rattle.cert_check.specs.declared.fault.StreamFault.TheVariants.{Read, TooLong, Text, Cert as InCert}
use Rattle.cert_check.specs.declared.leaves.HeldLeaf.{HeldLeaf}
use Rattle.tree_check.specs.Seen.{ReadLeaf, IsHeld, AllClose, IsFirstHeldFault, TellsHeld}
use Rattle.cert_check.specs.Waiting.{Waits, steps_of, leaf_with, AreRead, IsUnread, IsLeafAnswer, TellsOrUnread, TellsBefore, Judges, Finishes, RunCloses, run_at}
use Rattle.cert_check.specs.declared.shares.TheConstants.{RUN}
use Rattle.tree_check.proofs.Seen.{close_behind, later_held, first_held}

-- ---- leaves behind others

pub read_behind : (hs others : List HeldLeaf) (rs more : List ReadLeaf) → AreRead hs rs → AreRead others more → AreRead (hs ++ others) (rs ++ more)
read_behind [] others [] more are then = then
read_behind [] others (r ∷ rs) more are then = absurd are
read_behind (h ∷ hs) others [] more are then = absurd are
read_behind (h ∷ hs) others (r ∷ rs) more are then = (are.0, read_behind hs others rs more are.1 then)

pub read_parts : (hs others : List HeldLeaf) (rs : List ReadLeaf) → AreRead (hs ++ others) rs
    → (front : List ReadLeaf) × (more : List ReadLeaf) × ((rs ≡ front ++ more) × (AreRead hs front × AreRead others more))
read_parts [] others rs are = ([], rs, (refl, (tt, are)))
read_parts (h ∷ hs) others [] are = absurd are
read_parts (h ∷ hs) others (r ∷ rs) are =
    let rest = read_parts hs others rs are.1 in
    (r ∷ rest.0, rest.1, (ap (λ (xs : List ReadLeaf). r ∷ xs) rest.2.0, ((are.0, rest.2.1.0), rest.2.1.1)))

-- steps are read in one way
same_steps : (h : HeldLeaf) (steps others : List Step) → steps_of h ≡ Ok steps → steps_of h ≡ Ok others → steps ≡ others
same_steps h steps others one other = let same = sym one ∙ other in cc

pub same_read : (hs : List HeldLeaf) (rs ss : List ReadLeaf) → AreRead hs rs → AreRead hs ss → rs ≡ ss
same_read [] [] [] are ones = refl
same_read [] [] (s ∷ ss) are ones = absurd ones
same_read [] (r ∷ rs) ss are ones = absurd are
same_read (h ∷ hs) [] ss are ones = absurd are
same_read (h ∷ hs) (r ∷ rs) [] are ones = absurd ones
same_read (h ∷ hs) (r ∷ rs) (s ∷ ss) are ones =
    let steps = same_steps h are.0.0 ones.0.0 are.0.1.0 ones.0.1.0 in
    let first : r ≡ s = are.0.1.1 ∙ (ap (leaf_with h) steps ∙ sym ones.0.1.1) in
    ap (λ (x : ReadLeaf). x ∷ rs) first ∙ ap (λ (xs : List ReadLeaf). s ∷ xs) (same_read hs rs ss are.1 ones.1)

pub unread_front : (hs others : List HeldLeaf) (fault : CertTextError) → IsUnread hs fault → IsUnread (hs ++ others) fault
unread_front [] others fault is = absurd is
unread_front (h ∷ hs) others fault is = elim is [
  | inl own ↦ inl own
  | inr later ↦ inr (later.0, unread_front hs others fault later.1)
]

pub unread_behind : (hs others : List HeldLeaf) (rs : List ReadLeaf) (fault : CertTextError) → AreRead hs rs → IsUnread others fault
    → IsUnread (hs ++ others) fault
unread_behind [] others rs fault are is = is
unread_behind (h ∷ hs) others [] fault are is = absurd are
unread_behind (h ∷ hs) others (r ∷ rs) fault are is = inr ((are.0.0, are.0.1.0), unread_behind hs others rs fault are.1 is)

pub first_in_front : (i : Instance) (low : ℕ) (rs more : List ReadLeaf) (at : ℕ) (fault : NodeFault) → IsFirstHeldFault i low rs at fault
    → IsFirstHeldFault i low (rs ++ more) at fault
first_in_front i low [] more at fault is = absurd is
first_in_front i low (r ∷ rs) more at fault is = elim is [
  | inl own ↦ inl own
  | inr later ↦ inr (later.0, first_in_front i low rs more at fault later.1)
]

pub tells_in_front : (i : Instance) (low : ℕ) (rs more : List ReadLeaf) (fault : CertFault) → TellsHeld i low rs fault → TellsHeld i low (rs ++ more) fault
tells_in_front i low rs more LowTooGreat tells = tells
tells_in_front i low rs more (At at fault) tells = (tells.0, tells.1, first_in_front i low rs more tells.0 fault tells.2)
tells_in_front i low rs more OutOfMemory tells = tt

pub tells_behind : (i : Instance) (low : ℕ) (rs more : List ReadLeaf) (fault : CertFault) → AllClose i low rs → TellsHeld i low more fault
    → TellsHeld i low (rs ++ more) fault
tells_behind i low [] more fault closed tells = tells
tells_behind i low (r ∷ rs) more fault closed tells = later_held i low r (rs ++ more) fault closed.0 (tells_behind i low rs more fault closed.1 tells)

-- ---- judged one after another

module _ (i : Instance) (low : ℕ) where
  pub none_judged : Judges i low [] (Ok tt)
  none_judged = ([], (tt, tt))

  pub one_judged : (h : HeldLeaf) (answer : Result (Unit {0}) StreamFault) → Waits i h → IsLeafAnswer i low h answer → Judges i low (h ∷ []) answer
  one_judged h (Ok u) waits own = (leaf_with h own.0 ∷ [], (((own.0, (own.1.0, refl)), tt), (own.1.1, tt)))
  one_judged h (Err Read) waits own = own
  one_judged h (Err TooLong) waits own = own
  one_judged h (Err (Text text.OutOfMemory)) waits own = tt
  one_judged h (Err (Text (text.At line fault))) waits own = inl own
  one_judged h (Err (InCert fault)) waits own = λ rs are.
      let held : IsHeld i (leaf_with h own.0) = record { choice = waits.choice; line = omega (arith, waits.line) } in
      let same : rs ≡ leaf_with h own.0 ∷ [] = same_read (h ∷ []) rs (leaf_with h own.0 ∷ []) are ((own.0, (own.1.0, refl)), tt) in
      rw same (first_held i low (leaf_with h own.0) [] fault held own.1.1)

  -- behind some that close, others answer for all
  pub judged_behind : (hs others : List HeldLeaf) (answer : Result (Unit {0}) StreamFault) → Judges i low hs (Ok tt) → Judges i low others answer
      → Judges i low (hs ++ others) answer
  judged_behind hs others (Ok u) front own =
      (front.0 ++ own.0, (read_behind hs others front.0 own.0 front.1.0 own.1.0, close_behind i low front.0 own.0 front.1.1 own.1.1))
  judged_behind hs others (Err Read) front own = own
  judged_behind hs others (Err TooLong) front own = own
  judged_behind hs others (Err (Text text.OutOfMemory)) front own = tt
  judged_behind hs others (Err (Text (text.At line fault))) front own = unread_behind hs others front.0 (text.At line fault) front.1.0 own
  judged_behind hs others (Err (InCert fault)) front own = λ rs are.
      let parts = read_parts hs others rs are in
      let same : front.0 ≡ parts.0 = same_read hs front.0 parts.0 front.1.0 parts.2.1.0 in
      rw parts.2.0 (tells_behind i low parts.0 parts.1 fault (subst (AllClose i low) same front.1.1) (own parts.1 parts.2.1.1))

  -- and what is wrong with some is what is wrong with them and others behind them
  pub judged_in_front : (hs others : List HeldLeaf) (fault : StreamFault) → Judges i low hs (Err fault) → Judges i low (hs ++ others) (Err fault)
  judged_in_front hs others Read own = own
  judged_in_front hs others TooLong own = own
  judged_in_front hs others (Text text.OutOfMemory) own = tt
  judged_in_front hs others (Text (text.At line fault)) own = unread_front hs others (text.At line fault) own
  judged_in_front hs others (InCert fault) own = λ rs are.
      let parts = read_parts hs others rs are in
      rw parts.2.0 (tells_in_front i low parts.0 parts.1 fault (own parts.0 parts.2.1.0))

  -- ---- what is told of all, once their text was read

  -- of those that were judged
  pub told_once : (hs : List HeldLeaf) (fault told : StreamFault) → Judges i low hs (Err fault) → TellsBefore hs fault told → Finishes i low hs (Err told)
  told_once hs Read told own tells = absurd own
  told_once hs TooLong told own tells = absurd own
  told_once hs (Text text.OutOfMemory) told own tells = rw tells tt
  told_once hs (Text (text.At line fault)) told own tells = rw tells own
  told_once hs (InCert fault) Read own tells = absurd tells
  told_once hs (InCert fault) TooLong own tells = absurd tells
  told_once hs (InCert fault) (Text text.OutOfMemory) own tells = tt
  told_once hs (InCert fault) (Text (text.At line other)) own tells = tells
  told_once hs (InCert fault) (InCert other) own tells = (tells.1.0, (tells.1.1, rw tells.0 (own tells.1.0 tells.1.1)))

  -- and of others behind them
  pub told_further : (hs others : List HeldLeaf) (fault told : StreamFault) → Finishes i low hs (Err fault) → TellsBefore others fault told
      → Finishes i low (hs ++ others) (Err told)
  told_further hs others Read told own tells = absurd own
  told_further hs others TooLong told own tells = absurd own
  told_further hs others (Text text.OutOfMemory) told own tells = rw tells tt
  told_further hs others (Text (text.At line fault)) told own tells = rw tells (unread_front hs others (text.At line fault) own)
  told_further hs others (InCert fault) Read own tells = absurd tells
  told_further hs others (InCert fault) TooLong own tells = absurd tells
  told_further hs others (InCert fault) (Text text.OutOfMemory) own tells = tt
  told_further hs others (InCert fault) (Text (text.At line other)) own tells = unread_behind hs others own.0 (text.At line other) own.1.0 tells
  told_further hs others (InCert fault) (InCert other) own tells =
      (own.0 ++ tells.1.0, (read_behind hs others own.0 tells.1.0 own.1.0 tells.1.1, rw tells.0 (tells_in_front i low own.0 tells.1.0 fault own.1.1)))

-- ---- a leaf at its place

module _ (hs : List HeldLeaf) (k : ℕ) (h : HeldLeaf) (inside : k < length hs) (here : h ≡ slice_index_or hs k h) where
  with_leaf : take (k + 1) hs ≡ take k hs ++ h ∷ []
  with_leaf = take_more hs k h inside ∙ ap (λ (x : HeldLeaf). take k hs ++ x ∷ []) (sym here)

  at_leaf : take k hs ++ h ∷ drop (k + 1) hs ≡ hs
  at_leaf =
      let rest : drop k hs ≡ h ∷ drop (k + 1) hs = drop_more hs k h inside ∙ ap (λ (x : HeldLeaf). x ∷ drop (k + 1) hs) (sym here) in
      ap (λ (xs : List HeldLeaf). take k hs ++ xs) (sym rest) ∙ take-append-drop k hs

  pub leaf_waits_here : (i : Instance) → All (Waits i) hs → Waits i h
  leaf_waits_here i waits = subst (Waits i) (sym here) (waits k h inside)

  pub text_read : (steps : List Step) → ((rs : List ReadLeaf) × AreRead (take k hs) rs) → steps_of h ≡ Ok steps
      → (rs : List ReadLeaf) × AreRead (take (k + 1) hs) rs
  text_read steps before is =
      (before.0 ++ leaf_with h steps ∷ [], rw with_leaf (read_behind (take k hs) (h ∷ []) before.0 (leaf_with h steps ∷ []) before.1 ((steps, (is, refl)), tt)))

  pub text_unread : (own : CertFault) (fault : CertTextError) → ((rs : List ReadLeaf) × AreRead (take k hs) rs)
      → IsFaultOf (Unit {0}) fault (steps_of h) → TellsOrUnread hs own (Text fault)
  text_unread own text.OutOfMemory before is = tt
  text_unread own (text.At line fault) before is =
      subst (λ (xs : List HeldLeaf). IsUnread xs (text.At line fault)) at_leaf (unread_behind (take k hs) (h ∷ drop (k + 1) hs) before.0
      (text.At line fault) before.1 (inl is))

  module _ (i : Instance) (low : ℕ) (closed : Judges i low (take k hs) (Ok tt)) where
    pub judged_on : Judges i low (h ∷ []) (Ok tt) → Judges i low (take (k + 1) hs) (Ok tt)
    judged_on own = rw with_leaf (judged_behind i low (take k hs) (h ∷ []) (Ok tt) closed own)

    pub judged_fault : (fault : StreamFault) → Judges i low (h ∷ []) (Err fault) → Judges i low hs (Err fault)
    judged_fault fault own =
        let behind : Judges i low (h ∷ drop (k + 1) hs) (Err fault) = judged_in_front i low (h ∷ []) (drop (k + 1) hs) fault own in
        subst (λ (xs : List HeldLeaf). Judges i low xs (Err fault)) at_leaf (judged_behind i low (take k hs) (h ∷ drop (k + 1) hs) (Err fault) closed behind)

-- ---- runs

-- what holds of each leaf holds of the leaves of each run
pub run_of : (P : HeldLeaf → Type 0) (place : ℕ) (hs : List HeldLeaf) → All P hs → All P (run_at place hs)
run_of P place hs all = All-take P RUN (drop (place * RUN) hs) (All-drop P (place * RUN) hs all)

-- the leaves in front of a run, and the run
pub with_run : (place : ℕ) (hs : List HeldLeaf) → take ((place + 1) * RUN) hs ≡ take (place * RUN) hs ++ run_at place hs
with_run place hs =
    let more : (place + 1) * RUN ≡ place * RUN + RUN = omega arith in
    ap (λ (n : ℕ). take n hs) more ∙ take-add (place * RUN) RUN hs

-- one run more closes
pub closed_on : (i : Instance) (low place : ℕ) (hs : List HeldLeaf) → Judges i low (take (place * RUN) hs) (Ok tt) → RunCloses i low hs place
    → Judges i low (take ((place + 1) * RUN) hs) (Ok tt)
closed_on i low place hs before own = rw (with_run place hs) (judged_behind i low (take (place * RUN) hs) (run_at place hs) (Ok tt) before own)

-- a run is at fault, and so are all
pub run_fails : (i : Instance) (low place : ℕ) (hs : List HeldLeaf) (fault : StreamFault) → Judges i low (take (place * RUN) hs) (Ok tt)
    → Judges i low (run_at place hs) (Err fault) → Judges i low hs (Err fault)
run_fails i low place hs fault before own =
    let so_far : Judges i low (take ((place + 1) * RUN) hs) (Err fault) = subst (λ (xs : List HeldLeaf). Judges i low xs (Err fault))
    (sym (with_run place hs)) (judged_behind i low (take (place * RUN) hs) (run_at place hs) (Err fault) before own) in
    subst (λ (xs : List HeldLeaf). Judges i low xs (Err fault)) (take-append-drop ((place + 1) * RUN) hs)
    (judged_in_front i low (take ((place + 1) * RUN) hs) (drop ((place + 1) * RUN) hs) fault so_far)

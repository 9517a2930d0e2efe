-- One more process or message: it is the node's, and a demand of its own, or it is another's.
use Rattle.std.proofs.Common.{◌≡◌, ◌≢◌, ℕ, ◌+◌, ◌*◌, ◌&&◌, ◌==◌, nat_le, if◌then◌else◌, Bool, true, false, IsTrue, IsFalse, List, [], ◌∷◌, ◌++◌, arith, inl, inr, refl, ap, ◌∙◌}
use Rattle.std.proofs.lemmas.Bool.{eq-eqb}
use Rattle.std.proofs.lemmas.Bool.Decides.{eqb_tells}
use Rattle.std.proofs.lemmas.List.Sums.{sum_by_push}
use Rattle.std.proofs.Math.Nat.{mul-zero}
use Rattle.ttp_model.specs.Instance.{Instance, message_at, node_of, source_of}
use Rattle.ttp_model.proofs.Totals.{total_next}
use Rattle.tt_choice.specs.Choice.{Choice}
use Rattle.tt_infer.specs.Known.{Known, es_of, le_of, lo_of, top_of}
use Rattle.tt_infer.specs.Premises.{wcet_of, load_within, copies, counts_on, bytes_within, bytes_copied, bytes_counted}
use Rattle.load_bounds.specs.declared.demands.Demand.{Demand}
use Rattle.load_bounds.specs.Within.{part_within}
use Rattle.load_bounds.specs.Gathered.{AreRuns, AreSendings, AreSendingsOn}

-- what is selected by a test of the node and one of the bounds
own : (m n : ℕ) (inside : Bool) (size : ℕ) → m ≡ n → (if (m == n) && inside then size else 0) ≡ (if inside then size else 0)
own m n inside size is = rw (eq-eqb _ _ is) refl

other : (m n : ℕ) (inside : Bool) (size : ℕ) → m ≢ n → (if (m == n) && inside then size else 0) ≡ 0
other m n inside size differ = elim (eqb_tells m n) [
  | inl same ↦ absurd (differ same.1)
  | inr not ↦ rw not.0 refl
]

-- the demand that a process of the node makes
abbrev pub run_of : Instance → Known → ℕ → Demand
run_of i f p = record { from = es_of f p; until = le_of f p; size = wcet_of i p }

pub one_more_run : (i : Instance) (f : Known) (n p : ℕ) (ds : List Demand) → AreRuns i f n p ds → node_of i p ≡ n → AreRuns i f n (p + 1) (ds ++ run_of i f p ∷ [])
one_more_run i f n p ds runs is a b =
    let before = runs a b in
    let more = total_next (load_within i f n a b) p in
    let pushed = sum_by_push (part_within a b) ds (run_of i f p) in
    let same : load_within i f n a b p ≡ part_within a b (run_of i f p) = own (node_of i p) n (nat_le a (es_of f p) && nat_le (le_of f p) b) (wcet_of i p) is in
    omega (arith, before, more, pushed, same)

pub no_more_run : (i : Instance) (f : Known) (n p : ℕ) (ds : List Demand) → AreRuns i f n p ds → node_of i p ≢ n → AreRuns i f n (p + 1) ds
no_more_run i f n p ds runs differ a b =
    let before = runs a b in
    let more = total_next (load_within i f n a b) p in
    let none : load_within i f n a b p ≡ 0 = other (node_of i p) n (nat_le a (es_of f p) && nat_le (le_of f p) b) (wcet_of i p) differ in
    omega (arith, before, more, none)

-- what is selected, so many times
times : (k : ℕ) (b : Bool) (size : ℕ) → k * (if b then size else 0) ≡ (if b then k * size else 0)
times k true size = refl
times k false size = mul-zero k

-- what a message puts into the frames of its own node
bytes_own : (i : Instance) (f : Known) (n a b m : ℕ) → source_of i m ≡ n → bytes_within i f n a b m ≡ (if nat_le a (lo_of f m) && nat_le (top_of f m) b then (message_at i m).bytes else 0)
bytes_own i f n a b m is = own (source_of i m) n (nat_le a (lo_of f m) && nat_le (top_of f m) b) (message_at i m).bytes is

bytes_other : (i : Instance) (f : Known) (n a b m : ℕ) → source_of i m ≢ n → bytes_within i f n a b m ≡ 0
bytes_other i f n a b m differ = other (source_of i m) n (nat_le a (lo_of f m) && nat_le (top_of f m) b) (message_at i m).bytes differ

-- the demand that a message of the node makes on all channels
abbrev pub sending_of : Instance → Choice → Known → ℕ → Demand
sending_of i c f m = record { from = lo_of f m; until = top_of f m; size = copies c m * (message_at i m).bytes }

pub one_more_sending : (i : Instance) (c : Choice) (f : Known) (n m : ℕ) (ds : List Demand) → AreSendings i c f n m ds → source_of i m ≡ n → AreSendings i c f n (m + 1) (ds ++ sending_of i c f m ∷ [])
one_more_sending i c f n m ds sendings is a b =
    let before = sendings a b in
    let more = total_next (bytes_copied i c f n a b) m in
    let pushed = sum_by_push (part_within a b) ds (sending_of i c f m) in
    let once = ap (λ (bytes : ℕ). copies c m * bytes) (bytes_own i f n a b m is) in
    let same : bytes_copied i c f n a b m ≡ part_within a b (sending_of i c f m) = once ∙ times (copies c m) (nat_le a (lo_of f m) && nat_le (top_of f m) b) (message_at i m).bytes in
    omega (arith, before, more, pushed, same)

pub no_more_sending : (i : Instance) (c : Choice) (f : Known) (n m : ℕ) (ds : List Demand) → AreSendings i c f n m ds → source_of i m ≢ n → AreSendings i c f n (m + 1) ds
no_more_sending i c f n m ds sendings differ a b =
    let before = sendings a b in
    let more = total_next (bytes_copied i c f n a b) m in
    let none : bytes_copied i c f n a b m ≡ 0 = ap (λ (bytes : ℕ). copies c m * bytes) (bytes_other i f n a b m differ) ∙ mul-zero (copies c m) in
    omega (arith, before, more, none)

-- what counts, and what doesn't
counted : (b : Bool) (size : ℕ) → IsTrue b → (if b then size else 0) ≡ size
counted b size is = rw is refl

uncounted : (b : Bool) (size : ℕ) → IsFalse b → (if b then size else 0) ≡ 0
uncounted b size not = rw not refl

nothing : (b : Bool) (size : ℕ) → size ≡ 0 → (if b then size else 0) ≡ 0
nothing true size none = none
nothing false size none = refl

-- the demand that it makes on one channel
abbrev pub sending_on : Instance → Known → ℕ → Demand
sending_on i f m = record { from = lo_of f m; until = top_of f m; size = (message_at i m).bytes }

pub one_more_on : (i : Instance) (c : Choice) (f : Known) (k n m : ℕ) (ds : List Demand) → AreSendingsOn i c f k n m ds → IsTrue (counts_on c k m) → source_of i m ≡ n → AreSendingsOn i c f k n (m + 1) (ds ++ sending_on i f m ∷ [])
one_more_on i c f k n m ds sendings counts is a b =
    let before = sendings a b in
    let more = total_next (bytes_counted i c f k n a b) m in
    let pushed = sum_by_push (part_within a b) ds (sending_on i f m) in
    let same : bytes_counted i c f k n a b m ≡ part_within a b (sending_on i f m) = counted (counts_on c k m) (bytes_within i f n a b m) counts ∙ bytes_own i f n a b m is in
    omega (arith, before, more, pushed, same)

no_more_of_none : (i : Instance) (c : Choice) (f : Known) (k n m : ℕ) (ds : List Demand) → AreSendingsOn i c f k n m ds → ((a b : ℕ) → bytes_counted i c f k n a b m ≡ 0) → AreSendingsOn i c f k n (m + 1) ds
no_more_of_none i c f k n m ds sendings none a b =
    let before = sendings a b in
    let more = total_next (bytes_counted i c f k n a b) m in
    let here = none a b in
    omega (arith, before, more, here)

pub no_more_uncounted : (i : Instance) (c : Choice) (f : Known) (k n m : ℕ) (ds : List Demand) → AreSendingsOn i c f k n m ds → IsFalse (counts_on c k m) → AreSendingsOn i c f k n (m + 1) ds
no_more_uncounted i c f k n m ds sendings not = no_more_of_none i c f k n m ds sendings (λ a b. uncounted (counts_on c k m) (bytes_within i f n a b m) not)

pub no_more_on : (i : Instance) (c : Choice) (f : Known) (k n m : ℕ) (ds : List Demand) → AreSendingsOn i c f k n m ds → source_of i m ≢ n → AreSendingsOn i c f k n (m + 1) ds
no_more_on i c f k n m ds sendings differ = no_more_of_none i c f k n m ds sendings (λ a b. nothing (counts_on c k m) (bytes_within i f n a b m) (bytes_other i f n a b m differ))

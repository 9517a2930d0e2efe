-- What is known of the plans that are sought, and what it says of a plan. Ticks; rounds from 0. Own profile.
use Rattle.std.specs.Prelude.{◌≡◌, ℕ, ◌+◌, ◌*◌, ◌<◌, ◌≤◌, List, length, slice_index, map, replicate, Bool, false, IsTrue, IsFalse}
use Rattle.ttp_model.specs.declared.plan.Plan.{Plan}
use Rattle.ttp_model.specs.Instance.{Instance}
use Rattle.ttp_model.specs.Plans.{EndsBefore, start_of, end_of, round_of}
use Rattle.ttp_model.specs.Moves.{IsSettled}
use Rattle.ttp_model.specs.Delays.{delay}
use Rattle.tt_choice.specs.Precedence.{Precedence, goes_before}
use Rattle.tt_choice.specs.Choice.{Choice, IsIn}

-- by process the earliest start and the latest end; by message the least round and the first round
-- that is too late; which processes go before which; and whether no plan is left
pub record Known : Type 0 where
  pub es : List ℕ
  pub le : List ℕ
  pub lo : List ℕ
  pub top : List ℕ
  pub bef : Precedence
  pub closed : Bool

-- process p starts at this time or later
abbrev pub es_of : Known → ℕ → ℕ
es_of f p = slice_index f.es p

-- process p ends at this time or earlier
abbrev pub le_of : Known → ℕ → ℕ
le_of f p = slice_index f.le p

-- message m is sent in this round or later
abbrev pub lo_of : Known → ℕ → ℕ
lo_of f m = slice_index f.lo m

-- message m is sent in an earlier round
abbrev pub top_of : Known → ℕ → ℕ
top_of f m = slice_index f.top m

-- process p ends before process q starts
abbrev pub bef_of : Known → ℕ → ℕ → Bool
bef_of f p q = goes_before f.bef p q

-- what is known at first: all starts, ends within the horizon, and what is chosen
abbrev pub first_facts : Instance → Choice → Known
first_facts i c = record {
  es = replicate (length i.processes) 0;
  le = replicate (length i.processes) i.cluster.horizon;
  lo = c.lo;
  top = map (λ r. r + 1) c.hi;
  bef = c.before;
  closed = false;
}

-- something is known of each process and of each message of the instance
pub record Fits (i : Instance) (f : Known) : Type 0 where
  pub es : length f.es ≡ length i.processes
  pub le : length f.le ≡ length i.processes
  pub lo : length f.lo ≡ length i.messages
  pub top : length f.top ≡ length i.messages
  pub processes : f.bef.processes ≡ length i.processes
  pub tests : length f.bef.tests ≡ length i.processes * length i.processes

-- a plan that is sought: a settled one in the choice, with a delay below the goal
pub record IsSought (i : Instance) (c : Choice) (goal : ℕ) (plan : Plan) : Type 0 where
  pub settled : IsSettled i plan
  pub chosen : IsIn i c plan
  pub better : delay i plan < goal

-- what is known is true of a plan; of none, where no plan is left
pub record AreTrueOf (i : Instance) (plan : Plan) (f : Known) : Type 0 where
  pub es : (p : ℕ) → p < length i.processes → es_of f p ≤ start_of plan p
  pub le : (p : ℕ) → p < length i.processes → end_of i plan p ≤ le_of f p
  pub lo : (m : ℕ) → m < length i.messages → lo_of f m ≤ round_of plan m
  pub top : (m : ℕ) → m < length i.messages → round_of plan m < top_of f m
  pub bef : (p q : ℕ) → IsTrue (bef_of f p q) → EndsBefore i plan p q
  pub some_left : IsFalse f.closed

-- the facts hold: they are true of each plan that is sought
abbrev pub Hold : Instance → Choice → ℕ → Known → Type 0
Hold i c goal f = (plan : Plan) → IsSought i c goal plan → AreTrueOf i plan f

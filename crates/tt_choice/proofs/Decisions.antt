-- A choice with one decision more, or several.
use Rattle.std.proofs.Common.{◌≡◌, ℕ, List, [], ◌∷◌, ◌++◌, refl}
use Rattle.ttp_model.specs.declared.plan.Plan.{Plan}
use Rattle.ttp_model.specs.declared.step.Kind.{Kind}
use Rattle.ttp_model.specs.Instance.{Instance}
use Rattle.tt_choice.specs.declared.decision.Decision.{Decision}
use Rattle.tt_choice.specs.declared.decision.Decision.TheVariants as decided
use Rattle.tt_choice.specs.Choice.{Choice, IsChoice, IsIn}
use Rattle.tt_choice.specs.Kinds.{child}
use Rattle.tt_choice.specs.Decisions.{choice_after, IsOpenDecision, choice_after_all, AreOpenDecisions, decision_of}
pub use Rattle.tt_choice.proofs.Rows.{decision_is_open}
use Rattle.tt_choice.proofs.Members.{IsIn-place, IsIn-fix, IsIn-order, IsIn-at_most, IsIn-at_least, IsIn-fix_channel}
use Rattle.tt_choice.proofs.Changes.{IsChoice-place, IsChoice-fix, IsChoice-order, IsChoice-at_most, IsChoice-at_least, IsChoice-fix_channel}

-- it is a choice of the instance
pub IsChoice-after : (i : Instance) (c : Choice) (d : Decision) → IsChoice i c → IsOpenDecision i c d → IsChoice i (choice_after i c d)
IsChoice-after i c (decided.Place n) ok is = IsChoice-place i c n ok is
IsChoice-after i c (decided.Cap n k) ok is = IsChoice-fix i c n k ok is.free.0 is.option
IsChoice-after i c (decided.Before p q) ok is = IsChoice-order i c p q ok is
IsChoice-after i c (decided.AtMost m r) ok is = IsChoice-at_most i c m r ok is
IsChoice-after i c (decided.AtLeast m r) ok is = IsChoice-at_least i c m r ok is.message is.to
IsChoice-after i c (decided.Channel m k) ok is = IsChoice-fix_channel i c m k ok is.free.message is.free.free is.known

pub IsChoice-after_all : (i : Instance) (c : Choice) (ds : List Decision) → IsChoice i c → AreOpenDecisions i c ds → IsChoice i (choice_after_all i c ds)
IsChoice-after_all i c [] ok are = ok
IsChoice-after_all i c (d ∷ ds) ok are = IsChoice-after_all i (choice_after i c d) ds (IsChoice-after i c d ok are.0) are.1

-- its plans are plans of the choice
pub IsIn-after : (i : Instance) (c : Choice) (d : Decision) (plan : Plan) → IsChoice i c → IsOpenDecision i c d → IsIn i (choice_after i c d) plan → IsIn i c plan
IsIn-after i c (decided.Place n) plan ok is v = ((IsIn-place i c plan n).0 v).0
IsIn-after i c (decided.Cap n k) plan ok is v = ((IsIn-fix i c plan n k ok is.free.0 is.free.1).0 v).0
IsIn-after i c (decided.Before p q) plan ok is v = ((IsIn-order i c plan p q ok is).0 v).0
IsIn-after i c (decided.AtMost m r) plan ok is v = ((IsIn-at_most i c plan m r ok is.message is.below).0 v).0
IsIn-after i c (decided.AtLeast m r) plan ok is v = ((IsIn-at_least i c plan m r ok is.message is.above).0 v).0
IsIn-after i c (decided.Channel m k) plan ok is v = ((IsIn-fix_channel i c plan m k ok is.free.message is.free.free).0 v).0

-- one decision more at the end
pub after_all-more : (i : Instance) (c : Choice) (ds : List Decision) (d : Decision) → choice_after_all i c (ds ++ d ∷ []) ≡ choice_after i (choice_after_all i c ds) d
after_all-more i c [] d = refl
after_all-more i c (first ∷ ds) d = after_all-more i (choice_after i c first) ds d

pub open-more : (i : Instance) (c : Choice) (ds : List Decision) (d : Decision) → AreOpenDecisions i c ds → IsOpenDecision i (choice_after_all i c ds) d → AreOpenDecisions i c (ds ++ d ∷ [])
open-more i c [] d are is = (is, tt)
open-more i c (first ∷ ds) d are is = (are.0, open-more i (choice_after i c first) ds d are.1 is)

-- the first of open decisions are open, and so is the next of them
pub open-front : (i : Instance) (c : Choice) (ds es : List Decision) → AreOpenDecisions i c (ds ++ es) → AreOpenDecisions i c ds
open-front i c [] es are = tt
open-front i c (first ∷ ds) es are = (are.0, open-front i (choice_after i c first) ds es are.1)

pub open-next : (i : Instance) (c : Choice) (ds : List Decision) (d : Decision) (es : List Decision) → AreOpenDecisions i c (ds ++ d ∷ es) → IsOpenDecision i (choice_after_all i c ds) d
open-next i c [] d es are = are.0
open-next i c (first ∷ ds) d es are = open-next i (choice_after i c first) ds d es are.1

-- the decision of a child makes it, and is open
pub child_after : (i : Instance) (c : Choice) (kind : Kind) (k : ℕ) → child i c kind k ≡ choice_after i c (decision_of i c kind k)
child_after i c kind k = refl

-- One attempt after another to better a plan is an attempt.
use Rattle.std.proofs.Common.{◌≡◌, ℕ, ◌+◌, ◌≤◌, ◌||◌, Bool, true, false, arith, refl, subst, sym, ap, ◌∙◌, below_more}
use Rattle.std.proofs.lemmas.Bool.{false≢true}
use Rattle.ttp_model.specs.declared.plan.Plan.{Plan}
use Rattle.ttp_model.specs.Lists.{EachBelow}
use Rattle.ttp_model.specs.Instance.{Instance}
use Rattle.ttp_model.specs.Rules.{IsInstance}
use Rattle.ttp_model.specs.Plans.{IsValid}
use Rattle.ttp_model.specs.Delays.{delay}
use Rattle.ttp_model.specs.Moves.{Move, MovesLead, none, weight}
use Rattle.ttp_model.proofs.Delays.{keeps_delay}
use Rattle.ttp_model.proofs.Lighter.{lowers_weight}
use Rattle.ttp_model.proofs.Reached.{leads_on, leads_one, lighter_still}
use Rattle.tt_settle.specs.Settling.{IsBetter, IsTried}

-- a move to a valid plan betters a plan
pub better_by_move : (i : Instance) (plan moved : Plan) → IsInstance i → IsValid i plan → IsValid i moved → Move i plan moved → IsBetter i plan moved
better_by_move i plan moved w v after move = record {
  valid = after;
  leads = leads_one i plan moved move after;
  delay = keeps_delay i plan moved w v after move;
  lighter = lowers_weight i plan moved w v after move;
}

better_still : (i : Instance) (a b c : Plan) → IsBetter i a b → IsBetter i b c → IsBetter i a c
better_still i a b c one two = record {
  valid = two.valid;
  leads = leads_on i a b c one.leads two.leads;
  delay = omega (arith, one.delay, two.delay);
  lighter = lighter_still (weight i a) (weight i b) (weight i c) one.lighter two.lighter;
}

module _ (i : Instance) (plan : Plan) where
  -- there was a move
  pub tried_moved : (R : Plan → Type 0) (next : Plan) → IsBetter i plan next → IsTried i plan R next true
  tried_moved R next better = record {
    better = λ _. better;
    same = λ h. absurd (false≢true (sym h));
    rests = λ h. absurd (false≢true (sym h));
  }

  -- there was none
  pub tried_none : (R : Plan → Type 0) (next : Plan) → next ≡ plan → R plan → IsTried i plan R next false
  tried_none R next same rests = record {
    better = λ h. absurd (false≢true h);
    same = λ _. same;
    rests = λ _. rests;
  }

  -- the plan stays valid, its delay grows no larger, and moves led to it
  pub tried_valid : (R : Plan → Type 0) (next : Plan) (moved : Bool) → IsValid i plan → IsTried i plan R next moved → IsValid i next
  tried_valid R next true v t = (t.better refl).valid
  tried_valid R next false v t = subst (IsValid i) (sym (t.same refl)) v

  pub tried_delay : (R : Plan → Type 0) (next : Plan) (moved : Bool) → IsTried i plan R next moved → delay i next ≤ delay i plan
  tried_delay R next true t = (t.better refl).delay
  tried_delay R next false t = omega (arith, ap (delay i) (t.same refl))

  pub tried_leads : (R : Plan → Type 0) (next : Plan) (moved : Bool) → IsTried i plan R next moved → MovesLead i plan next
  tried_leads R next true t = (t.better refl).leads
  tried_leads R next false t = subst (MovesLead i plan) (sym (t.same refl)) (none plan)

  -- what rests may be said otherwise
  pub tried_as : (R S : Plan → Type 0) (next : Plan) (moved : Bool) → (R next → S next) → IsTried i plan R next moved → IsTried i plan S next moved
  tried_as R S next moved so t = record {
    better = t.better;
    same = t.same;
    rests = λ h. subst S (t.same h) (so (subst R (sym (t.same h)) (t.rests h)));
  }

  -- a second attempt after a first
  pub tried_then : (R S T : Plan → Type 0) (next last : Plan) (moved again : Bool) → (R next → S next → T next) → IsTried i plan R next moved → IsTried i next S last again → IsTried i plan T last (moved || again)
  tried_then R S T next last true true so t u = tried_moved _ last (better_still i plan next last (t.better refl) (u.better refl))
  tried_then R S T next last true false so t u = tried_moved _ last (subst (IsBetter i plan) (sym (u.same refl)) (t.better refl))
  tried_then R S T next last false true so t u = tried_moved _ last (subst (λ (q : Plan). IsBetter i q last) (t.same refl) (u.better refl))
  tried_then R S T next last false false so t u = tried_none T last (u.same refl ∙ t.same refl) (subst T (t.same refl) (so (subst R (sym (t.same refl)) (t.rests refl)) (u.rests refl)))

  -- one more of those below a count
  pub tried_more : (R : Plan → ℕ → Type 0) (k : ℕ) (next last : Plan) (moved again : Bool) → IsTried i plan (λ q. EachBelow k (R q)) next moved → IsTried i next (λ q. R q k) last again → IsTried i plan (λ q. EachBelow (k + 1) (R q)) last (moved || again)
  tried_more R k next last moved again t u = tried_then (λ q. EachBelow k (R q)) (λ q. R q k) (λ q. EachBelow (k + 1) (R q)) next last moved again (below_more (R next) k) t u

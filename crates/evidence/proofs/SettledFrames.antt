-- No frame of a settled plan is turned.
use Rattle.std.proofs.Common.{ℕ, ◌<◌, IsFalse, length, inr, refl, Result, Ok, Err, IfOk, MatchResult}
use Rattle.std.proofs.lemmas.Bool.{false_from_ne_true}
use Rattle.ttp_model.specs.declared.plan.Plan.{Plan}
use Rattle.ttp_model.specs.Instance.{Instance}
use Rattle.ttp_model.specs.Rules.{IsInstance}
use Rattle.ttp_model.specs.Moves.{IsSettled, TurnsFrame, leads_turned, turned}
use Rattle.tt_moves.proofs.TurnedFrames.{turned_valid}

pub none_is_turned : (i : Instance) (plan : Plan) (m : ℕ) → IsInstance i → IsSettled i plan → m < length i.messages → IsFalse (leads_turned i plan m)
none_is_turned i plan m w settled hm = false_from_ne_true (leads_turned i plan m) (λ leads.
    let move : TurnsFrame i plan (turned i plan m) = record { message = m; is_there = hm; leads = leads; moved_is = refl } in
    settled.rests (turned i plan m) (inr move) (turned_valid i plan m w settled.valid hm leads))

pub none_is_turned_of : (i : Instance) {E : Type 0} (result : Result Plan E) (Q : E → Type 0) → IsInstance i → MatchResult result (λ settled. IsSettled i settled) Q
    → IfOk result (λ settled. (m : ℕ) → m < length i.messages → IsFalse (leads_turned i settled m))
none_is_turned_of i (Ok settled) Q w is = λ m hm. none_is_turned i settled m w is hm
none_is_turned_of i (Err _) Q w is = tt

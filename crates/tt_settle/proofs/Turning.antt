-- A turned frame whose channels are exchanged: a better plan. With one channel there is none.
use Rattle.std.proofs.Common.{◌≡◌, ℕ, ◌<◌, true, false, length, arith, inl, inr, refl, subst, sym, ◌↔◌}
use Rattle.std.proofs.lemmas.Bool.{both_ways}
use Rattle.ttp_model.specs.declared.plan.Plan.{Plan}
use Rattle.ttp_model.specs.Instance.{Instance}
use Rattle.ttp_model.specs.Rules.{IsInstance}
use Rattle.ttp_model.specs.Plans.{IsValid}
use Rattle.ttp_model.specs.Moves.{IsSettled, MoveOnChannels, TurnsFrame, leads_turned, turned}
use Rattle.ttp_model.proofs.TurnedFrames.{is_second}
use Rattle.tt_moves.proofs.TurnedFrames.{turned_valid}
use Rattle.tt_settle.specs.Settling.{IsTried, RestsOnChannel}
use Rattle.tt_settle.proofs.Trying.{better_by_move, tried_moved, tried_none}

module _ (i : Instance) (plan : Plan) (m : ℕ) where
  pub frame_turned : (next : Plan) → IsInstance i → IsValid i plan → m < length i.messages → leads_turned i plan m ≡ true → next ≡ turned i plan m → IsTried i plan (λ q. RestsOnChannel i q m) next true
  frame_turned next w v hm leads is =
      let move : TurnsFrame i plan next = record { message = m; is_there = hm; leads = leads; moved_is = is } in
      let after = subst (IsValid i) (sym is) (turned_valid i plan m w v hm leads) in
      tried_moved i plan (λ q. RestsOnChannel i q m) next (better_by_move i plan next w v after (inr move))

  pub frame_rests : leads_turned i plan m ≡ false → IsTried i plan (λ q. RestsOnChannel i q m) plan false
  frame_rests none = tried_none i plan (λ q. RestsOnChannel i q m) plan refl (λ leads _. both_ways (leads_turned i plan m) none leads)

-- a message on channel 1 isn't alone on the only channel
none_turned : (i : Instance) (plan moved : Plan) → i.cluster.channels ≡ 1 → IsValid i plan → TurnsFrame i plan moved → ⊥
none_turned i plan moved one v turns =
    omega (arith, is_second i plan turns.message turns.is_there turns.leads, (v.on_own turns.message turns.is_there).alone one)

pub settled_on_one_channel : (i : Instance) (plan : Plan) → i.cluster.channels ≡ 1 → IsSettled i plan ↔ (IsValid i plan × ((moved : Plan) → MoveOnChannels i plan moved → ¬ IsValid i moved))
settled_on_one_channel i plan one = (
  (λ settled. (settled.valid, λ moved move. settled.rests moved (inl move))),
  (λ both. record { valid = both.0; rests = λ moved move. elim move [ inl kept ↦ both.1 moved kept | inr turns ↦ absurd (none_turned i plan moved one both.0 turns) ] }),
)

-- A message that fits into no capacity of its sender's node leaves no valid plan.
use Rattle.std.proofs.Common.{◌≡◌, ℕ, ◌<◌, ◌≤◌, ◌==◌, ◌&&◌, true, false, if◌then◌else◌, List, length, slice_index, nat_le, Contains, le-leb, refl, arith}
use Rattle.std.specs.List.{list_any}
use Rattle.std.proofs.lemmas.Bool.{eq-eqb}
use Rattle.std.proofs.lemmas.List.Folds.{list_any_at}
use Rattle.ttp_model.specs.declared.error.Place.TheVariants.{AtMessage, AtProcess}
use Rattle.ttp_model.specs.declared.plan.Plan.{Plan}
use Rattle.ttp_model.specs.Delays.{HasNoPlan}
use Rattle.ttp_model.specs.Instance.{Instance, message_at, source_of}
use Rattle.ttp_model.specs.Plans.{IsValid, bytes_on, round_of}
use Rattle.ttp_model.specs.Rules.{IsInstance}
use Rattle.ttp_model.proofs.Channels.{all_on, on_some_channel}
use Rattle.ttp_model.proofs.Totals.{term_in_total}
use Rattle.instance_reasons.specs.Described.{is_large}

own : (a b x : ℕ) → (if (a == a) && (b == b) then x else 0) ≡ x
own a b x = rw (eq-eqb a a refl, eq-eqb b b refl) refl

-- what is among the capacities, and is as large, has room
roomy : (bytes capacity : ℕ) (capacities : List ℕ) → Contains capacities capacity → bytes ≤ capacity → list_any (λ c. nat_le bytes c) capacities ≡ true
roomy bytes capacity capacities there le =
    list_any_at (λ c. nat_le bytes c) capacities there.0 capacity there.1 (rw there.2 (le-leb bytes capacity le))

module _ (i : Instance) (m : ℕ) (w : IsInstance i) (inside : m < length i.messages) (plan : Plan) (v : IsValid i plan) where
  source_there : source_of i m < length i.nodes
  source_there = w.indices (AtProcess (message_at i m).sender) (w.indices (AtMessage m) inside).0

  -- its frame has room for it
  in_frame : (message_at i m).bytes ≤ slice_index plan.caps (source_of i m)
  in_frame =
      let on = on_some_channel i plan m w v inside in
      let all = own (source_of i m) (round_of plan m) (message_at i m).bytes in
      let here = all_on i plan (source_of i m) (round_of plan m) on.0 m on.2 in
      let term = term_in_total (bytes_on i plan (source_of i m) (round_of plan m) on.0) (length i.messages) m inside in
      omega (arith, all, here, term, v.frames m inside on.0 on.1 on.2)

  is_small : is_large i m ≡ false
  is_small = rw (roomy _ _ _ (v.capacities (source_of i m) source_there).own in_frame) refl

pub none_valid : (i : Instance) (m : ℕ) → IsInstance i → m < length i.messages → is_large i m ≡ true → HasNoPlan i
none_valid i m w inside large plan v = let small = is_small i m w inside plan v in cc

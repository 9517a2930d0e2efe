-- Where what a ring reads is known alike, each process goes before the next in both.
use Rattle.std.proofs.Common.{◌≡◌, ℕ, ◌+◌, ◌-◌, ◌<◌, List, length, slice_index, Contains, inl, inr, refl, sym, ◌∙◌}
use Rattle.ttp_model.specs.Instance.{Instance, message_at}
use Rattle.ttp_model.specs.Graph.{HasLink, HasMessage, Leads}
use Rattle.ttp_model.proofs.Decide.{Decision, like, both, one_of, equal, some_below, contained}
use Rattle.ttp_model.proofs.Alike.{link_or_not}
use Rattle.ttp_model.specs.declared.step.Step.TheVariants.{XCycle}
use Rattle.tt_infer.specs.declared.fact.Fact.{Fact}
use Rattle.tt_infer.specs.declared.fact.Fact.TheVariants.{Order}
use Rattle.tt_choice.specs.Choice.{Choice}
use Rattle.sought_plans.specs.Known.{Known, bef_of}
use Rattle.sought_plans.specs.Premises.{IsAhead, IsRing}
use Rattle.tt_infer.specs.Reads.{AgreeOn, AreNeighbours, ReadsFact}

message_or_not : (i : Instance) (p q : ℕ) → Decision (HasMessage i p q)
message_or_not i p q = like ((m : ℕ) × (m < length i.messages) × (((message_at i m).sender ≡ p) × Contains (message_at i m).receivers q)) (HasMessage i p q)
    (λ some. record { message = some.0; is_there = some.1; sender = some.2.0; receiver = some.2.1 })
    (λ has. (has.message, has.is_there, (has.sender, has.receiver)))
    (some_below (λ m. ((message_at i m).sender ≡ p) × Contains (message_at i m).receivers q) (length i.messages) (λ m. both _ _ (equal _ _) (contained _ _)))

leads_or_not : (i : Instance) (p q : ℕ) → Decision (Leads i p q)
leads_or_not i p q = one_of (HasLink i p q) (HasMessage i p q) (link_or_not i p q) (message_or_not i p q)

module _ (i : Instance) (c : Choice) (f g : Known) (ps : List ℕ) (agree : (fact : Fact) → ReadsFact i c f (XCycle ps) fact → AgreeOn f g fact) where
  ahead_alike : (p q : ℕ) → AreNeighbours ps p q → IsAhead i f p q → IsAhead i g p q
  ahead_alike p q neighbours is = elim is [
    | inr leads ↦ inr leads
    | inl known ↦ elim (leads_or_not i p q) [
      | inl leads ↦ inr leads
      | inr none ↦
          let same : bef_of f p q ≡ bef_of g p q = agree (Order p q) (record { first = p; second = q; neighbours = neighbours; no_lead = none; order = refl }) in
          inl (sym same ∙ known)
    ]
  ]

  pub ring_alike : IsRing i f ps → IsRing i g ps
  ring_alike ring = record {
    each = λ k there. ahead_alike (slice_index ps k) (slice_index ps (k + 1)) (inl (k, there, refl, refl)) (ring.each k there);
    closes = ahead_alike (slice_index ps (length ps - 1)) (slice_index ps 0) (inr (refl, refl)) ring.closes;
  }

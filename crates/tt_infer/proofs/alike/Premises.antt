-- Where what a step reads is the same, its premise holds there too.
use Rattle.std.proofs.Common.{◌≡◌, ℕ, ◌-◌, ◌*◌, arith, inl, inr, refl, ap}
use Rattle.ttp_model.specs.Instance.{Instance, source_of}
use Rattle.ttp_model.specs.declared.step.Step.TheVariants.{LoSend}
use Rattle.ttp_model.specs.declared.step.Step.TheVariants.{HiArrive, XLoad, XFrames, XChannel}
use Rattle.ttp_model.specs.declared.step.Step.TheVariants.{XSilent}
use Rattle.tt_choice.specs.Choice.{Choice}
use Rattle.tt_choice.specs.Extremes.{start_most, end_least, cap_most}
use Rattle.tt_infer.specs.declared.fact.Fact.TheVariants.{Start, End}
use Rattle.tt_infer.specs.declared.limit.Limit.TheVariants.{LeastSlot, GreatestSlot, GreatestFrame, Place}
use Rattle.sought_plans.specs.Known.{Known, es_of, le_of}
use Rattle.sought_plans.specs.Premises.{sender_of, IsFirstChance, AreChances, IsOverloaded, AreOverfull, AreOverfullOn}
use Rattle.sought_plans.specs.Dominance.{StandTurned}
use Rattle.tt_infer.specs.Reads.{AgreeOnReads}
use Rattle.tt_infer.proofs.alike.Loads.{load_alike, copied_alike, counted_alike}

module _ (i : Instance) (c : Choice) (goal : ℕ) (f : Known) (d : Choice) (aim : ℕ) (g : Known) where
  pub overloaded_alike : (n a b : ℕ) → AgreeOnReads i c goal f d aim g (XLoad n a b) → IsOverloaded i f n a b → IsOverloaded i g n a b
  overloaded_alike n a b agree is = record { span = is.span; load = omega (arith, is.load, load_alike i c f g n a b agree.facts) }

  pub overfull_alike : (n a b : ℕ) → AgreeOnReads i c goal f d aim g (XFrames n a b) → AreOverfull i c f n a b → AreOverfull i d g n a b
  overfull_alike n a b agree is =
      let frame : cap_most i c n ≡ cap_most i d n = agree.limits (GreatestFrame n) (inl refl) in
      let room : i.cluster.channels * ((b - a) * cap_most i c n) ≡ i.cluster.channels * ((b - a) * cap_most i d n) = ap (λ cap. i.cluster.channels * ((b - a) * cap)) frame in
      record { span = is.span; bytes = omega (arith, is.bytes, room, copied_alike i c goal f d aim g n a b agree) }

  pub overfull_on_alike : (k n a b : ℕ) → AgreeOnReads i c goal f d aim g (XChannel k n a b) → AreOverfullOn i c f k n a b → AreOverfullOn i d g k n a b
  overfull_on_alike k n a b agree is =
      let frame : cap_most i c n ≡ cap_most i d n = agree.limits (GreatestFrame n) (inl refl) in
      let room : (b - a) * cap_most i c n ≡ (b - a) * cap_most i d n = ap (λ cap. (b - a) * cap) frame in
      record { span = is.span; bytes = omega (arith, is.bytes, room, counted_alike i c goal f d aim g n a b k agree) }

  pub turned_alike : (u v : ℕ) → AgreeOnReads i c goal f d aim g (XSilent u v) → StandTurned i c u v → StandTurned i d u v
  turned_alike u v agree is = record { in_order = is.in_order; twins = is.twins; first = agree.limits (Place v) refl u is.first }

  pub chance_alike : (m r : ℕ) → AgreeOnReads i c goal f d aim g (LoSend m) → IsFirstChance i c f m r → IsFirstChance i d g m r
  chance_alike m r agree is =
      let start : es_of f (sender_of i m) ≡ es_of g (sender_of i m) = agree.facts (Start (sender_of i m)) (inl refl) in
      let slot : (s : ℕ) → start_most i c (source_of i m) s ≡ start_most i d (source_of i m) s = λ s. (agree.limits (GreatestSlot (source_of i m)) (inr refl) s).0 in
      let enough = is.late_enough in
      record {
        late_enough = omega (arith, enough, start, slot r);
        least = λ s soon. is.least s (omega (arith, soon, start, slot s));
      }

  pub chances_alike : (m q r : ℕ) → AgreeOnReads i c goal f d aim g (HiArrive m q) → AreChances i c f m q r → AreChances i d g m q r
  chances_alike m q r agree is s =
      let end : le_of f q ≡ le_of g q = agree.facts (End q) (inl refl) in
      let slot : end_least i c (source_of i m) s ≡ end_least i d (source_of i m) s = (agree.limits (LeastSlot (source_of i m)) (inr refl) s).1 in
      let chance = is s in
      (λ below. omega (arith, chance.0 below, end, slot), λ soon. chance.1 (omega (arith, soon, end, slot)))

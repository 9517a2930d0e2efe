-- A lawful step is lawful with one order more, and gives the same with that order, where it doesn't read it.
use Rattle.std.proofs.Common.{◌≡◌, ◌≢◌, ℕ, IsFalse, arith, inl, inr, refl, ap, ap₂, subst, sym, ◌∙◌}
use Rattle.std.proofs.lemmas.Bool.{cases_eq}
use Rattle.ttp_model.specs.declared.step.Step.{Step}
use Rattle.ttp_model.specs.declared.step.Step.TheVariants.{UsSettled}
use Rattle.ttp_model.specs.Instance.{Instance}
use Rattle.tt_choice.specs.Choice.{Choice, ArePair}
use Rattle.tt_choice.specs.Branches.{order_pair}
use Rattle.tt_choice.proofs.Before.{put_other}
use Rattle.tt_infer.specs.declared.fact.Fact.{Fact}
use Rattle.tt_infer.specs.declared.fact.Fact.TheVariants.{Start, End, FirstRound, LateRound, Order, Closed}
use Rattle.tt_infer.specs.declared.limit.Limit.{Limit}
use Rattle.tt_infer.specs.declared.limit.Limit.TheVariants.{Goal, LeastSlot, GreatestSlot, LeastFrame, GreatestFrame, Place, Copies, Counted}
use Rattle.tt_infer.specs.Known.{Known, Fits, bef_of}
use Rattle.tt_infer.specs.Table.{IsLawful}
use Rattle.tt_infer.specs.Reads.{AgreeOn, AgreeOnReads, GivesAlike, ReadsFact}
use Rattle.tt_infer.proofs.SameGiven.{gives_alike}
use Rattle.tt_infer.proofs.Rows.{reads_unknown}
use Rattle.step_logs.proofs.one_order.Known.{ordered, sharpened_ordered}

module _ (i : Instance) (c : Choice) (goal : ℕ) (f : Known) (p q : ℕ) (pair : ArePair i p q) (fits : Fits i f) where
  other_order : (x y : ℕ) → Order x y ≢ Order p q → bef_of f x y ≡ bef_of (ordered f p q) x y
  other_order x y other = elim (cases_eq x p) [
    | inr row ↦ sym (put_other f.bef p q x y (omega (arith, fits.processes, pair.first)) (omega (arith, fits.processes, pair.second)) (inl row))
    | inl first ↦ elim (cases_eq y q) [
      | inr column ↦ sym (put_other f.bef p q x y (omega (arith, fits.processes, pair.first)) (omega (arith, fits.processes, pair.second)) (inr column))
      | inl second ↦ absurd (other (ap₂ Order first second))
    ]
  ]

  -- all else is known alike
  alike_but_order : (fact : Fact) → fact ≢ Order p q → AgreeOn f (ordered f p q) fact
  alike_but_order (Start x) other = refl
  alike_but_order (End x) other = refl
  alike_but_order (FirstRound m) other = refl
  alike_but_order (LateRound m) other = refl
  alike_but_order (Order x y) other = other_order x y other
  alike_but_order Closed other = refl

  -- and an order changes no limit
  limits_alike : (limit : Limit) → GivesAlike i c goal (order_pair c p q) goal limit
  limits_alike Goal = refl
  limits_alike (LeastSlot n) = λ r. (refl, refl)
  limits_alike (GreatestSlot n) = λ r. (refl, refl)
  limits_alike (LeastFrame n) = refl
  limits_alike (GreatestFrame n) = refl
  limits_alike (Place v) = λ u is. is
  limits_alike (Copies m) = refl
  limits_alike (Counted m k) = refl

  pub lawful_ordered : (step : Step) (g : Known) → step ≢ UsSettled p → IsFalse (bef_of f p q) → IsLawful i c goal f step g → IsLawful i (order_pair c p q) goal (ordered f p q) step (ordered g p q)
  lawful_ordered step g other unknown lawful =
      let unread = λ (fact : Fact) (reads : ReadsFact i c f step fact) (is : fact ≡ Order p q). other (reads_unknown i c goal f p q unknown step lawful.premise (subst (ReadsFact i c f step) is reads)) in
      let agree : AgreeOnReads i c goal f (order_pair c p q) goal (ordered f p q) step = record {
        facts = λ fact reads. alike_but_order fact (unread fact reads);
        limits = λ limit reads. limits_alike limit;
      } in
      let given = gives_alike i c goal f (order_pair c p q) goal (ordered f p q) step lawful.conclusion agree (record { there = lawful.there; premise = lawful.premise; concludes = lawful.concludes }) in
      record {
        there = given.there;
        premise = given.premise;
        conclusion = lawful.conclusion;
        concludes = given.concludes;
        known = ap (λ (k : Known). ordered k p q) lawful.known ∙ sharpened_ordered i f p q lawful.conclusion;
      }

-- The steps that tell in which rounds a message is sent leave no more of them inside.
use Rattle.std.proofs.Common.{ℕ, ◌≤◌, arith, inl, inr, refl}
use Rattle.std.proofs.lemmas.Bool.{cases_lt}
use Rattle.ttp_model.specs.declared.step.Step.TheVariants.{LoSend, HiArrive}
use Rattle.sought_plans.specs.Known.{Known}
use Rattle.sought_plans.specs.Conclusions.{SentFrom, SentBefore}
use Rattle.sought_plans.specs.Premises.{IsFirstChance, AreChances, sender_of}
use Rattle.tt_infer.proofs.Chances.{first_chance, chances}
use Rattle.tt_infer.proofs.monotone.Nested.{Nested, AreKnown, IsKept}
use Rattle.tt_infer.proofs.monotone.Slots.{start_most_down, end_least_up}
use Rattle.tt_infer.specs.Table.{IsMessage}
use Rattle.sought_plans.specs.Premises.{GoesTo}

-- the first chance comes no earlier
first_chance_later : (s : Nested) (f h : Known) (m early late : ℕ) → AreKnown s f h → IsMessage s.instance m → IsFirstChance s.instance s.outer f m early → IsFirstChance s.instance s.inner h m late → early ≤ late
first_chance_later s f h m early late t there outside inside =
    let ready = t.sharper.es (sender_of s.instance m) in
    let down = start_most_down s m there late late (omega arith) in
    outside.least late (omega (arith, ready, down, inside.late_enough))

pub lo_send_kept : (s : Nested) (f h : Known) (m : ℕ) → AreKnown s f h → IsKept s f h (LoSend m)
lo_send_kept s f h m t k there premise is =
    let first = first_chance s.instance s.inner h m s.is_instance in
    record {
      there = there;
      premise = tt;
      conclusion = SentFrom m first.0;
      concludes = (first.0, first.1, refl);
      stronger = (is.0, is.2, first_chance_later s f h m is.0 first.0 t there is.1 first.1);
    }

-- and chances end no later
chances_end_earlier : (s : Nested) (f h : Known) (m q late early : ℕ) → AreKnown s f h → GoesTo s.instance m q → AreChances s.instance s.outer f m q late → AreChances s.instance s.inner h m q early → early ≤ late
chances_end_earlier s f h m q late early t there outside inside = elim (cases_lt late early) [
  | inl below ↦
      let chance = (inside late).0 below in
      let up = end_least_up s m there.0 late late (omega arith) in
      let again = (outside late).1 (omega (arith, chance, up, t.sharper.le q)) in
      absurd (omega (arith, again))
  | inr over ↦ over
]

pub hi_arrive_kept : (s : Nested) (f h : Known) (m q : ℕ) → AreKnown s f h → IsKept s f h (HiArrive m q)
hi_arrive_kept s f h m q t k there premise is =
    let all = chances s.instance s.inner h m q s.is_instance in
    record {
      there = there;
      premise = tt;
      conclusion = SentBefore m all.0;
      concludes = (all.0, all.1, refl);
      stronger = (is.0, is.2, chances_end_earlier s f h m q is.0 all.0 t there is.1 all.1);
    }

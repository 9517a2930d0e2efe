use Rattle.std.proofs.Common.{arith, inl, inr, refl}
use Rattle.std.proofs.lemmas.Bool.Decides.{eqb_tells}
use Rattle.plan_sheets.specs.Slots.{slot_of}
use Rattle.plan_sheets.proofs.pictures.laws.each_slot_and_process_has_its_rectangle.Goals as goal

pub returns-clause-each : goal.returns-clause-each
returns-clause-each c = λ i plan r k channel. elim (eqb_tells (slot_of i plan r k channel).used 0) [
  | inl none ↦ rw none.0 refl
  | inr some ↦ rw some.0 refl
]

pub returns-clause-used : goal.returns-clause-used
returns-clause-used c = λ i plan r k channel carries. elim (eqb_tells (slot_of i plan r k channel).used 0) [
  | inl none ↦ absurd (omega (arith, none.1, carries))
  | inr some ↦ rw some.0 refl
]

pub returns-clause-unused : goal.returns-clause-unused
returns-clause-unused c = λ i plan r k channel is. elim (eqb_tells (slot_of i plan r k channel).used 0) [
  | inl none ↦ rw none.0 refl
  | inr some ↦ absurd (some.1 is)
]

pub returns-clause-length : goal.returns-clause-length
returns-clause-length c = λ i plan r k channel. omega arith

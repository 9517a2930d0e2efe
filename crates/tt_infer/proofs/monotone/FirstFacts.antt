-- At first at least as much is known inside.
use Rattle.std.proofs.Common.{ℕ, ◌+◌, ◌≤◌, length, map, arith, inl, inr}
use Rattle.std.proofs.lemmas.Bool.{cases_lt}
use Rattle.std.proofs.lemmas.List.{get_or-map, get_or_past, length-map}
use Rattle.ttp_model.specs.Instance.{Instance}
use Rattle.tt_choice.specs.Choice.{Choice, IsChoice, least_round}
use Rattle.tt_choice.specs.Inside.{IsInside}
use Rattle.sought_plans.specs.Known.{first_facts, top_of}
use Rattle.tt_infer.specs.Sharper.{IsSharper}

least_rounds_rise : (i : Instance) (inner outer : Choice) → IsChoice i outer → IsInside i inner outer → (m : ℕ) → least_round outer m ≤ least_round inner m
least_rounds_rise i inner outer ok inside m = elim (cases_lt m (length i.messages)) [
  | inl there ↦ inside.from m there
  | inr past ↦ omega (arith, get_or_past outer.lo m 0 (omega (arith, past, ok.lo_length)))
]

tops_fall : (i : Instance) (inner outer : Choice) → IsChoice i inner → IsChoice i outer → IsInside i inner outer → (m : ℕ) → top_of (first_facts i inner) m ≤ top_of (first_facts i outer) m
tops_fall i inner outer well ok inside m = elim (cases_lt m (length i.messages)) [
  | inl there ↦
      let within = get_or-map (λ r. r + 1) inner.hi m 0 0 (omega (arith, well.hi_length, there)) in
      let without = get_or-map (λ r. r + 1) outer.hi m 0 0 (omega (arith, ok.hi_length, there)) in
      omega (arith, within, without, inside.until m there)
  | inr past ↦ omega (arith, get_or_past (map (λ r. r + 1) inner.hi) m 0 (omega (arith, length-map inner.hi (λ r. r + 1), well.hi_length, past)))
]

pub first_facts_sharper : (i : Instance) (inner outer : Choice) → IsChoice i inner → IsChoice i outer → IsInside i inner outer → IsSharper (first_facts i outer) (first_facts i inner)
first_facts_sharper i inner outer well ok inside = record {
  es = λ p. omega arith;
  le = λ p. omega arith;
  lo = least_rounds_rise i inner outer ok inside;
  top = tops_fall i inner outer well ok inside;
  bef = inside.pairs;
  closed = λ closed. closed;
}

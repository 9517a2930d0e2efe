use Rattle.std.proofs.Common.{ℕ, List, ◌⊎◌, ◌+◌, ◌-◌, ◌≤◌, length, slice_index, arith, inl, inr, refl}
use Rattle.std.proofs.lemmas.Result.{on_ok_weaker}
use Rattle.ttp_model.specs.Instance.{Instance}
use Rattle.tt_infer.specs.declared.fact.Fact.{Fact}
use Rattle.tt_infer.specs.Reads.{IsKnownPair, OfSome}
use Rattle.tt_infer.specs.Added.{OrdersNext, OrdersPair}
use Rattle.tt_infer.proofs.AddedFacts.{adds_as, adds_both}
use Rattle.tt_infer.proofs.read_facts.rings.add_ring.Goals as goal

-- the last before the first, or one before the next
abbrev IsPair : Instance → List ℕ → Fact → Type 0
IsPair i ps fact =
    OrdersPair i (slice_index ps (length ps - 1)) (slice_index ps 0) fact ⊎ OfSome (length ps - 1) (OrdersNext i ps) fact

known_pair : (i : Instance) (ps : List ℕ) (fact : Fact) → 2 ≤ length ps → IsPair i ps fact → IsKnownPair i ps fact
known_pair i ps fact two (inl around) = record {
  first = slice_index ps (length ps - 1);
  second = slice_index ps 0;
  neighbours = inr (refl, refl);
  no_lead = around.0;
  order = around.1;
}
known_pair i ps fact two (inr next) = record {
  first = slice_index ps next.0;
  second = slice_index ps (next.0 + 1);
  neighbours = inl (next.0, omega (arith, next.1, two), refl, refl);
  no_lead = next.2.0;
  order = next.2.1;
}

is_pair : (i : Instance) (ps : List ℕ) (fact : Fact) → IsKnownPair i ps fact → IsPair i ps fact
is_pair i ps fact pair = elim pair.neighbours [
  | inl next ↦ inr (next.0, omega (arith, next.1), rw (next.2, next.3) (pair.no_lead, pair.order))
  | inr around ↦ inl (rw (around.0, around.1) (pair.no_lead, pair.order))
]

pub returns : goal.returns
returns c =
    let i = c.args.instance.now in
    let ps = c.args.ring.now in
    on_ok_weaker c.add_pairs.result (λ next. adds_as (IsPair i ps) (IsKnownPair i ps) _ _
    (λ fact is. known_pair i ps fact c.requires is) (λ fact is. is_pair i ps fact is)
    (adds_both (OrdersPair i (slice_index ps (length ps - 1)) (slice_index ps 0)) (OfSome (length ps - 1) (OrdersNext i ps)) _ _ _ c.in_ok-add_pair.ensures
    next)) c.add_pairs.ensures

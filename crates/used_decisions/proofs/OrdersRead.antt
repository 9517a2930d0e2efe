-- What is marked of processes that wait for others is what such steps use.
use Rattle.std.proofs.Common.{◌≡◌, ℕ, ◌+◌, ◌-◌, ◌<◌, List, length, slice_index, true, arith, inl, inr, sym, subst}
use Rattle.std.proofs.lemmas.Bool.{eq-eqb}
use Rattle.tt_infer.specs.Sources.{Waits, Circle}
use Rattle.ttp_model.specs.Instance.{node_of, source_of}
use Rattle.ttp_model.specs.Network.{processes_on, received_by, is_process_of, is_received_by}
use Rattle.sought_plans.specs.Dominance.{IsSentTo}
use Rattle.sought_plans.proofs.Elsewhere.{among_received}
use Rattle.tt_infer.specs.declared.fact.Fact.TheVariants.{LateRound, Order}
use Rattle.tt_infer.specs.declared.limit.Limit.TheVariants.{GreatestSlot}
use Rattle.used_decisions.specs.Turns.{Path}
use Rattle.used_decisions.specs.declared.given.Given.{Given}
use Rattle.used_decisions.specs.declared.uses.Uses.{Uses}
use Rattle.used_decisions.specs.Uses.{IsMore}
use Rattle.used_decisions.specs.Steps.{IsSourceRead, TellsArrival, TellsEach, TellsFact, TellsPair, TellsRing, TellsRival}
use Rattle.used_decisions.proofs.Each.{Stays, told_of}
use Rattle.used_decisions.proofs.Tells.{fact_more, limit_more}

pub rival_stays : (path : Path) (given : Given) (p : ℕ) → Stays (λ uses x. TellsRival path given uses p x)
rival_stays path given p = λ old new x more told row column never. fact_more path old new more given (Order p x) (told row column never)

pub rivals_stay : (path : Path) (given : Given) (p : ℕ) (list : List ℕ) (old new : Uses) → IsMore old new
    → TellsEach (λ uses x. TellsRival path given uses p x) list old → TellsEach (λ uses x. TellsRival path given uses p x) list new
rivals_stay path given p list old new more told = λ k inside. rival_stays path given p old new (slice_index list k) more (told k inside)

pub arrival_stays : (path : Path) (given : Given) → Stays (λ uses m. TellsArrival path given uses m)
arrival_stays path given = λ old new m more told. record {
  slot = limit_more path old new more (GreatestSlot (source_of path.instance m)) told.slot;
  late = fact_more path old new more given (LateRound m) told.late;
}

pub pair_more : (path : Path) (given : Given) (old new : Uses) (p q : ℕ) → IsMore old new → TellsPair path given old p q → TellsPair path given new p q
pair_more path given old new p q more told row column never = fact_more path old new more given (Order p q) (told row column never)

pub settled_read : (path : Path) (given : Given) (uses : Uses) (p : ℕ)
    → (p < length path.instance.processes → TellsEach (λ uses x. TellsRival path given uses p x) (processes_on path.instance (node_of path.instance p)) uses)
    → TellsEach (λ uses m. TellsArrival path given uses m) (received_by path.instance p) uses → IsSourceRead path given uses (Waits p)
settled_read path given uses p rivals arrivals = record {
  facts = λ f known there fact reads. elim reads [
    | inl some ↦
        let x = some.0 in
        let picks : is_process_of path.instance (node_of path.instance p) x ≡ true = eq-eqb (node_of path.instance x) (node_of path.instance p) some.2.0.one_node in
        let told = told_of (λ uses x. TellsRival path given uses p x) (is_process_of path.instance (node_of path.instance p))
        (length path.instance.processes) uses x (rivals there) some.1 picks in
        elim some.2.1 [
          | inl is ↦ subst (TellsFact path given uses) (sym is) (told there some.1 some.2.0.no_link)
          | inr ends ↦ subst (TellsFact path given uses) (sym ends.1) tt
        ]
    | inr some ↦ subst (TellsFact path given uses) (sym some.2.1) (arrival_of some.0 some.2.0).late
  ];
  limits = λ f known there place limit reads. rw reads.2 (arrival_of reads.0 reads.1).slot;
}
  where
    arrival_of : (m : ℕ) → IsSentTo path.instance p m → TellsArrival path given uses m
    arrival_of m sent =
        told_of (λ uses m. TellsArrival path given uses m) (is_received_by path.instance p) (length path.instance.messages) uses m arrivals sent.0
        (among_received path.instance p m sent.0 sent)

pub ring_read : (path : Path) (given : Given) (uses : Uses) (ring : List ℕ) → TellsRing path given uses ring → IsSourceRead path given uses (Circle ring)
ring_read path given uses ring told = record {
  facts = λ f known there fact reads.
      let is_process = there.1 in
      elim reads.neighbours [
        | inl next ↦
            let first = is_process next.0 (omega (arith, next.1)) in
            let second = is_process (next.0 + 1) next.1 in
            subst (TellsFact path given uses) (sym reads.order) (rw (next.2, next.3) at
            (told.next next.0 next.1 first second (rw (next.2, next.3) reads.no_lead)))
        | inr around ↦
            let last = is_process (length ring - 1) (omega (arith, there.0)) in
            let first = is_process 0 (omega (arith, there.0)) in
            subst (TellsFact path given uses) (sym reads.order) (rw (around.0, around.1) at (told.around last first (rw (around.0, around.1) reads.no_lead)))
      ];
  limits = λ f known there place limit reads. absurd reads;
}

-- What a process waits for stands on its lists: each entry is such a thing, and each such thing is an entry.
use Rattle.std.proofs.Common.{◌≡◌, ℕ, Bool, ◌<◌, true, List, length, slice_index, arith, ap, sym}
use Rattle.std.proofs.lemmas.Bool.{eqb-true, eq-eqb}
use Rattle.ttp_model.specs.declared.plan.Plan.{Plan}
use Rattle.ttp_model.specs.Instance.{Instance, message_at, node_of}
use Rattle.ttp_model.specs.Graph.{Receives}
use Rattle.ttp_model.specs.Network.{indices, is_received_by, is_process_of, received_by, processes_on}
use Rattle.ttp_model.proofs.Indices.{picked, Contains-from_any, any_from_Contains}
use Rattle.plan_facts.specs.Earliest.{GoesBefore}

-- each entry was picked
picked_listed : (test : ℕ → Bool) (count k : ℕ) (list : List ℕ) → list ≡ indices test count → k < length list → test (slice_index list k) ≡ true
picked_listed test count k list is inside =
    let at : slice_index (indices test count) k ≡ slice_index list k = ap (λ (xs : List ℕ). slice_index xs k) (sym is) in
    rw at at (picked test count k (omega (arith, inside, ap length is)))

pub listed_is_received : (i : Instance) (p k : ℕ) (list : List ℕ) → list ≡ received_by i p → k < length list → Receives i p (slice_index list k)
listed_is_received i p k list is inside =
    Contains-from_any (message_at i (slice_index list k)).receivers p (picked_listed (is_received_by i p) (length i.messages) k list is inside)

pub received_is_listed : (i : Instance) (p m : ℕ) → Receives i p m → is_received_by i p m ≡ true
received_is_listed i p m receives = any_from_Contains (message_at i m).receivers p receives

pub listed_is_on : (i : Instance) (n k : ℕ) (list : List ℕ) → list ≡ processes_on i n → k < length list → node_of i (slice_index list k) ≡ n
listed_is_on i n k list is inside = eqb-true (node_of i (slice_index list k)) n (picked_listed (is_process_of i n) (length i.processes) k list is inside)

pub before_is_on : (i : Instance) (plan : Plan) (p q : ℕ) → GoesBefore i plan p q → is_process_of i (node_of i p) q ≡ true
before_is_on i plan p q goes = eq-eqb (node_of i q) (node_of i p) goes.0

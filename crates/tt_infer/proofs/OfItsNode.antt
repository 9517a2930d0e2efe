-- What a step reads of a node's spans, frames and rivals is of the node.
use Rattle.std.proofs.Common.{◌≡◌, ℕ, ◌<◌, ◌==◌, ◌&&◌, nat_le, true, length, inl, inr}
use Rattle.std.proofs.lemmas.Bool.{and_parts}
use Rattle.std.proofs.lemmas.Bool.Decides.{eqb_tells}
use Rattle.ttp_model.specs.Instance.{Instance, node_of, source_of}
use Rattle.ttp_model.specs.Network.{is_process_of, is_message_of, is_received_by}
use Rattle.tt_choice.specs.Choice.{Choice}
use Rattle.sought_plans.specs.Known.{Known, es_of, le_of, lo_of, top_of}
use Rattle.sought_plans.specs.Premises.{counts_on, sent_within}
use Rattle.sought_plans.proofs.Elsewhere.{among_received}
use Rattle.tt_infer.specs.Added.{BoundsCounted, BoundsRunWithin, BoundsSendingWithin, KeepsOtherOut, TellsArrival, TellsRivalWait}
use Rattle.tt_infer.specs.declared.fact.Fact.{Fact}

test_of_same : (a b : ℕ) → a ≡ b → (a == b) ≡ true
test_of_same a b same = elim (eqb_tells a b) [ inl is ↦ is.0 | inr other ↦ absurd (other.1 same) ]

pub run_on_node : (i : Instance) (f : Known) (n a b x : ℕ) (fact : Fact) → x < length i.processes → BoundsRunWithin i f n a b x fact → is_process_of i n x ≡ true
run_on_node i f n a b x fact inside is = (and_parts (node_of i x == n) (nat_le a (es_of f x) && nat_le (le_of f x) b) is.0).0

pub sent_of_node : (i : Instance) (f : Known) (n a b x : ℕ) (fact : Fact) → x < length i.messages → BoundsSendingWithin i f n a b x fact → is_message_of i n x ≡ true
sent_of_node i f n a b x fact inside is = (and_parts (source_of i x == n) (nat_le a (lo_of f x) && nat_le (top_of f x) b) is.0).0

pub counted_of_node : (i : Instance) (c : Choice) (f : Known) (k n a b x : ℕ) (fact : Fact) → x < length i.messages → BoundsCounted i c f k n a b x fact → is_message_of i n x ≡ true
counted_of_node i c f k n a b x fact inside is = sent_of_node i f n a b x fact inside ((and_parts (counts_on c k x) (sent_within i f n a b x) is.0).1, is.1)

pub other_of_node : (i : Instance) (f : Known) (m r x : ℕ) (fact : Fact) → x < length i.messages → KeepsOtherOut i f m r x fact → is_message_of i (source_of i m) x ≡ true
other_of_node i f m r x fact inside is = test_of_same (source_of i x) (source_of i m) is.0.one_node

pub rival_on_node : (i : Instance) (f : Known) (p x : ℕ) (fact : Fact) → x < length i.processes → TellsRivalWait i f p x fact → is_process_of i (node_of i p) x ≡ true
rival_on_node i f p x fact inside is = test_of_same (node_of i x) (node_of i p) is.0.one_node

pub arrival_received : (i : Instance) (p x : ℕ) (fact : Fact) → x < length i.messages → TellsArrival i p x fact → is_received_by i p x ≡ true
arrival_received i p x fact inside is = among_received i p x inside is.0

-- The chains of the worked example with one message.
use Rattle.std.proofs.Common.{◌≡◌, ℕ, zero, suc, ◌+◌, ◌<◌, ◌≤◌, [], ◌∷◌, Contains, slice_index_or, arith, sym, refl, lit<}
use Rattle.ttp_model.specs.Instance.{message_at, node_of, process_at}
use Rattle.ttp_model.specs.Graph.{HasMessage}
use Rattle.ttp_model.specs.Chains.{ChainEnds, one, by_link, by_message, IsPathBound, least_transfer}
use Rattle.ttp_model.specs.Worked.{one_message}

-- its message leads from process 0 to process 1
pub message_is : (p q : ℕ) → HasMessage one_message p q → (p ≡ 0) × (q ≡ 1)
message_is p q h = at h.message h.is_there h.sender h.receiver
  where
    place : (k : ℕ) → k < 1 → slice_index_or (1 ∷ []) k q ≡ q → q ≡ 1
    place zero lt is = sym is
    place (suc k) lt is = absurd (omega arith)

    at : (m : ℕ) → m < 1 → (message_at one_message m).sender ≡ p → Contains (message_at one_message m).receivers q → (p ≡ 0) × (q ≡ 1)
    at zero lt sender receiver = (sym sender, place receiver.0 receiver.1 receiver.2)
    at (suc m) lt sender receiver = absurd (omega arith)

-- what a chain comes to with the message at its end
with_message : (p q before : ℕ) → (p ≡ 0) × (q ≡ 1) → (p ≡ 0 → before ≤ 3) → (q ≡ 0 → before + least_transfer one_message (node_of one_message p) + (process_at one_message q).wcet ≤ 3) × (before + least_transfer one_message (node_of one_message p) + (process_at one_message q).wcet ≤ 8)
with_message zero zero before is small = absurd (omega (arith, is.1))
with_message zero (suc zero) before is small = (λ no. absurd (omega arith), omega (arith, small refl))
with_message zero (suc (suc q)) before is small = absurd (omega (arith, is.1))
with_message (suc p) q before is small = absurd (omega (arith, is.0))

-- a chain that ends with process 0 takes 3 ticks, and none takes more than 8
at_most : (p time : ℕ) → ChainEnds one_message p time → (p ≡ 0 → time ≤ 3) × (time ≤ 8)
at_most _ _ (one zero inside) = (λ _. omega arith, omega arith)
at_most _ _ (one (suc zero) inside) = (λ is. omega arith, omega arith)
at_most _ _ (one (suc (suc p)) inside) = absurd (omega arith)
at_most _ _ (by_link p q before chain link) = absurd (omega (arith, link.is_there))
at_most _ _ (by_message p q before chain message) = with_message p q before (message_is p q message) (at_most p before chain).0

pub path_bound : IsPathBound one_message 8
path_bound = record {
  last = 1;
  reached = by_message 0 1 3 (one 0 (lit< tt)) (record { message = 0; is_there = lit< tt; sender = refl; receiver = (0, lit< tt, refl) });
  greatest = λ p time chain. (at_most p time chain).1;
}

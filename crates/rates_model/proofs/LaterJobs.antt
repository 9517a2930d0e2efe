-- Which job has begun last is the same in each cycle, a cycle later.
use Rattle.std.proofs.Common.{◌≡◌, ◌∙◌, ℕ, ◌+◌, ◌*◌, ◌/◌, ◌<◌, sym, ap}
use Rattle.std.proofs.Math.Nat.{add_comm, add-mul, add-mul-div_left, mul_assoc, mul_comm}

-- c cycles of q are c cycles of p, in ticks
same_cycles : (c np nq tp tq h : ℕ) → np * tp ≡ h → nq * tq ≡ h → c * nq * tq ≡ tp * (c * np)
same_cycles c np nq tp tq h p_whole q_whole =
    mul_assoc c nq tq ∙ ap (λ n. c * n) (q_whole ∙ sym p_whole) ∙ sym (mul_assoc c np tp) ∙ mul_comm (c * np) tp

pub begun_later : (c j np nq tp tq h : ℕ) → 0 < tp → np * tp ≡ h → nq * tq ≡ h → (c * nq + j) * tq / tp ≡ c * np + j * tq / tp
begun_later c j np nq tp tq h some p_whole q_whole =
    let spread : (c * nq + j) * tq ≡ j * tq + tp * (c * np) = add-mul (c * nq) j tq ∙ ap (λ n. n + j * tq) (same_cycles c np nq tp tq h p_whole q_whole) ∙ add_comm (tp * (c * np)) (j * tq) in
    ap (λ n. n / tp) spread ∙ add-mul-div_left (j * tq) (c * np) {y = tp} some ∙ add_comm (j * tq / tp) (c * np)

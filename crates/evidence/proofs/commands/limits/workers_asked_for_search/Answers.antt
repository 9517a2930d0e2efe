use Rattle.std.proofs.Common.{◌≡◌, ◌≤◌, ℕ, max, min, arith}
use Rattle.evidence.proofs.commands.limits.workers_asked_for_search.Goals as goal

all_of : (asked : ℕ) → 1 ≤ asked → asked ≤ 16 → max 1 (min asked 16) ≡ asked
all_of asked some few = omega (arith, some, few)

pub returns : goal.returns
returns c = λ effort sound. all_of effort.workers sound.some sound.few

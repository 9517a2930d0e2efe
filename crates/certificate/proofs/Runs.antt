-- Lines of a text that is gone through run by run.
use Rattle.std.proofs.Common.{◌≡◌, ℕ, ◌+◌, ◌-◌, ◌*◌, ◌≤◌, ◌<◌, List, ◌++◌, length, take, drop, slice_range, arith, refl, sym, ap, subst, ◌∙◌}
use Rattle.std.proofs.Math.Seq.{take-add}
use Rattle.std.proofs.lemmas.List.{length-take}
use Rattle.certificate.specs.ManyLines.{AreLines, BeginLines}
use Rattle.certificate.proofs.RawLines.{begin_more, begin_then_lines}

-- one run more
pub run_size : (xs : List ℕ) (k n m : ℕ) → n ≤ length (slice_range xs (k * 64) ((k + 1) * 64)) → m ≤ k * 64 → m + n ≤ (k + 1) * 64
run_size xs k n m within before = omega (arith, within, before, length-take ((k + 1) * 64 - k * 64) (drop (k * 64) xs))

pub run_more : (a b k : ℕ) (xs : List ℕ) → BeginLines a (take (k * 64) xs) → BeginLines b (slice_range xs (k * 64) ((k + 1) * 64)) → BeginLines (a + b) (take ((k + 1) * 64) xs)
run_more a b k xs front run =
    let run_of = slice_range xs (k * 64) ((k + 1) * 64) in
    let size : k * 64 + ((k + 1) * 64 - k * 64) ≡ (k + 1) * 64 = omega arith in
    let parts : take ((k + 1) * 64) xs ≡ take (k * 64) xs ++ slice_range xs (k * 64) ((k + 1) * 64) = ap (λ (n : ℕ). take n xs) (sym size) ∙ take-add (k * 64) ((k + 1) * 64 - k * 64) xs in
    subst (BeginLines (a + b)) (sym parts) (begin_more a b (a + b) (take (k * 64) xs) run_of refl front run)

-- what follows whole runs
pub rest_lines : (ends left count before size : ℕ) (xs : List ℕ) → count ≡ ends + left → 0 < left → BeginLines ends (take before xs) → AreLines left (take size (drop before xs)) → AreLines count (take (before + size) xs)
rest_lines ends left count before size xs is some front lines =
    subst (AreLines count) (sym (take-add before size xs)) (begin_then_lines ends left count (take before xs) (take size (drop before xs)) is some front lines)

pub rest_begins : (ends more before size : ℕ) (xs : List ℕ) → BeginLines ends (take before xs) → BeginLines more (take size (drop before xs)) → BeginLines (ends + more) (take (before + size) xs)
rest_begins ends more before size xs front begun =
    subst (BeginLines (ends + more)) (sym (take-add before size xs)) (begin_more ends more (ends + more) (take before xs) (take size (drop before xs)) refl front begun)

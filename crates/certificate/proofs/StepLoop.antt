-- Reading the steps of a leaf one after another, as a loop does.
use Rattle.std.proofs.Common.{◌≡◌, ℕ, suc, ◌-◌, ◌+◌, ◌≤◌, ◌<◌, List, [], ◌∷◌, ◌++◌, Ok, Err, refl, sym, ap, ◌∙◌, append_assoc, arith}
use Rattle.std.proofs.lemmas.List.{append-nil}
use Rattle.line_text.specs.Results.{◌>>=◌}
use Rattle.ttp_model.specs.declared.step.Step.{Step}
use Rattle.certificate.specs.declared.fault.CertTextError.{CertTextError}
use Rattle.certificate.specs.Reading.{Reading, text_step, steps_at}
use Rattle.certificate.specs.declared.version.Version.{Version}

-- the steps after these ones are read
abbrev pub with_steps : List Step → Reading (List Step × List ℕ) → Reading (List Step × List ℕ)
with_steps front read = read >>= λ x. Ok (front ++ x.0, x.1)

regroup : (front : List Step) (step : Step) (read : Reading (List Step × List ℕ)) → with_steps front (read >>= λ x. Ok (step ∷ x.0, x.1)) ≡ with_steps (front ++ step ∷ []) read
regroup front step (Ok x) = ap (λ (steps : List Step). Ok (steps, x.1)) (simp append_assoc)
regroup front step (Err f) = refl

pub goes_on : (version : Version) (count line : ℕ) (text : List ℕ) (k : ℕ) (front : List Step) (rest : List ℕ) (step : Step) (after : List ℕ) → k < count → text_step version (line + k) rest ≡ Ok (step, after)
    → with_steps front (steps_at version (count - k) (line + k) rest) ≡ steps_at version count line text → with_steps (front ++ step ∷ []) (steps_at version (count - (k + 1)) (line + (k + 1)) after) ≡ steps_at version count line text
unfolding steps_at
goes_on version count line text k front rest step after lt h so_far =
    let m : count - k ≡ suc (count - (k + 1)) = omega arith in
    let next : line + k + 1 ≡ line + (k + 1) = omega arith in
    let one : with_steps front (steps_at version (count - k) (line + k) rest) ≡ with_steps (front ++ step ∷ []) (steps_at version (count - (k + 1)) (line + k + 1) after) = rw (m, h) (regroup front step (steps_at version (count - (k + 1)) (line + k + 1) after)) in
    ap (λ (l : ℕ). with_steps (front ++ step ∷ []) (steps_at version (count - (k + 1)) l after)) (sym next) ∙ (sym one ∙ so_far)

-- a step's fault is that of all of them
pub step_fault : (version : Version) (fault : CertTextError) (count line : ℕ) (text : List ℕ) (k : ℕ) (front : List Step) (rest : List ℕ) → k < count → text_step version (line + k) rest ≡ Err fault
    → with_steps front (steps_at version (count - k) (line + k) rest) ≡ steps_at version count line text → steps_at version count line text ≡ Err fault
unfolding steps_at
step_fault version fault count line text k front rest lt h so_far =
    let m : count - k ≡ suc (count - (k + 1)) = omega arith in
    let one : with_steps front (steps_at version (count - k) (line + k) rest) ≡ Err fault = rw (m, h) refl in
    sym so_far ∙ one

pub is_done : (version : Version) (count line : ℕ) (text : List ℕ) (k : ℕ) (front : List Step) (rest : List ℕ) → count ≤ k
    → with_steps front (steps_at version (count - k) (line + k) rest) ≡ steps_at version count line text → steps_at version count line text ≡ Ok (front, rest)
unfolding steps_at
is_done version count line text k front rest le so_far =
    let m : count - k ≡ 0 = omega arith in
    let one : with_steps front (steps_at version (count - k) (line + k) rest) ≡ Ok (front, rest) = rw m (ap (λ (steps : List Step). Ok (steps, rest)) (append-nil front)) in
    sym so_far ∙ one

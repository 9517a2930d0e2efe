-- No process stands twice in a chain, since its parts end earlier and earlier.
use Rattle.std.proofs.Common.{◌≡◌, ◌≢◌, ℕ, zero, suc, ◌<◌, ◌≤◌, List, [], ◌∷◌, Option, Some, length, slice_index, map, arith, ap}
use Rattle.std.proofs.lemmas.List.{length-map}
use Rattle.ttp_model.specs.Instance.{Instance}
use Rattle.ttp_model.specs.Rules.{IsInstance}
use Rattle.ttp_model.proofs.Orders.{different_few}
use Rattle.plan_reasons.specs.declared.path_parts.ChainPart.{ChainPart}
use Rattle.plan_reasons.specs.PathChains.{LeadsBack, held_by}
use Rattle.plan_reasons.proofs.PathFalling.{depth, falls}

-- the processes of parts
abbrev pub processes_of : List ChainPart → List ℕ
processes_of parts = map (λ (part : ChainPart). part.process) parts

module _ (i : Instance) (ends : List ℕ) (w : IsInstance i) where
  -- what ends before process p is another
  others : (p : ℕ) (next : Option ℕ) (parts : List ChainPart) → depth ends next < depth ends (Some p) → LeadsBack i ends next parts
      → (k : ℕ) → k < length parts → p ≢ slice_index (processes_of parts) k
  others p next [] before leads k inside = absurd (omega (arith, inside))
  others p next (a ∷ parts) before leads zero inside = λ same. omega (arith, before, ap (depth ends) leads.0, ap (slice_index ends) same)
  others p next (a ∷ parts) before leads (suc k) inside =
      others p (held_by i a.cause) parts (omega (arith, before, ap (depth ends) leads.0, falls i ends w a leads.1)) leads.2 k (omega (arith, inside))

  once : (next : Option ℕ) (parts : List ChainPart) → LeadsBack i ends next parts → (j k : ℕ) → j < k → k < length parts
      → slice_index (processes_of parts) j ≢ slice_index (processes_of parts) k
  once next [] leads j k lt inside = absurd (omega (arith, inside))
  once next (a ∷ parts) leads j zero lt inside = absurd (omega (arith, lt))
  once next (a ∷ parts) leads zero (suc k) lt inside = others a.process (held_by i a.cause) parts (falls i ends w a leads.1) leads.2 k (omega (arith, inside))
  once next (a ∷ parts) leads (suc j) (suc k) lt inside = once (held_by i a.cause) parts leads.2 j k (omega (arith, lt)) (omega (arith, inside))

  below : (next : Option ℕ) (parts : List ChainPart) → LeadsBack i ends next parts → (k : ℕ) → k < length parts
      → slice_index (processes_of parts) k < length i.processes
  below next [] leads k inside = absurd (omega (arith, inside))
  below next (a ∷ parts) leads zero inside = leads.1.is_there
  below next (a ∷ parts) leads (suc k) inside = below (held_by i a.cause) parts leads.2 k (omega (arith, inside))

  pub short : (next : Option ℕ) (parts : List ChainPart) → LeadsBack i ends next parts → length parts ≤ length i.processes
  short next parts leads =
      let same : length (processes_of parts) ≡ length parts = length-map parts (λ (part : ChainPart). part.process) in
      let few = different_few (length i.processes) (processes_of parts) (λ k inside. below next parts leads k (omega (arith, inside, same)))
      (λ j k lt inside. once next parts leads j k lt (omega (arith, inside, same))) in
      omega (arith, few, same)

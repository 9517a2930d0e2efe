-- No process and no message stands twice in a chain, since its links begin earlier and earlier.
use Rattle.std.proofs.Common.{◌≡◌, ◌≢◌, ℕ, zero, suc, ◌+◌, ◌<◌, ◌≤◌, List, [], ◌∷◌, Option, Some, length, slice_index, map, arith, ap}
use Rattle.std.proofs.lemmas.List.{length-map}
use Rattle.ttp_model.specs.declared.plan.Plan.{Plan}
use Rattle.ttp_model.specs.Instance.{Instance}
use Rattle.ttp_model.specs.Rules.{IsInstance}
use Rattle.ttp_model.specs.Plans.{IsValid, sent_from, start_of}
use Rattle.ttp_model.proofs.Orders.{different_few}
use Rattle.plan_reasons.specs.declared.plan_links.ChainLink.{ChainLink}
use Rattle.plan_reasons.specs.declared.plan_links.ChainLink.TheVariants.{Run, Sending}
use Rattle.plan_reasons.specs.declared.plan_links.Subject.{Subject}
use Rattle.plan_reasons.specs.PlanChains.{IsLinkOf, LeadsBack, held_by, subject_of}
use Rattle.plan_reasons.proofs.PlanFalling.{depth, falls}

-- a number for what a link is about: processes first, and messages behind them
abbrev pub number_of : Instance → ChainLink → ℕ
number_of i (Run p from until cause) = p
number_of i (Sending m from until cause) = length i.processes + m

module _ (i : Instance) (plan : Plan) (w : IsInstance i) (v : IsValid i plan) where
  same_depth : (a b : ChainLink) → IsLinkOf i plan a → IsLinkOf i plan b → number_of i a ≡ number_of i b
      → depth i plan (Some (subject_of a)) ≡ depth i plan (Some (subject_of b))
  same_depth (Run p f u c) (Run q g t d) is was same = ap (λ (k : ℕ). start_of plan k + 1) same
  same_depth (Run p f u c) (Sending m g t d) is was same = absurd (omega (arith, same, is.is_there))
  same_depth (Sending m f u c) (Run q g t d) is was same = absurd (omega (arith, same, was.is_there))
  same_depth (Sending m f u c) (Sending k g t d) is was same = let here : m ≡ k = omega (arith, same) in ap (λ (n : ℕ). sent_from i plan n + 1) here

  -- what begins before a link is about something else
  others : (a : ChainLink) (next : Option Subject) (links : List ChainLink) → IsLinkOf i plan a
      → depth i plan next < depth i plan (Some (subject_of a)) → LeadsBack i plan next links
      → (k : ℕ) → k < length links → number_of i a ≢ slice_index (map (number_of i) links) k
  others a next [] is before leads k inside = absurd (omega (arith, inside))
  others a next (b ∷ links) is before leads zero inside = λ same. omega (arith, before, ap (depth i plan) leads.0, same_depth a b is leads.1 same)
  others a next (b ∷ links) is before leads (suc k) inside =
      others a (held_by i b) links is (omega (arith, before, ap (depth i plan) leads.0, falls i plan w v b leads.1)) leads.2 k (omega (arith, inside))

  once : (next : Option Subject) (links : List ChainLink) → LeadsBack i plan next links → (j k : ℕ) → j < k → k < length links
      → slice_index (map (number_of i) links) j ≢ slice_index (map (number_of i) links) k
  once next [] leads j k lt inside = absurd (omega (arith, inside))
  once next (a ∷ links) leads j zero lt inside = absurd (omega (arith, lt))
  once next (a ∷ links) leads zero (suc k) lt inside = others a (held_by i a) links leads.1 (falls i plan w v a leads.1) leads.2 k (omega (arith, inside))
  once next (a ∷ links) leads (suc j) (suc k) lt inside = once (held_by i a) links leads.2 j k (omega (arith, lt)) (omega (arith, inside))

  number_below : (a : ChainLink) → IsLinkOf i plan a → number_of i a < length i.processes + length i.messages
  number_below (Run p f u c) is = omega (arith, is.is_there)
  number_below (Sending m f u c) is = omega (arith, is.is_there)

  below : (next : Option Subject) (links : List ChainLink) → LeadsBack i plan next links → (k : ℕ) → k < length links
      → slice_index (map (number_of i) links) k < length i.processes + length i.messages
  below next [] leads k inside = absurd (omega (arith, inside))
  below next (a ∷ links) leads zero inside = number_below a leads.1
  below next (a ∷ links) leads (suc k) inside = below (held_by i a) links leads.2 k (omega (arith, inside))

  pub short : (next : Option Subject) (links : List ChainLink) → LeadsBack i plan next links → length links ≤ length i.processes + length i.messages
  short next links leads =
      let same : length (map (number_of i) links) ≡ length links = length-map links (number_of i) in
      let few = different_few (length i.processes + length i.messages) (map (number_of i) links) (λ k inside. below next links leads k
      (omega (arith, inside, same))) (λ j k lt inside. once next links leads j k lt (omega (arith, inside, same))) in
      omega (arith, few, same)

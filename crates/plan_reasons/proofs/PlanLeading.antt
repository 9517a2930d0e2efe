-- A chain link by link: how one grows, what its neighbours are, and where it ends.
use Rattle.std.proofs.Common.{◌≡◌, ℕ, zero, suc, ◌<◌, List, [], ◌∷◌, ◌++◌, length, slice_index_or, Option, None, Some, append_assoc, arith, ap, sym, ◌∙◌}
use Rattle.std.proofs.lemmas.List.{append-nil}
use Rattle.ttp_model.specs.declared.plan.Plan.{Plan}
use Rattle.ttp_model.specs.Instance.{Instance, link_at, message_at}
use Rattle.ttp_model.specs.Plans.{end_of, sent_until}
use Rattle.ttp_model.specs.Delays.{delay}
use Rattle.plan_reasons.specs.declared.plan_links.ChainLink.{ChainLink}
use Rattle.plan_reasons.specs.declared.plan_links.ChainLink.TheVariants.{Run, Sending}
use Rattle.plan_reasons.specs.declared.plan_links.RoundCause.TheVariants.{CouldGo, First, Full}
use Rattle.plan_reasons.specs.declared.runs.StartCause.TheVariants.{Arrival, Behind, CouldStart, Link, Release}
use Rattle.plan_reasons.specs.declared.plan_links.Subject.{Subject}
use Rattle.plan_reasons.specs.declared.plan_links.Subject.TheVariants.{Message, Process}
use Rattle.plan_reasons.specs.PlanChains.{AreJoined, IsLinkOf, LeadsBack, held_by, subject_of, until_of}
use Rattle.plan_reasons.specs.PlanThere.{IsLinkThere}
use Rattle.plan_reasons.proofs.PlanFalling.{link_is_there}

module _ (i : Instance) (plan : Plan) where
  -- by one link more
  pub one_more : (start next : Option Subject) (links : List ChainLink) (link : ChainLink) → ((rest : List ChainLink) → LeadsBack i plan next rest
      → LeadsBack i plan start (links ++ rest))
      → next ≡ Some (subject_of link) → IsLinkOf i plan link → (rest : List ChainLink) → LeadsBack i plan (held_by i link) rest
      → LeadsBack i plan start ((links ++ link ∷ []) ++ rest)
  one_more start next links link leads is of rest more = rw append_assoc (leads (link ∷ rest) (is, of, more))

  -- nothing is left
  pub no_more : (start next : Option Subject) (links : List ChainLink) → ((rest : List ChainLink) → LeadsBack i plan next rest
      → LeadsBack i plan start (links ++ rest)) → next ≡ None → LeadsBack i plan start links
  no_more start next links leads none = rw append-nil at (leads [] none)

  -- what its links name is there
  pub all_there : (next : Option Subject) (links : List ChainLink) → LeadsBack i plan next links → (k : ℕ) (d : ChainLink) → k < length links
      → IsLinkThere i (slice_index_or links k d)
  all_there next [] leads k d inside = absurd (omega (arith, inside))
  all_there next (link ∷ links) leads zero d inside = link_is_there i plan link leads.1
  all_there next (link ∷ links) leads (suc k) d inside = all_there (held_by i link) links leads.2 k d (omega (arith, inside))

  -- the first one ends when its process does
  pub first_ends : (last : ℕ) (link : ChainLink) → Some (Process last) ≡ Some (subject_of link) → IsLinkOf i plan link
      → end_of i plan last ≡ delay i plan → until_of link ≡ delay i plan
  first_ends last (Run p from until cause) same is ends = let here : last ≡ p = cc in is.ends ∙ (ap (end_of i plan) (sym here) ∙ ends)
  first_ends last (Sending m from until cause) same is ends = absurd (let two : Process last ≡ Message m = cc in cc)

  -- two neighbours
  pub neighbours : (later : List ChainLink) (next : Option Subject) (link before : ChainLink) (earlier : List ChainLink)
      → LeadsBack i plan next (later ++ link ∷ before ∷ earlier)
      → IsLinkOf i plan link × IsLinkOf i plan before × (held_by i link ≡ Some (subject_of before))
  neighbours [] next link before earlier leads = (leads.1, leads.2.1, leads.2.0)
  neighbours (x ∷ later) next link before earlier leads = neighbours later (held_by i x) link before earlier leads.2

  -- the last one
  pub last_one : (later : List ChainLink) (next : Option Subject) (link : ChainLink) → LeadsBack i plan next (later ++ link ∷ [])
      → IsLinkOf i plan link × (held_by i link ≡ None)
  last_one [] next link leads = (leads.1, leads.2)
  last_one (x ∷ later) next link leads = last_one later (held_by i x) link leads.2

  -- so are any two of which the first is held back by the second
  pub joined : (link before : ChainLink) → IsLinkOf i plan link → IsLinkOf i plan before → held_by i link ≡ Some (subject_of before)
      → AreJoined i plan link before
  joined (Run p from until Release) (Run q a b cause) is was held = absurd (cc)
  joined (Run p from until Release) (Sending m a b cause) is was held = absurd (cc)
  joined (Run p from until (Link l)) (Run q a b cause) is was held =
      let here : (link_at i l).before ≡ q = cc in omega (arith, was.ends, ap (end_of i plan) here, is.for_cause.1.holds.1, is.starts)
  joined (Run p from until (Link l)) (Sending m a b cause) is was held = absurd (cc)
  joined (Run p from until (Behind k)) (Run q a b cause) is was held =
      let here : k ≡ q = cc in omega (arith, was.ends, ap (end_of i plan) here, is.for_cause.2.holds.1, is.starts)
  joined (Run p from until (Behind k)) (Sending m a b cause) is was held = absurd (cc)
  joined (Run p from until (Arrival k)) (Run q a b cause) is was held = absurd (cc)
  joined (Run p from until (Arrival k)) (Sending m a b cause) is was held =
      let here : k ≡ m = cc in omega (arith, was.ends, ap (sent_until i plan) here, is.for_cause.2.holds.1, is.starts)
  joined (Run p from until (CouldStart time)) (Run q a b cause) is was held = absurd (cc)
  joined (Run p from until (CouldStart time)) (Sending m a b cause) is was held = absurd (cc)
  joined (Sending k from until First) (Run q a b cause) is was held =
      let here : (message_at i k).sender ≡ q = cc in (here, λ other can. is.for_cause.least other can.ready)
  joined (Sending k from until First) (Sending m a b cause) is was held = absurd (cc)
  joined (Sending k from until (Full first)) (Run q a b cause) is was held =
      let here : (message_at i k).sender ≡ q = cc in (here, is.for_cause.2)
  joined (Sending k from until (Full first)) (Sending m a b cause) is was held = absurd (cc)
  joined (Sending k from until (CouldGo r)) (Run q a b cause) is was held = absurd (cc)
  joined (Sending k from until (CouldGo r)) (Sending m a b cause) is was held = absurd (cc)

-- A chain part by part: how one grows, what its neighbours are, and where it ends.
use Rattle.std.proofs.Common.{◌≡◌, ℕ, zero, suc, ◌<◌, List, [], ◌∷◌, ◌++◌, length, slice_index, slice_index_or, Option, None, Some}
use Rattle.std.proofs.Common.{append_assoc, arith, ap, refl, sym, ◌∙◌}
use Rattle.std.proofs.lemmas.List.{append-nil}
use Rattle.ttp_model.specs.Instance.{Instance, link_at, message_at, process_at}
use Rattle.plan_reasons.specs.declared.runs.StartCause.{StartCause}
use Rattle.plan_reasons.specs.declared.runs.StartCause.TheVariants.{Arrival, Behind, CouldStart, Link, Release}
use Rattle.plan_reasons.specs.declared.path_parts.ChainPart.{ChainPart}
use Rattle.plan_reasons.specs.PathChains.{AreJoined, AreJoinedBy, BeginsAtRelease, IsCause, IsPart, LeadsBack, held_by}
use Rattle.plan_reasons.specs.PathThere.{IsPartThere}
use Rattle.plan_reasons.proofs.PathFalling.{part_there}

module _ (i : Instance) (ends : List ℕ) where
  -- by one part more
  pub one_more : (start next : Option ℕ) (parts : List ChainPart) (part : ChainPart)
      → ((rest : List ChainPart) → LeadsBack i ends next rest → LeadsBack i ends start (parts ++ rest))
      → next ≡ Some part.process → IsPart i ends part → (rest : List ChainPart) → LeadsBack i ends (held_by i part.cause) rest
      → LeadsBack i ends start ((parts ++ part ∷ []) ++ rest)
  one_more start next parts part leads is of rest more = rw append_assoc (leads (part ∷ rest) (is, of, more))

  -- nothing is left
  pub no_more : (start next : Option ℕ) (parts : List ChainPart)
      → ((rest : List ChainPart) → LeadsBack i ends next rest → LeadsBack i ends start (parts ++ rest)) → next ≡ None → LeadsBack i ends start parts
  no_more start next parts leads none = rw append-nil at (leads [] none)

  -- what its parts name is there
  pub all_there : (next : Option ℕ) (parts : List ChainPart) → LeadsBack i ends next parts → (k : ℕ) (d : ChainPart) → k < length parts
      → IsPartThere i (slice_index_or parts k d)
  all_there next [] leads k d inside = absurd (omega (arith, inside))
  all_there next (part ∷ parts) leads zero d inside = part_there i ends part leads.1
  all_there next (part ∷ parts) leads (suc k) d inside = all_there (held_by i part.cause) parts leads.2 k d (omega (arith, inside))

  -- two neighbours
  pub neighbours : (later : List ChainPart) (next : Option ℕ) (part before : ChainPart) (earlier : List ChainPart)
      → LeadsBack i ends next (later ++ part ∷ before ∷ earlier)
      → IsPart i ends part × IsPart i ends before × (held_by i part.cause ≡ Some before.process)
  neighbours [] next part before earlier leads = (leads.1, leads.2.1, leads.2.0)
  neighbours (x ∷ later) next part before earlier leads = neighbours later (held_by i x.cause) part before earlier leads.2

  -- the last one
  pub last_one : (later : List ChainPart) (next : Option ℕ) (part : ChainPart) → LeadsBack i ends next (later ++ part ∷ [])
      → IsPart i ends part × (held_by i part.cause ≡ None)
  last_one [] next part leads = (leads.1, leads.2)
  last_one (x ∷ later) next part leads = last_one later (held_by i x.cause) part leads.2

  joined_by : (cause : StartCause) (part before : ChainPart) → IsCause i ends part.process part.from cause → before.until ≡ slice_index ends before.process
      → held_by i cause ≡ Some before.process → AreJoinedBy i cause part before
  joined_by Release part before is ends_so held = absurd (cc)
  joined_by (Behind q) part before is ends_so held = absurd is
  joined_by (CouldStart time) part before is ends_so held = absurd is
  joined_by (Link l) part before is ends_so held =
      let same : (link_at i l).before ≡ before.process = cc in (is.1.holds.0, same, ends_so ∙ ap (slice_index ends) (sym same) ∙ is.1.holds.1)
  joined_by (Arrival m) part before is ends_so held =
      let same : (message_at i m).sender ≡ before.process = cc in (is.2.holds.0, same, omega (arith, ends_so, ap (slice_index ends) same, is.2.holds.1))

  -- so are any two of which the first waits for the second
  pub joined : (part before : ChainPart) → IsPart i ends part → IsPart i ends before → held_by i part.cause ≡ Some before.process
      → AreJoined i part before
  joined part before is was held = joined_by part.cause part before is.for_cause was.ends_so held

  unheld : (p from : ℕ) (cause : StartCause) → IsCause i ends p from cause → held_by i cause ≡ None
      → (cause ≡ Release) × (from ≡ (process_at i p).release)
  unheld p from Release is none = (refl, sym is)
  unheld p from (Link l) is none = absurd (cc)
  unheld p from (Arrival m) is none = absurd (cc)
  unheld p from (Behind q) is none = absurd is
  unheld p from (CouldStart time) is none = absurd is

  -- and one that waits for none begins at its release
  pub released : (part : ChainPart) → IsPart i ends part → held_by i part.cause ≡ None → BeginsAtRelease i part
  released part is none = unheld part.process part.from part.cause is.for_cause none

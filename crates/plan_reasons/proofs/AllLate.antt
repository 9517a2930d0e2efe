-- Each process that is told as too late ends after it has to.
use Rattle.std.proofs.Common.{ℕ, ◌+◌, ◌<◌, List, [], ◌∷◌, ◌++◌, All, le-leb, inl, inr, length}
use Rattle.std.specs.List.{flat_map, range_with_len}
use Rattle.std.proofs.lemmas.Bool.{cases_lt, lt-leb}
use Rattle.std.proofs.lemmas.List.Elements.{All-append, All-cons, All-nil}
use Rattle.ttp_model.specs.Instance.{Instance, message_at, process_at}
use Rattle.plan_facts.specs.Ends.{must_end_by}
use Rattle.plan_reasons.specs.declared.runs.StartCause.{StartCause}
use Rattle.plan_reasons.specs.declared.path_parts.ChainPart.{ChainPart}
use Rattle.plan_reasons.specs.Late.{arrived_late, late_part, late_parts, linked_late, part_from, receivers_late, released_late, there_at}

module _ (i : Instance) where
  abbrev EndsLate : ChainPart → Type 0
  EndsLate part = must_end_by i part.process < part.until

  each_listed : (f : ℕ → List ChainPart) (xs : List ℕ) → ((k : ℕ) → All EndsLate (f k)) → All EndsLate (flat_map f xs)
  each_listed f [] late = All-nil EndsLate
  each_listed f (x ∷ xs) late = All-append EndsLate (f x) (flat_map f xs) (late x) (each_listed f xs late)

  one_late : (p from : ℕ) (cause : StartCause) → All EndsLate (late_part i p from cause)
  one_late p from cause = elim (cases_lt (must_end_by i p) (from + (process_at i p).wcet)) [
    | inl late ↦ rw (lt-leb _ _ late) (All-cons EndsLate (part_from i p from cause) [] late (All-nil EndsLate))
    | inr early ↦ rw (le-leb _ _ early) (All-nil EndsLate)
  ]

  pub all_late : (ends : List ℕ) → All EndsLate (late_parts i ends)
  all_late ends =
      let released = flat_map (released_late i) (range_with_len 0 (length i.processes)) in
      let linked = flat_map (linked_late i ends) (range_with_len 0 (length i.links)) in
      let received = flat_map (receivers_late i ends) (range_with_len 0 (length i.messages)) in
      All-append EndsLate released (linked ++ received) (each_listed (released_late i) _ (λ p. one_late p _ _))
      (All-append EndsLate linked received (each_listed (linked_late i ends) _ (λ l. one_late _ _ _))
      (each_listed (receivers_late i ends) _ (λ m. each_listed (arrived_late i m (there_at i ends m)) (message_at i m).receivers (λ q. one_late q _ _))))

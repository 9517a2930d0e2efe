-- What is proved of each step of the table by itself: that it is about what the instance has, writes its target and is sound; that it leads as far
-- inside a choice, or asks for a round where a message has none left; and that it gives the same where what it reads is the same.
use Rattle.std.proofs.Common.{◌≡◌, ℕ, ◌+◌, ◌-◌, min, IsFalse, arith, inl, inr, refl, ap, sym, ◌∙◌}
use Rattle.ttp_model.specs.declared.plan.Plan.{Plan}
use Rattle.ttp_model.specs.declared.step.Step.{Step}
use Rattle.ttp_model.specs.declared.step.Step.TheVariants.{EsRelease, EsLink, EsBefore, EsArrive, EsMessage, LoSend, LeOwn, LeLink, LeBefore, LeMessage}
use Rattle.ttp_model.specs.declared.step.Step.TheVariants.{LeSend, HiArrive, OrdWindow, OrdTwin, UsSettled, XWindow, XRound, XCycle, XLoad, XFrame, XFrames}
use Rattle.ttp_model.specs.declared.step.Step.TheVariants.{XChannel, XLate, XSilent, XMirror}
use Rattle.ttp_model.specs.declared.error.Place.TheVariants.{AtLink}
use Rattle.ttp_model.specs.Instance.{Instance, process_at, link_at, source_of}
use Rattle.ttp_model.specs.Slots.{slot_duration}
use Rattle.ttp_model.specs.Rules.{IsInstance}
use Rattle.tt_choice.specs.Choice.{Choice, IsChoice}
use Rattle.tt_choice.specs.Extremes.{start_most, end_least, cap_most, dur_least}
use Rattle.sought_plans.specs.Known.{Known, IsSought, AreTrueOf, es_of, le_of, lo_of, top_of, bef_of}
use Rattle.sought_plans.specs.Conclusions.{Conclusion, IsAbout, StartsFrom, EndsUntil}
use Rattle.sought_plans.specs.Premises.{wcet_of, sender_of}
use Rattle.tt_infer.specs.Table.{rule, fact_of, reads, target}
use Rattle.tt_infer.specs.Reads.{AgreeOnReads, HasItsPlace, IsSourceThere, OfEach, ReadsFact}
use Rattle.tt_infer.specs.declared.fact.Fact.TheVariants.{Start, End, FirstRound, LateRound, Order}
use Rattle.tt_infer.specs.declared.limit.Limit.TheVariants.{Goal, LeastSlot, GreatestSlot, LeastFrame, GreatestFrame}
use Rattle.tt_infer.proofs.Soundness.{IsSoundFor}
use Rattle.tt_infer.proofs.Sending.{sender_is, source_is, receiver_is}
use Rattle.tt_infer.proofs.Starts.{es_release_sound, es_link_sound, es_before_sound, es_arrive_sound, es_message_sound}
use Rattle.tt_infer.proofs.Ends.{le_own_sound, le_link_sound, le_before_sound, le_message_sound, le_send_sound}
use Rattle.tt_infer.proofs.Rounds.{lo_send_sound, hi_arrive_sound}
use Rattle.tt_infer.proofs.Orders.{ord_window_sound}
use Rattle.tt_infer.proofs.Closers.{x_window_sound, x_round_sound, x_cycle_sound, x_load_sound, x_frame_sound, x_frames_sound, x_channel_sound}
use Rattle.tt_infer.proofs.Twins.{ord_twin_sound}
use Rattle.tt_infer.proofs.Waits.{us_settled_sound}
use Rattle.tt_infer.proofs.LateMessages.{x_late_sound}
use Rattle.tt_infer.proofs.SilentTwins.{x_silent_sound}
use Rattle.tt_infer.proofs.Mirrors.{x_mirror_sound}
use Rattle.tt_infer.proofs.monotone.Nested.{Nested, AreKnown}
use Rattle.tt_infer.proofs.monotone.Served.{IsServed, le_send_served, us_settled_served}
use Rattle.tt_infer.proofs.monotone.Starts.{es_release_kept, es_link_kept, es_before_kept, es_arrive_kept, es_message_kept}
use Rattle.tt_infer.proofs.monotone.Ends.{le_own_kept, le_link_kept, le_before_kept, le_message_kept}
use Rattle.tt_infer.proofs.monotone.Rounds.{lo_send_kept, hi_arrive_kept}
use Rattle.tt_infer.proofs.monotone.Orders.{ord_window_kept, ord_twin_kept}
use Rattle.tt_infer.proofs.monotone.Closers.{x_window_kept, x_round_kept, x_cycle_kept, x_frame_kept}
use Rattle.tt_infer.proofs.monotone.Loads.{x_load_kept, x_frames_kept, x_channel_kept}
use Rattle.tt_infer.proofs.monotone.Dominance.{x_late_kept, x_silent_kept, x_mirror_kept}
use Rattle.tt_infer.proofs.alike.Rings.{ring_alike}
use Rattle.tt_infer.proofs.alike.Waits.{rounds_alike, greatest_wait_alike}
use Rattle.tt_infer.proofs.alike.Late.{earlier_alike}
use Rattle.tt_infer.proofs.alike.Mirrors.{mirrored_alike}
use Rattle.tt_infer.proofs.alike.Premises.{overloaded_alike, overfull_alike, overfull_on_alike, turned_alike, chance_alike, chances_alike}
use Rattle.tt_infer.proofs.alike.Orders.{no_start, no_end, no_first, no_late, not_known, not_in_ring, not_run, not_sending, not_kept_out, not_apart}
use Rattle.tt_infer.proofs.alike.Orders.{of_its_first}

-- what a step concludes is about what the instance has
pub step_is_about : (i : Instance) (c : Choice) (goal : ℕ) (f : Known) (step : Step) (k : Conclusion) → IsInstance i → (rule i c goal f step).there
    → (rule i c goal f step).premise → (rule i c goal f step).concludes k → IsAbout i k
step_is_about i c goal f (EsRelease p) k w there premise is = rw is there
step_is_about i c goal f (EsLink l) k w there premise is = rw is (w.indices (AtLink l) there).1
step_is_about i c goal f (EsBefore p q) k w there premise is = rw is there.second
step_is_about i c goal f (EsArrive m q) k w there premise is = rw is (receiver_is i m q w there)
step_is_about i c goal f (EsMessage m q) k w there premise is = rw is (receiver_is i m q w there)
step_is_about i c goal f (LoSend m) k w there premise is = rw is.2 there
step_is_about i c goal f (LeOwn p) k w there premise is = rw is there
step_is_about i c goal f (LeLink l) k w there premise is = rw is (w.indices (AtLink l) there).0
step_is_about i c goal f (LeBefore p q) k w there premise is = rw is there.first
step_is_about i c goal f (LeMessage m q) k w there premise is = rw is (sender_is i m w there.0)
step_is_about i c goal f (LeSend m) k w there premise is = rw is (sender_is i m w there)
step_is_about i c goal f (HiArrive m q) k w there premise is = rw is.2 there.0
step_is_about i c goal f (OrdWindow p q) k w there premise is = rw is (there.first, there.second)
step_is_about i c goal f (OrdTwin p q) k w there premise is = rw is (there.first, there.second)
step_is_about i c goal f (UsSettled p) k w there premise is = rw is.2 there
step_is_about i c goal f step k w there premise is = rw is tt

-- the fact that it concludes something about is the one that it writes
pub target_is : (i : Instance) (c : Choice) (goal : ℕ) (f : Known) (step : Step) (k : Conclusion) → (rule i c goal f step).concludes k → fact_of k ≡ target i step
target_is i c goal f (LoSend m) k is = ap fact_of is.2
target_is i c goal f (HiArrive m q) k is = ap fact_of is.2
target_is i c goal f (UsSettled p) k is = ap fact_of is.2
target_is i c goal f step k is = ap fact_of is

-- and is true of each sought plan of which the facts are true
pub step_is_true : (i : Instance) (c : Choice) (goal : ℕ) (f : Known) (plan : Plan) (step : Step) → IsInstance i → IsChoice i c → IsSought i c goal plan
    → AreTrueOf i plan f → IsSoundFor i c goal f plan step
step_is_true i c goal f plan (EsRelease p) w ok sought t = es_release_sound i c goal f plan p sought.settled.valid
step_is_true i c goal f plan (EsLink l) w ok sought t = es_link_sound i c goal f plan l w sought.settled.valid t
step_is_true i c goal f plan (EsBefore p q) w ok sought t = es_before_sound i c goal f plan p q t
step_is_true i c goal f plan (EsArrive m q) w ok sought t = es_arrive_sound i c goal f plan m q w ok sought t
step_is_true i c goal f plan (EsMessage m q) w ok sought t = es_message_sound i c goal f plan m q w sought t
step_is_true i c goal f plan (LoSend m) w ok sought t = lo_send_sound i c goal f plan m w ok sought t
step_is_true i c goal f plan (LeOwn p) w ok sought t = le_own_sound i c goal f plan p sought
step_is_true i c goal f plan (LeLink l) w ok sought t = le_link_sound i c goal f plan l w sought.settled.valid t
step_is_true i c goal f plan (LeBefore p q) w ok sought t = le_before_sound i c goal f plan p q t
step_is_true i c goal f plan (LeMessage m q) w ok sought t = le_message_sound i c goal f plan m q w sought t
step_is_true i c goal f plan (LeSend m) w ok sought t = le_send_sound i c goal f plan m w ok sought t
step_is_true i c goal f plan (HiArrive m q) w ok sought t = hi_arrive_sound i c goal f plan m q w ok sought t
step_is_true i c goal f plan (OrdWindow p q) w ok sought t = ord_window_sound i c goal f plan p q sought.settled.valid t
step_is_true i c goal f plan (OrdTwin p q) w ok sought t = ord_twin_sound i c goal f plan p q w sought
step_is_true i c goal f plan (UsSettled p) w ok sought t = us_settled_sound i c goal f plan p w ok sought t
step_is_true i c goal f plan (XWindow p) w ok sought t = x_window_sound i c goal f plan p t
step_is_true i c goal f plan (XRound m) w ok sought t = x_round_sound i c goal f plan m t
step_is_true i c goal f plan (XCycle ps) w ok sought t = x_cycle_sound i c goal f plan ps w sought.settled.valid t
step_is_true i c goal f plan (XLoad n a b) w ok sought t = x_load_sound i c goal f plan n a b sought.settled.valid t
step_is_true i c goal f plan (XFrame m) w ok sought t = x_frame_sound i c goal f plan m w sought
step_is_true i c goal f plan (XFrames n a b) w ok sought t = x_frames_sound i c goal f plan n a b w sought t
step_is_true i c goal f plan (XChannel channel n a b) w ok sought t = x_channel_sound i c goal f plan channel n a b w sought t
step_is_true i c goal f plan (XLate m r) w ok sought t = x_late_sound i c goal f plan m r w ok sought t
step_is_true i c goal f plan (XSilent a b) w ok sought t = x_silent_sound i c goal f plan a b ok sought
step_is_true i c goal f plan (XMirror m) w ok sought t = x_mirror_sound i c goal f plan m w sought t

-- inside a choice it concludes as much, or more; or else it asks for a round, and a message has none left
pub step_served : (s : Nested) (f h : Known) (step : Step) → AreKnown s f h → IsServed s f h step
step_served s f h (EsRelease p) t = inl (es_release_kept s f h p)
step_served s f h (EsLink l) t = inl (es_link_kept s f h l t)
step_served s f h (EsBefore p q) t = inl (es_before_kept s f h p q t)
step_served s f h (EsArrive m q) t = inl (es_arrive_kept s f h m q t)
step_served s f h (EsMessage m q) t = inl (es_message_kept s f h m q t)
step_served s f h (LoSend m) t = inl (lo_send_kept s f h m t)
step_served s f h (LeOwn p) t = inl (le_own_kept s f h p)
step_served s f h (LeLink l) t = inl (le_link_kept s f h l t)
step_served s f h (LeBefore p q) t = inl (le_before_kept s f h p q t)
step_served s f h (LeMessage m q) t = inl (le_message_kept s f h m q t)
step_served s f h (LeSend m) t = le_send_served s f h m t
step_served s f h (HiArrive m q) t = inl (hi_arrive_kept s f h m q t)
step_served s f h (OrdWindow p q) t = inl (ord_window_kept s f h p q t)
step_served s f h (OrdTwin p q) t = inl (ord_twin_kept s f h p q)
step_served s f h (UsSettled p) t = us_settled_served s f h p t
step_served s f h (XWindow p) t = inl (x_window_kept s f h p t)
step_served s f h (XRound m) t = inl (x_round_kept s f h m t)
step_served s f h (XCycle ps) t = inl (x_cycle_kept s f h ps t)
step_served s f h (XLoad n a b) t = inl (x_load_kept s f h n a b t)
step_served s f h (XFrame m) t = inl (x_frame_kept s f h m)
step_served s f h (XFrames n a b) t = inl (x_frames_kept s f h n a b t)
step_served s f h (XChannel k n a b) t = inl (x_channel_kept s f h k n a b t)
step_served s f h (XLate m r) t = inl (x_late_kept s f h m r t)
step_served s f h (XSilent u v) t = inl (x_silent_kept s f h u v)
step_served s f h (XMirror m) t = inl (x_mirror_kept s f h m t)

-- what it reads is about what is there
pub sources_are_there : (i : Instance) (c : Choice) (goal : ℕ) (f : Known) (step : Step) → IsInstance i → (rule i c goal f step).there
    → OfEach (IsSourceThere i) (reads i step)
sources_are_there i c goal f (EsRelease p) w there = tt
sources_are_there i c goal f (EsLink l) w there = (w.indices (AtLink l) there).0
sources_are_there i c goal f (EsBefore p q) w there = (there.first, (there.first, there.second))
sources_are_there i c goal f (EsArrive m q) w there = (there.0, source_is i m w there.0)
sources_are_there i c goal f (EsMessage m q) w there = (sender_is i m w there.0, source_is i m w there.0)
sources_are_there i c goal f (LoSend m) w there = (sender_is i m w there, source_is i m w there)
sources_are_there i c goal f (LeOwn p) w there = tt
sources_are_there i c goal f (LeLink l) w there = (w.indices (AtLink l) there).1
sources_are_there i c goal f (LeBefore p q) w there = (there.second, (there.first, there.second))
sources_are_there i c goal f (LeMessage m q) w there = (receiver_is i m q w there, source_is i m w there.0)
sources_are_there i c goal f (LeSend m) w there = (there, source_is i m w there)
sources_are_there i c goal f (HiArrive m q) w there = (receiver_is i m q w there, source_is i m w there.0)
sources_are_there i c goal f (OrdWindow p q) w there = (there.first, there.second)
sources_are_there i c goal f (OrdTwin p q) w there = tt
sources_are_there i c goal f (UsSettled p) w there = there
sources_are_there i c goal f (XWindow p) w there = (there, there)
sources_are_there i c goal f (XRound m) w there = (there, there)
sources_are_there i c goal f (XCycle ps) w there = there
sources_are_there i c goal f (XLoad n a b) w there = there
sources_are_there i c goal f (XFrame m) w there = source_is i m w there
sources_are_there i c goal f (XFrames n a b) w there = there
sources_are_there i c goal f (XChannel k n a b) w there = (there.0, there.1.0)
sources_are_there i c goal f (XLate m r) w there = there
sources_are_there i c goal f (XSilent u v) w there = there.1
sources_are_there i c goal f (XMirror m) w there = there

-- and a node whose place it reads stands in front of another one
pub sources_have_places : (i : Instance) (c : Choice) (goal : ℕ) (f : Known) (step : Step) → (rule i c goal f step).premise → OfEach (HasItsPlace c) (reads i step)
sources_have_places i c goal f (EsRelease p) premise = tt
sources_have_places i c goal f (EsLink l) premise = tt
sources_have_places i c goal f (LeOwn p) premise = tt
sources_have_places i c goal f (LeLink l) premise = tt
sources_have_places i c goal f (OrdTwin p q) premise = tt
sources_have_places i c goal f (UsSettled p) premise = tt
sources_have_places i c goal f (XCycle ps) premise = tt
sources_have_places i c goal f (XLoad n a b) premise = tt
sources_have_places i c goal f (XFrame m) premise = tt
sources_have_places i c goal f (XFrames n a b) premise = tt
sources_have_places i c goal f (XChannel k n a b) premise = tt
sources_have_places i c goal f (XLate m r) premise = tt
sources_have_places i c goal f (XMirror m) premise = tt
sources_have_places i c goal f (XSilent u v) premise = (u, premise.first)
sources_have_places i c goal f step premise = (tt, tt)

module _ (i : Instance) (c : Choice) (goal : ℕ) (f : Known) (d : Choice) (aim : ℕ) (g : Known) where
  -- what a step names doesn't rest on what is known
  pub there_alike : (step : Step) → (rule i c goal f step).there → (rule i d aim g step).there
  there_alike (XMirror m) is = is
  there_alike step is = is

  -- where what it reads is the same its premise is so there, row by row
  pub premise_alike : (step : Step) → AgreeOnReads i c goal f d aim g step → (rule i c goal f step).premise → (rule i d aim g step).premise
  premise_alike (EsBefore p q) agree is = sym (agree.facts (Order p q) (inr refl)) ∙ is
  premise_alike (LeBefore p q) agree is = sym (agree.facts (Order p q) (inr refl)) ∙ is
  premise_alike (LeSend m) agree is =
      let late : top_of f m ≡ top_of g m = agree.facts (LateRound m) (inl refl) in
      omega (arith, is, late)
  premise_alike (OrdWindow p q) agree is =
      let end : le_of f p ≡ le_of g p = agree.facts (End p) (inl refl) in
      let start : es_of f q ≡ es_of g q = agree.facts (Start q) (inr refl) in
      omega (arith, is, end, start)
  premise_alike (UsSettled p) agree is = rounds_alike i c goal f d aim g p agree is
  premise_alike (XWindow p) agree is =
      let start : es_of f p ≡ es_of g p = agree.facts (Start p) (inl refl) in
      let end : le_of f p ≡ le_of g p = agree.facts (End p) (inr refl) in
      omega (arith, is, end, start)
  premise_alike (XRound m) agree is =
      let first : lo_of f m ≡ lo_of g m = agree.facts (FirstRound m) (inl refl) in
      let late : top_of f m ≡ top_of g m = agree.facts (LateRound m) (inr refl) in
      omega (arith, is, first, late)
  premise_alike (XCycle ps) agree is = ring_alike i c f g ps agree.facts is
  premise_alike (XLoad n a b) agree is = overloaded_alike i c goal f d aim g n a b agree is
  premise_alike (XFrame m) agree is =
      let frame : cap_most i c (source_of i m) ≡ cap_most i d (source_of i m) = agree.limits (GreatestFrame (source_of i m)) refl in
      omega (arith, is, frame)
  premise_alike (XFrames n a b) agree is = overfull_alike i c goal f d aim g n a b agree is
  premise_alike (XChannel k n a b) agree is = overfull_on_alike i c goal f d aim g k n a b agree is
  premise_alike (XLate m r) agree is = earlier_alike i c goal f d aim g m r agree is
  premise_alike (XSilent u v) agree is = turned_alike i c goal f d aim g u v agree is
  premise_alike (XMirror m) agree is = mirrored_alike i c goal f d aim g m agree is
  premise_alike step agree is = is

  -- and it concludes the same
  pub conclusion_alike : (step : Step) (k : Conclusion) → AgreeOnReads i c goal f d aim g step → (rule i c goal f step).concludes k → (rule i d aim g step).concludes k
  conclusion_alike (EsLink l) k agree is =
      is ∙ ap (λ start. StartsFrom (link_at i l).after (start + wcet_of i (link_at i l).before)) (agree.facts (Start (link_at i l).before) refl)
  conclusion_alike (EsBefore p q) k agree is = is ∙ ap (λ start. StartsFrom q (start + wcet_of i p)) (agree.facts (Start p) (inl refl))
  conclusion_alike (EsArrive m q) k agree is =
      let slot : end_least i c (source_of i m) (lo_of f m) ≡ end_least i d (source_of i m) (lo_of f m) = (agree.limits (LeastSlot (source_of i m)) (inr refl) (lo_of f m)).1 in
      is ∙ ap (λ end. StartsFrom q (end + i.cluster.copy_in)) (slot ∙ ap (end_least i d (source_of i m)) (agree.facts (FirstRound m) (inl refl)))
  conclusion_alike (EsMessage m q) k agree is =
      is
      ∙ ap (λ start. StartsFrom q (start + wcet_of i (sender_of i m) + i.cluster.copy_out + dur_least i c (source_of i m) + i.cluster.copy_in)) (agree.facts (Start (sender_of i m)) (inl refl))
      ∙ ap (λ cap. StartsFrom q (es_of g (sender_of i m) + wcet_of i (sender_of i m) + i.cluster.copy_out + slot_duration i.cluster cap + i.cluster.copy_in)) (agree.limits (LeastFrame (source_of i m)) (inr refl))
  conclusion_alike (LoSend m) k agree is = (is.0, chance_alike i c goal f d aim g m is.0 agree is.1, is.2)
  conclusion_alike (LeOwn p) k agree is = is ∙ ap (λ below. EndsUntil p (min (min (process_at i p).deadline i.cluster.horizon) (below - 1))) (agree.limits Goal refl)
  conclusion_alike (LeLink l) k agree is =
      is ∙ ap (λ end. EndsUntil (link_at i l).before (end - wcet_of i (link_at i l).after)) (agree.facts (End (link_at i l).after) refl)
  conclusion_alike (LeBefore p q) k agree is = is ∙ ap (λ end. EndsUntil p (end - wcet_of i q)) (agree.facts (End q) (inl refl))
  conclusion_alike (LeMessage m q) k agree is =
      is
      ∙ ap (λ end. EndsUntil (sender_of i m) (end - wcet_of i q - i.cluster.copy_in - dur_least i c (source_of i m) - i.cluster.copy_out)) (agree.facts (End q) (inl refl))
      ∙ ap (λ cap. EndsUntil (sender_of i m) (le_of g q - wcet_of i q - i.cluster.copy_in - slot_duration i.cluster cap - i.cluster.copy_out)) (agree.limits (LeastFrame (source_of i m)) (inr refl))
  conclusion_alike (LeSend m) k agree is =
      let slot : start_most i c (source_of i m) (top_of f m - 1) ≡ start_most i d (source_of i m) (top_of f m - 1) = (agree.limits (GreatestSlot (source_of i m)) (inr refl) (top_of f m - 1)).0 in
      is ∙ ap (λ start. EndsUntil (sender_of i m) (start - i.cluster.copy_out)) (slot ∙ ap (λ late. start_most i d (source_of i m) (late - 1)) (agree.facts (LateRound m) (inl refl)))
  conclusion_alike (HiArrive m q) k agree is = (is.0, chances_alike i c goal f d aim g m q is.0 agree is.1, is.2)
  conclusion_alike (UsSettled p) k agree is = (is.0, greatest_wait_alike i c goal f d aim g p agree is.0 is.1, is.2)
  conclusion_alike step k agree is = is

-- of an order that isn't known only the step reads it that asks how long its first process may have to wait
module _ (i : Instance) (c : Choice) (goal : ℕ) (f : Known) (p q : ℕ) (unknown : IsFalse (bef_of f p q)) where
  pub reads_unknown : (step : Step) → (rule i c goal f step).premise → ReadsFact i c f step (Order p q) → step ≡ UsSettled p
  reads_unknown (EsLink l) premise reads = absurd (no_start f p q _ reads)
  reads_unknown (EsBefore x y) premise reads = elim reads [
    | inl start ↦ absurd (no_start f p q x start)
    | inr order ↦ absurd (not_known i f p q unknown x y order premise)
  ]
  reads_unknown (EsArrive m y) premise reads = elim reads [ inl first ↦ absurd (no_first f p q m first) | inr limit ↦ absurd limit ]
  reads_unknown (EsMessage m y) premise reads = elim reads [ inl start ↦ absurd (no_start f p q _ start) | inr limit ↦ absurd limit ]
  reads_unknown (LoSend m) premise reads = elim reads [ inl start ↦ absurd (no_start f p q _ start) | inr limit ↦ absurd limit ]
  reads_unknown (LeLink l) premise reads = absurd (no_end f p q _ reads)
  reads_unknown (LeBefore x y) premise reads = elim reads [
    | inl end ↦ absurd (no_end f p q y end)
    | inr order ↦ absurd (not_known i f p q unknown x y order premise)
  ]
  reads_unknown (LeMessage m y) premise reads = elim reads [ inl end ↦ absurd (no_end f p q y end) | inr limit ↦ absurd limit ]
  reads_unknown (LeSend m) premise reads = elim reads [ inl late ↦ absurd (no_late f p q m late) | inr limit ↦ absurd limit ]
  reads_unknown (HiArrive m y) premise reads = elim reads [ inl end ↦ absurd (no_end f p q y end) | inr limit ↦ absurd limit ]
  reads_unknown (OrdWindow x y) premise reads = elim reads [ inl end ↦ absurd (no_end f p q x end) | inr start ↦ absurd (no_start f p q y start) ]
  reads_unknown (UsSettled x) premise reads = elim reads [
    | inl rival ↦ of_its_first i f p q unknown x rival.0 rival.2.1
    | inr message ↦ absurd (no_late f p q message.0 message.2.1)
  ]
  reads_unknown (XWindow x) premise reads = elim reads [ inl start ↦ absurd (no_start f p q x start) | inr end ↦ absurd (no_end f p q x end) ]
  reads_unknown (XRound m) premise reads = elim reads [ inl first ↦ absurd (no_first f p q m first) | inr late ↦ absurd (no_late f p q m late) ]
  reads_unknown (XCycle ps) premise reads = absurd (not_in_ring i f p q unknown ps premise reads)
  reads_unknown (XLoad n a b) premise reads = absurd (not_run i f p q unknown a reads.0 reads.2.1)
  reads_unknown (XFrames n a b) premise reads = absurd (not_sending i f p q unknown a reads.0 reads.2.1)
  reads_unknown (XChannel k n a b) premise reads = absurd (not_sending i f p q unknown a reads.0 reads.2.1)
  reads_unknown (XLate m r) premise reads = elim reads [
    | inl own ↦ elim own [ inl first ↦ absurd (no_first f p q m first) | inr end ↦ absurd (no_end f p q _ end) ]
    | inr other ↦ absurd (not_kept_out i f p q unknown r other.0 other.2.1)
  ]
  reads_unknown (XMirror m) premise reads = absurd (not_apart i f p q unknown m reads.0 reads.2.1)
  reads_unknown step premise reads = absurd reads

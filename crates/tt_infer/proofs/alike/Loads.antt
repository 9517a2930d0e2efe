-- Where the bounds of what has to run or to be sent in a span are known alike, no less has to in the one than in the other.
use Rattle.std.proofs.Common.{◌≡◌, ℕ, ◌*◌, ◌<◌, ◌≤◌, ◌&&◌, if◌then◌else◌, length, Bool, true, false, arith, inl, inr, refl, sym, ◌∙◌}
use Rattle.std.proofs.lemmas.Bool.{cases_Bool, false≢true, and_from, and_parts, eq-eqb, le-leb}
use Rattle.std.proofs.Math.Nat.{mul-le-mul_left}
use Rattle.ttp_model.specs.Instance.{Instance, message_at, node_of, source_of}
use Rattle.ttp_model.specs.Totals.{total}
use Rattle.ttp_model.proofs.Decide.{at_most}
use Rattle.ttp_model.proofs.Totals.{total_le}
use Rattle.ttp_model.specs.declared.step.Step.TheVariants.{XLoad, XFrames, XChannel}
use Rattle.tt_infer.specs.declared.fact.Fact.{Fact}
use Rattle.tt_infer.specs.declared.fact.Fact.TheVariants.{Start, End, FirstRound, LateRound}
use Rattle.tt_infer.specs.declared.limit.Limit.TheVariants.{Copies, Counted}
use Rattle.tt_choice.specs.Choice.{Choice}
use Rattle.sought_plans.specs.Known.{Known, es_of, le_of, lo_of, top_of}
use Rattle.sought_plans.specs.Premises.{wcet_of, runs_within, load_within, sent_within, bytes_within, copies, bytes_copied, counts_on, bytes_counted}
use Rattle.tt_infer.specs.Reads.{AgreeOn, AgreeOnReads, BoundsSending, ReadsFact, counted_within}
use Rattle.tt_infer.proofs.Selected.{span_tells, selected_le, if_wider}

-- a bound from below that is read where it isn't 0
bounded_from : (a x y : ℕ) → a ≤ x → (1 ≤ a → x ≡ y) → a ≤ y
bounded_from a x y le same = elim (at_most 1 a) [
  | inl some ↦ omega (arith, le, same some)
  | inr none ↦ omega (arith, none)
]

module _ (i : Instance) (c : Choice) (f g : Known) (n a b : ℕ) (agree : (fact : Fact) → ReadsFact i c f (XLoad n a b) fact → AgreeOn f g fact) where
  runs_alike : (p : ℕ) → p < length i.processes → runs_within i f n a b p ≡ true → runs_within i g n a b p ≡ true
  runs_alike p there is =
      let tells = span_tells (node_of i p) n a (es_of f p) (le_of f p) b is in
      let end : le_of f p ≡ le_of g p = agree (End p) (p, there, (is, inl refl)) in
      let from = bounded_from a (es_of f p) (es_of g p) tells.1 (λ some. agree (Start p) (p, there, (is, inr (some, refl)))) in
      let until : le_of g p ≤ b = omega (arith, tells.2, end) in
      and_from _ _ (eq-eqb _ _ tells.0) (and_from _ _ (le-leb _ _ from) (le-leb _ _ until))

  pub load_alike : total (load_within i f n a b) (length i.processes) ≤ total (load_within i g n a b) (length i.processes)
  load_alike =
      total_le (load_within i f n a b) (load_within i g n a b) (length i.processes) (λ p there.
      selected_le (runs_within i f n a b p) (runs_within i g n a b p) (wcet_of i p) (runs_alike p there))

-- a message whose bounds are known alike is sent within the span in both
sent_alike : (i : Instance) (f g : Known) (n a b m : ℕ) → ((fact : Fact) → BoundsSending a m fact → AgreeOn f g fact) → sent_within i f n a b m ≡ true → sent_within i g n a b m ≡ true
sent_alike i f g n a b m agree is =
    let tells = span_tells (source_of i m) n a (lo_of f m) (top_of f m) b is in
    let late : top_of f m ≡ top_of g m = agree (LateRound m) (inl refl) in
    let from = bounded_from a (lo_of f m) (lo_of g m) tells.1 (λ some. agree (FirstRound m) (inr (some, refl))) in
    let until : top_of g m ≤ b = omega (arith, tells.2, late) in
    and_from _ _ (eq-eqb _ _ tells.0) (and_from _ _ (le-leb _ _ from) (le-leb _ _ until))

-- what counts as often, and no less of it
as_often : (count other x y : ℕ) → count ≡ other → x ≤ y → count * x ≤ other * y
as_often count other x y same le = rw same (mul-le-mul_left other le)

-- and what doesn't count
not_sent : (sent : Bool) (count w z : ℕ) → sent ≡ false → count * (if sent then w else 0) ≤ z
not_sent sent count w z none = rw none (omega arith)

not_counted : (counts sent : Bool) (w z : ℕ) → (counts && sent) ≡ false → (if counts then (if sent then w else 0) else 0) ≤ z
not_counted true true w z none = absurd (false≢true (sym none))
not_counted true false w z none = omega arith
not_counted false sent w z none = omega arith

module _ (i : Instance) (c : Choice) (goal : ℕ) (f : Known) (d : Choice) (aim : ℕ) (g : Known) (n a b : ℕ) (agree : AgreeOnReads i c goal f d aim g (XFrames n a b)) where
  one_copied : (m : ℕ) → m < length i.messages → bytes_copied i c f n a b m ≤ bytes_copied i d g n a b m
  one_copied m there = elim (cases_Bool (sent_within i f n a b m)) [
    | inl is ↦
        let same : copies c m ≡ copies d m = agree.limits (Copies m) (inr (m, there, is, refl)) in
        let sent = sent_alike i f g n a b m (λ fact bounds. agree.facts fact (m, there, (is, bounds))) is in
        as_often (copies c m) (copies d m) (bytes_within i f n a b m) (bytes_within i g n a b m) same (selected_le (sent_within i f n a b m) (sent_within i g n a b m) (message_at i m).bytes (λ _. sent))
    | inr not ↦ not_sent (sent_within i f n a b m) (copies c m) (message_at i m).bytes (bytes_copied i d g n a b m) not
  ]

  pub copied_alike : total (bytes_copied i c f n a b) (length i.messages) ≤ total (bytes_copied i d g n a b) (length i.messages)
  copied_alike = total_le (bytes_copied i c f n a b) (bytes_copied i d g n a b) (length i.messages) one_copied

module _ (i : Instance) (c : Choice) (goal : ℕ) (f : Known) (d : Choice) (aim : ℕ) (g : Known) (n a b : ℕ) (k : ℕ) (agree : AgreeOnReads i c goal f d aim g (XChannel k n a b)) where
  one_counted : (m : ℕ) → m < length i.messages → bytes_counted i c f k n a b m ≤ bytes_counted i d g k n a b m
  one_counted m there = elim (cases_Bool (counted_within i c f k n a b m)) [
    | inl is ↦
        let parts = and_parts (counts_on c k m) (sent_within i f n a b m) is in
        let same : counts_on c k m ≡ counts_on d k m = agree.limits (Counted m k) (inr (m, there, is, refl)) in
        let sent = sent_alike i f g n a b m (λ fact bounds. agree.facts fact (m, there, (is, bounds))) parts.1 in
        if_wider (counts_on c k m) (counts_on d k m) (bytes_within i f n a b m) (bytes_within i g n a b m) (λ counts. sym same ∙ counts) (selected_le (sent_within i f n a b m) (sent_within i g n a b m) (message_at i m).bytes (λ _. sent))
    | inr not ↦ not_counted (counts_on c k m) (sent_within i f n a b m) (message_at i m).bytes (bytes_counted i d g k n a b m) not
  ]

  pub counted_alike : total (bytes_counted i c f k n a b) (length i.messages) ≤ total (bytes_counted i d g k n a b) (length i.messages)
  counted_alike = total_le (bytes_counted i c f k n a b) (bytes_counted i d g k n a b) (length i.messages) one_counted

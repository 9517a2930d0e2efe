-- Inside a choice no less has to run in a span, and no fewer bytes have to go into frames.
use Rattle.std.proofs.Common.{◌≡◌, ℕ, ◌-◌, ◌≤◌, length, Option, None, Some, true, arith, refl, mul-le-mul}
use Rattle.std.proofs.lemmas.Bool.{false≢true, and_from, eq-eqb, le-leb}
use Rattle.std.proofs.Math.Nat.{mul-le-mul_left}
use Rattle.ttp_model.specs.declared.step.Step.TheVariants.{XLoad, XFrames, XChannel}
use Rattle.ttp_model.specs.Instance.{message_at, node_of, source_of}
use Rattle.ttp_model.specs.Totals.{total}
use Rattle.ttp_model.proofs.Totals.{total_le}
use Rattle.tt_choice.specs.Choice.{fixed_channel}
use Rattle.tt_choice.specs.Inside.{IsKeptBy}
use Rattle.tt_choice.proofs.Inside.{cap_most_falls}
use Rattle.sought_plans.specs.Known.{Known, es_of, le_of, lo_of, top_of}
use Rattle.sought_plans.specs.Conclusions.{NothingLeft}
use Rattle.sought_plans.specs.Premises.{wcet_of, runs_within, load_within, sent_within, bytes_within, copies_of, bytes_copied, is_fixed_on, counts_on, bytes_counted}
use Rattle.sought_plans.proofs.Channels.{some_copy}
use Rattle.tt_infer.proofs.Selected.{selected_le, span_tells, if_wider}
use Rattle.tt_infer.proofs.monotone.Nested.{Nested, AreKnown, IsKept}

runs_inside : (s : Nested) (f h : Known) (n a b p : ℕ) → AreKnown s f h → runs_within s.instance f n a b p ≡ true → runs_within s.instance h n a b p ≡ true
runs_inside s f h n a b p t is =
    let tells = span_tells (node_of s.instance p) n a (es_of f p) (le_of f p) b is in
    let from : a ≤ es_of h p = omega (arith, tells.1, t.sharper.es p) in
    let until : le_of h p ≤ b = omega (arith, tells.2, t.sharper.le p) in
    and_from _ _ (eq-eqb _ _ tells.0) (and_from _ _ (le-leb _ _ from) (le-leb _ _ until))

load_up : (s : Nested) (f h : Known) (n a b : ℕ) → AreKnown s f h → total (load_within s.instance f n a b) (length s.instance.processes) ≤ total (load_within s.instance h n a b) (length s.instance.processes)
load_up s f h n a b t =
    total_le (load_within s.instance f n a b) (load_within s.instance h n a b) (length s.instance.processes) (λ p there.
    selected_le (runs_within s.instance f n a b p) (runs_within s.instance h n a b p) (wcet_of s.instance p) (runs_inside s f h n a b p t))

pub x_load_kept : (s : Nested) (f h : Known) (n a b : ℕ) → AreKnown s f h → IsKept s f h (XLoad n a b)
x_load_kept s f h n a b t k there premise is =
    let more = load_up s f h n a b t in
    let load = premise.load in
    record {
      there = there;
      premise = record { span = premise.span; load = omega (arith, load, more) };
      conclusion = NothingLeft;
      concludes = refl;
      stronger = is;
    }

sent_inside : (s : Nested) (f h : Known) (n a b m : ℕ) → AreKnown s f h → sent_within s.instance f n a b m ≡ true → sent_within s.instance h n a b m ≡ true
sent_inside s f h n a b m t is =
    let tells = span_tells (source_of s.instance m) n a (lo_of f m) (top_of f m) b is in
    let from : a ≤ lo_of h m = omega (arith, tells.1, t.sharper.lo m) in
    let until : top_of h m ≤ b = omega (arith, tells.2, t.sharper.top m) in
    and_from _ _ (eq-eqb _ _ tells.0) (and_from _ _ (le-leb _ _ from) (le-leb _ _ until))

within_up : (s : Nested) (f h : Known) (n a b m : ℕ) → AreKnown s f h → bytes_within s.instance f n a b m ≤ bytes_within s.instance h n a b m
within_up s f h n a b m t =
    selected_le (sent_within s.instance f n a b m) (sent_within s.instance h n a b m) (message_at s.instance m).bytes (sent_inside s f h n a b m t)

-- what is fixed stays fixed, so a message counts as often inside, and on the same channels
copies_up : (outer inner : Option ℕ) → IsKeptBy outer inner → copies_of outer ≤ copies_of inner
copies_up None inner kept = some_copy inner
copies_up (Some fixed) inner kept = rw kept (omega arith)

counts_inside : (outer inner : Option ℕ) (k : ℕ) → IsKeptBy outer inner → is_fixed_on k outer ≡ true → is_fixed_on k inner ≡ true
counts_inside None inner k kept counts = absurd (false≢true counts)
counts_inside (Some fixed) inner k kept counts = rw kept counts

copied_up : (s : Nested) (f h : Known) (n a b : ℕ) → AreKnown s f h → total (bytes_copied s.instance s.outer f n a b) (length s.instance.messages) ≤ total (bytes_copied s.instance s.inner h n a b) (length s.instance.messages)
copied_up s f h n a b t =
    total_le (bytes_copied s.instance s.outer f n a b) (bytes_copied s.instance s.inner h n a b) (length s.instance.messages) (λ m there.
    mul-le-mul (copies_up (fixed_channel s.outer m) (fixed_channel s.inner m) (s.inside.channels m there)) (within_up s f h n a b m t))

counted_up : (s : Nested) (f h : Known) (k n a b : ℕ) → AreKnown s f h → total (bytes_counted s.instance s.outer f k n a b) (length s.instance.messages) ≤ total (bytes_counted s.instance s.inner h k n a b) (length s.instance.messages)
counted_up s f h k n a b t =
    total_le (bytes_counted s.instance s.outer f k n a b) (bytes_counted s.instance s.inner h k n a b) (length s.instance.messages) (λ m there.
    if_wider (counts_on s.outer k m) (counts_on s.inner k m) (bytes_within s.instance f n a b m) (bytes_within s.instance h n a b m) (counts_inside (fixed_channel s.outer m) (fixed_channel s.inner m) k (s.inside.channels m there)) (within_up s f h n a b m t))

pub x_frames_kept : (s : Nested) (f h : Known) (n a b : ℕ) → AreKnown s f h → IsKept s f h (XFrames n a b)
x_frames_kept s f h n a b t k there premise is =
    let more = copied_up s f h n a b t in
    let falls = cap_most_falls s.instance s.inner s.outer s.is_instance s.is_inner_choice s.is_choice s.inside n there in
    let room = mul-le-mul_left s.instance.cluster.channels (mul-le-mul_left (b - a) falls) in
    let bytes = premise.bytes in
    record {
      there = there;
      premise = record { span = premise.span; bytes = omega (arith, bytes, more, room) };
      conclusion = NothingLeft;
      concludes = refl;
      stronger = is;
    }

pub x_channel_kept : (s : Nested) (f h : Known) (channel n a b : ℕ) → AreKnown s f h → IsKept s f h (XChannel channel n a b)
x_channel_kept s f h channel n a b t k there premise is =
    let more = counted_up s f h channel n a b t in
    let falls = cap_most_falls s.instance s.inner s.outer s.is_instance s.is_inner_choice s.is_choice s.inside n there.0 in
    let bytes = premise.bytes in
    record {
      there = there;
      premise = record { span = premise.span; bytes = omega (arith, bytes, more, mul-le-mul_left (b - a) falls) };
      conclusion = NothingLeft;
      concludes = refl;
      stronger = is;
    }

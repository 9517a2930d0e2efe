-- A message that could be sent earlier could be so inside; silent twins that stand turned, and a message that leads a turned frame, do so inside.
use Rattle.std.proofs.Common.{◌≡◌, ℕ, ◌<◌, ◌≤◌, ◌==◌, ◌&&◌, ◌||◌, nat_le, nat_lt, Bool, true, false, Some, length, arith, inl, inr, refl, subst, ◌∙◌, sym}
use Rattle.std.proofs.lemmas.Bool.{and_from, and_parts, leb-true, le-leb, ltb-true, lt-ltb}
use Rattle.ttp_model.specs.declared.step.Step.TheVariants.{XLate, XSilent, XMirror}
use Rattle.ttp_model.specs.Limits.{both_channels}
use Rattle.ttp_model.specs.Instance.{message_at, source_of}
use Rattle.ttp_model.specs.Totals.{total}
use Rattle.ttp_model.proofs.Totals.{total_le}
use Rattle.tt_choice.specs.Choice.{fixed_channel}
use Rattle.tt_choice.specs.Inside.{IsKeptBy}
use Rattle.sought_plans.specs.Known.{Known, lo_of, top_of}
use Rattle.sought_plans.specs.Conclusions.{NothingLeft}
use Rattle.sought_plans.specs.Premises.{sender_of}
use Rattle.sought_plans.specs.Dominance.{may_be_beside, bytes_beside, CouldBeEarlier, StandTurned, KeepsAside, IsMirrored}
use Rattle.tt_infer.specs.Table.{IsMessage}
use Rattle.tt_infer.proofs.Selected.{selected_le}
use Rattle.tt_infer.proofs.monotone.Nested.{Nested, AreKnown, IsKept}
use Rattle.tt_infer.proofs.monotone.Slots.{start_least_up, cap_least_up}

-- what holds of one test or two others, where the last is weaker
either_outside : (a b c d : Bool) → (c ≡ true → d ≡ true) → (a || (b && c)) ≡ true → (a || (b && d)) ≡ true
either_outside true b c d weaker is = refl
either_outside false true c d weaker is = weaker is
either_outside false false c d weaker is = is

-- what may be beside m inside may be so outside
beside_outside : (s : Nested) (f h : Known) (m r k : ℕ) → AreKnown s f h → may_be_beside s.instance h m r k ≡ true → may_be_beside s.instance f m r k ≡ true
beside_outside s f h m r k t =
    either_outside (k == m) (source_of s.instance k == source_of s.instance m) (nat_le (lo_of h k) r && nat_lt r (top_of h k)) (nat_le (lo_of f k) r && nat_lt r (top_of f k)) (λ is.
    let both = and_parts (nat_le (lo_of h k) r) (nat_lt r (top_of h k)) is in
    let least = leb-true (lo_of h k) r both.0 in
    let first = ltb-true r (top_of h k) both.1 in
    let from : lo_of f k ≤ r = omega (arith, least, t.sharper.lo k) in
    let until : r < top_of f k = omega (arith, first, t.sharper.top k) in
    and_from _ _ (le-leb _ _ from) (lt-ltb _ _ until))

beside_down : (s : Nested) (f h : Known) (m r : ℕ) → AreKnown s f h → total (bytes_beside s.instance h m r) (length s.instance.messages) ≤ total (bytes_beside s.instance f m r) (length s.instance.messages)
beside_down s f h m r t =
    total_le (bytes_beside s.instance h m r) (bytes_beside s.instance f m r) (length s.instance.messages) (λ k there.
    selected_le (may_be_beside s.instance h m r k) (may_be_beside s.instance f m r k) (message_at s.instance k).bytes (beside_outside s f h m r k t))

earlier_inside : (s : Nested) (f h : Known) (m r : ℕ) → AreKnown s f h → IsMessage s.instance m → CouldBeEarlier s.instance s.outer f m r → CouldBeEarlier s.instance s.inner h m r
earlier_inside s f h m r t there could =
    let earlier = could.earlier in
    let ready = could.ready in
    let room = could.room in
    let ends = t.sharper.le (sender_of s.instance m) in
    let up = start_least_up s m there r in
    record {
      earlier = omega (arith, earlier, t.sharper.lo m);
      ready = omega (arith, ready, ends, up);
      room = omega (arith, room, beside_down s f h m r t, cap_least_up s m there);
    }

pub x_late_kept : (s : Nested) (f h : Known) (m r : ℕ) → AreKnown s f h → IsKept s f h (XLate m r)
x_late_kept s f h m r t k there premise is = record { there = there; premise = earlier_inside s f h m r t there premise; conclusion = NothingLeft; concludes = refl; stronger = is }

-- the inner order begins with the outer one
turned_inside : (s : Nested) (u v : ℕ) → StandTurned s.instance s.outer u v → StandTurned s.instance s.inner u v
turned_inside s u v is =
    let placed = is.first.placed in
    let longer = s.inside.longer in
    record {
      in_order = is.in_order;
      twins = is.twins;
      first = record {
        place = is.first.place;
        placed = omega (arith, placed, longer);
        v_is = s.inside.prefix is.first.place placed ∙ is.first.v_is;
        u_later = λ k below same. is.first.u_later k below (sym (s.inside.prefix k (omega (arith, below, placed))) ∙ same);
      };
    }

pub x_silent_kept : (s : Nested) (f h : Known) (u v : ℕ) → IsKept s f h (XSilent u v)
x_silent_kept s f h u v k there premise is = record { there = there; premise = turned_inside s u v premise; conclusion = NothingLeft; concludes = refl; stronger = is }

-- what is fixed outside is so inside
fixed_inside : (s : Nested) (m number : ℕ) → IsMessage s.instance m → fixed_channel s.outer m ≡ Some number → fixed_channel s.inner m ≡ Some number
fixed_inside s m number there fixed = subst (λ o. IsKeptBy o (fixed_channel s.inner m)) fixed (s.inside.channels m there)

aside_inside : (s : Nested) (f h : Known) (m k : ℕ) → AreKnown s f h → IsMessage s.instance k → KeepsAside s.outer f m k → KeepsAside s.inner h m k
aside_inside s f h m k t there (inl both) = inl (fixed_inside s k both_channels there both)
aside_inside s f h m k t there (inr (inl before)) = inr (inl (omega (arith, before, t.sharper.top k, t.sharper.lo m)))
aside_inside s f h m k t there (inr (inr behind)) = inr (inr (omega (arith, behind, t.sharper.top m, t.sharper.lo k)))

mirrored_inside : (s : Nested) (f h : Known) (m : ℕ) → AreKnown s f h → IsMessage s.instance m → IsMirrored s.instance s.outer f m → IsMirrored s.instance s.inner h m
mirrored_inside s f h m t there is = record {
  second = fixed_inside s m 1 there is.second;
  lower = λ k below node. aside_inside s f h m k t (omega (arith, below, there)) (is.lower k below node);
}

pub x_mirror_kept : (s : Nested) (f h : Known) (m : ℕ) → AreKnown s f h → IsKept s f h (XMirror m)
x_mirror_kept s f h m t k there premise is = record { there = there; premise = mirrored_inside s f h m t there premise; conclusion = NothingLeft; concludes = refl; stronger = is }

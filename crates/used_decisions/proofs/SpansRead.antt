-- What is marked of messages that count in some rounds is what such steps use.
use Rattle.std.proofs.Common.{◌≡◌, ℕ, ◌<◌, ◌≤◌, ◌==◌, ◌&&◌, nat_le, length, true, IsTrue, inl, inr, sym, subst, leb-true}
use Rattle.std.proofs.lemmas.Bool.{and_parts}
use Rattle.tt_infer.specs.Sources.{Frames, Halves}
use Rattle.ttp_model.specs.Instance.{Instance, source_of}
use Rattle.ttp_model.specs.Network.{messages_of, is_message_of}
use Rattle.tt_choice.specs.Kept.{fixes_below}
use Rattle.sought_plans.specs.Known.{Known, lo_of, top_of}
use Rattle.sought_plans.specs.Premises.{counts_on, sent_within}
use Rattle.tt_infer.specs.declared.fact.Fact.{Fact}
use Rattle.tt_infer.specs.declared.fact.Fact.TheVariants.{FirstRound, LateRound}
use Rattle.tt_infer.specs.declared.limit.Limit.TheVariants.{Copies, Counted}
use Rattle.tt_infer.specs.Reads.{BoundsSending}
use Rattle.used_decisions.specs.Turns.{Path, last_of}
use Rattle.used_decisions.specs.Marks.{IsTold}
use Rattle.used_decisions.specs.declared.given.Given.{Given}
use Rattle.used_decisions.specs.declared.uses.Uses.{Uses}
use Rattle.used_decisions.specs.Uses.{IsMore}
use Rattle.used_decisions.specs.Steps.{IsSentWithin, IsSourceRead, TellsEach, TellsFact, TellsFrame, TellsHalf, TellsSending, choice_of}
use Rattle.used_decisions.proofs.Each.{Stays, told_of}
use Rattle.used_decisions.proofs.Tells.{fact_more, limit_more}

pub sending_more : (path : Path) (given : Given) (old new : Uses) (a m : ℕ) → IsMore old new → TellsSending path given old a m → TellsSending path given new a m
sending_more path given old new a m more told = record {
  late = fact_more path old new more given (LateRound m) told.late;
  first = λ some. fact_more path old new more given (FirstRound m) (told.first some);
}

pub frame_stays : (path : Path) (given : Given) (a b : ℕ) → Stays (λ uses m. TellsFrame path given uses a b m)
frame_stays path given a b = λ old new m more told. record {
  sending = λ f known within. sending_more path given old new a m more (told.sending f known within);
  twice = λ f known within. limit_more path old new more (Copies m) (told.twice f known within);
}

pub half_stays : (path : Path) (given : Given) (k a b : ℕ) → Stays (λ uses m. TellsHalf path given uses k a b m)
half_stays path given k a b = λ old new m more told. record {
  sending = λ f known counts within. sending_more path given old new a m more (told.sending f known counts within);
  counted = λ f known counts within. limit_more path old new more (Counted m k) (told.counted f known counts within);
}

-- what is known of a message that counts
within_is : (i : Instance) (f : Known) (n a b m : ℕ) → IsTrue (sent_within i f n a b m) → (is_message_of i n m ≡ true) × IsSentWithin f a b m
within_is i f n a b m is =
    let parts = and_parts (source_of i m == n) (nat_le a (lo_of f m) && nat_le (top_of f m) b) is in
    let rounds = and_parts (nat_le a (lo_of f m)) (nat_le (top_of f m) b) parts.1 in
    (parts.0, record { from = leb-true a (lo_of f m) rounds.0; before = leb-true (top_of f m) b rounds.1 })

bounds_told : (path : Path) (given : Given) (uses : Uses) (a m : ℕ) (fact : Fact) → TellsSending path given uses a m → BoundsSending a m fact
    → TellsFact path given uses fact
bounds_told path given uses a m fact told bounds = elim bounds [
  | inl late ↦ subst (TellsFact path given uses) (sym late) told.late
  | inr first ↦ subst (TellsFact path given uses) (sym first.1) (told.first first.0)
]

pub frames_read : (path : Path) (given : Given) (uses : Uses) (n a b : ℕ)
    → (n < length path.instance.nodes → IsTold uses.levels (last_of (fixes_below path.instance n) path.turns))
    → TellsEach (λ uses m. TellsFrame path given uses a b m) (messages_of path.instance n) uses → IsSourceRead path given uses (Frames n a b)
frames_read path given uses n a b node each = record {
  facts = λ f known there fact reads.
      let m = reads.0 in
      let within = within_is path.instance f n a b m reads.2.0 in
      let frame = told_of (λ uses m. TellsFrame path given uses a b m) (is_message_of path.instance n) (length path.instance.messages) uses m each
      reads.1 within.0 in
      bounds_told path given uses a m fact (frame.sending f known within.1) reads.2.1;
  limits = λ f known there place limit reads. elim reads [
    | inl is ↦ rw is (node there)
    | inr some ↦
        let m = some.0 in
        let within = within_is path.instance f n a b m some.2 in
        let frame = told_of (λ uses m. TellsFrame path given uses a b m) (is_message_of path.instance n) (length path.instance.messages) uses m each
        some.1 within.0 in
        rw some.3 (frame.twice f known within.1)
  ];
}

pub halves_read : (path : Path) (given : Given) (uses : Uses) (k n a b : ℕ)
    → (n < length path.instance.nodes → IsTold uses.levels (last_of (fixes_below path.instance n) path.turns))
    → (2 ≤ path.instance.cluster.channels → TellsEach (λ uses m. TellsHalf path given uses k a b m) (messages_of path.instance n) uses) → IsSourceRead
    path given uses (Halves k n a b)
halves_read path given uses k n a b node each = record {
  facts = λ f known there fact reads.
      let m = reads.0 in
      let counts = and_parts (counts_on (choice_of path) k m) (sent_within path.instance f n a b m) reads.2.0 in
      let within = within_is path.instance f n a b m counts.1 in
      let half = told_of (λ uses m. TellsHalf path given uses k a b m) (is_message_of path.instance n) (length path.instance.messages) uses m
      (each there.1) reads.1 within.0 in
      bounds_told path given uses a m fact (half.sending f known counts.0 within.1) reads.2.1;
  limits = λ f known there place limit reads. elim reads [
    | inl is ↦ rw is (node there.0)
    | inr some ↦
        let m = some.0 in
        let counts = and_parts (counts_on (choice_of path) k m) (sent_within path.instance f n a b m) some.2 in
        let within = within_is path.instance f n a b m counts.1 in
        let half = told_of (λ uses m. TellsHalf path given uses k a b m) (is_message_of path.instance n) (length path.instance.messages) uses m
        (each there.1) some.1 within.0 in
        rw some.3 (half.counted f known counts.0 within.1)
  ];
}

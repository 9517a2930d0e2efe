use Rattle.std.proofs.Common.{inl, inr, ap, sym, ◌∙◌}
use Rattle.std.proofs.lemmas.Bool.{false≢true}
use Rattle.ttp_model.specs.Plans.{is_on}
use Rattle.used_decisions.specs.Turns.{last_of, fixes_any, on_channel_of}
use Rattle.used_decisions.proofs.OneChannel.{none_is_some}
use Rattle.used_decisions.proofs.Rounds.{on_test, on_no_test, counts_by}
use Rattle.used_decisions.proofs.spans.may_count_on.Goals as goal

pub returns-in-Some : goal.returns-in-Some
returns-in-Some c = λ there some counts.
    let last = last_of (fixes_any c.args.m) c.args.path.now.turns in
    let at = sym c.in-Some.is ∙ c.channel.ensures there in
    elim (counts_by c.args.path.now c.args.k c.args.m there some counts) [
      | inl is ↦ c.is_on.ensures ∙ (on_test (is_on c.args.k) last c.in-Some.on at ∙ is)
      | inr none ↦ absurd (none_is_some c.in-Some.on (sym (ap on_channel_of none.0) ∙ sym at))
    ]

pub returns-in-None : goal.returns-in-None
returns-in-None c = λ there some counts.
    let last = last_of (fixes_any c.args.m) c.args.path.now.turns in
    let at = sym c.in-None.is ∙ c.channel.ensures there in
    let both = rw c.instance.ensures at c.needs_both.ensures in
    elim (counts_by c.args.path.now c.args.k c.args.m there some counts) [
      | inl is ↦ absurd (false≢true (on_no_test (is_on c.args.k) last at ∙ is))
      | inr none ↦ both there ∙ none.1
    ]

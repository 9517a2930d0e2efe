-- Decisions on the worked examples, where nothing is chosen.
use Rattle.std.proofs.Common.{ℕ, zero, suc, ◌<◌, ◌≤◌, [], arith, refl, lit<, lit≤, sym, ◌∙◌}
use Rattle.std.proofs.lemmas.List.{same_from_push}
use Rattle.ttp_model.specs.Limits.{both_channels}
use Rattle.ttp_model.specs.Rules.{HasChannels}
use Rattle.ttp_model.specs.Worked.{one_message, three_alike}
use Rattle.tt_choice.specs.declared.decision.Decision.TheVariants.{Place, Cap, Before, AtMost, AtLeast, Channel}
use Rattle.tt_choice.specs.declared.reversal.Reversal.TheVariants.{Unplace, FreeChannel}
use Rattle.tt_choice.specs.Choice.{IsChoice}
use Rattle.tt_choice.specs.Branches.{root_choice}
use Rattle.tt_choice.specs.Decisions.{IsOpenDecision, kept_after, taken_back, IsUndone}
use Rattle.tt_choice.specs.Worked.{message_of_two}
use Rattle.tt_choice.proofs.Root.{IsChoice-root_of}
use Rattle.tt_choice.proofs.Trail.{taken_back-kept_after}

-- no message is to be on both channels of one
m_needs_one : (m : ℕ) → m < 1 → HasChannels one_message m
m_needs_one zero h = λ _. refl
m_needs_one (suc m) h = absurd (omega arith)

none_needs_both : (m : ℕ) → m < 0 → HasChannels three_alike m
none_needs_both m h = absurd (omega arith)

pub one_message_root : IsChoice one_message (root_choice one_message)
one_message_root = IsChoice-root_of one_message (lit< tt) (lit≤ tt) (lit≤ tt) m_needs_one

pub b_may_come_first : IsOpenDecision one_message (root_choice one_message) (Place 1)
b_may_come_first = record { node = lit< tt; new = refl }

pub a_may_take_its_option : IsOpenDecision one_message (root_choice one_message) (Cap 0 0)
a_may_take_its_option = record { free = (lit< tt, refl); option = lit< tt }

pub m_may_be_early : IsOpenDecision one_message (root_choice one_message) (AtMost 0 1)
m_may_be_early = record { message = lit< tt; from = lit≤ tt; below = lit< tt }

pub m_may_be_late : IsOpenDecision one_message (root_choice one_message) (AtLeast 0 1)
m_may_be_late = record { message = lit< tt; above = lit< tt; to = lit≤ tt }

-- what is kept is just how B is taken out again
pub b_is_taken_out : IsUndone (kept_after one_message (root_choice one_message) (Place 1)) (root_choice one_message)
b_is_taken_out kept reversal last =
    let same = same_from_push [] kept Unplace reversal last in
    sym (taken_back-kept_after one_message (root_choice one_message) (Place 1) one_message_root b_may_come_first)
    ∙ (λ j. record (taken_back (kept_after one_message (root_choice one_message) (Place 1)) (same.1 j)) { kept = same.0 j })

-- on two channels the message may be on each
none_is_held : (m : ℕ) → m < 1 → HasChannels message_of_two m
none_is_held m h one = absurd (omega (arith, one))

pub message_of_two_root : IsChoice message_of_two (root_choice message_of_two)
message_of_two_root = IsChoice-root_of message_of_two (lit< tt) (lit≤ tt) (lit≤ tt) none_is_held

pub m_may_be_on : (k : ℕ) → k ≤ both_channels → IsOpenDecision message_of_two (root_choice message_of_two) (Channel 0 k)
m_may_be_on k known = record { free = record { message = lit< tt; free = refl }; known = known }

pub both_are_freed : IsUndone (kept_after message_of_two (root_choice message_of_two) (Channel 0 2)) (root_choice message_of_two)
both_are_freed kept reversal last =
    let same = same_from_push [] kept (FreeChannel 0) reversal last in
    sym (taken_back-kept_after message_of_two (root_choice message_of_two) (Channel 0 2) message_of_two_root (m_may_be_on 2 (omega arith)))
    ∙ (λ j. record (taken_back (kept_after message_of_two (root_choice message_of_two) (Channel 0 2)) (same.1 j)) { kept = same.0 j })

pub three_alike_root : IsChoice three_alike (root_choice three_alike)
three_alike_root = IsChoice-root_of three_alike (lit< tt) (lit≤ tt) (lit≤ tt) none_needs_both

pub a_may_go_before_b : IsOpenDecision three_alike (root_choice three_alike) (Before 0 1)
a_may_go_before_b = record {
  pair = record { first = lit< tt; second = lit< tt; two = λ is. omega (arith, is); one_node = refl };
  not_before = refl;
  not_after = refl;
}

use Rattle.tt_infer.proofs.TwoChannels.{closes_half, other_half_is_free, both_halves_carry_them, closes_frame, half_carries_one, no_half}
use Rattle.tt_infer.proofs.worked.messages_of_two_channels_close.Goals as goal

pub returns : goal.returns
returns c = record { on_one = closes_half; other = other_half_is_free; carried = both_halves_carry_them; on_both = closes_frame; half = half_carries_one; alone = no_half }

-- When a message of a plan is ready, and when it is there. Own profile.
use Rattle.std.specs.Prelude.{ℕ, ◌+◌}
use Rattle.ttp_model.specs.declared.plan.Plan.{Plan}
use Rattle.ttp_model.specs.Instance.{Instance, message_at, source_of}
use Rattle.ttp_model.specs.Plans.{end_of, sent_until}
use Rattle.tt_layout.specs.Layout.{IsFirstRound, timing}

-- when message m has been copied out
abbrev pub ready_at : Instance → Plan → ℕ → ℕ
ready_at i plan m = end_of i plan (message_at i m).sender + i.cluster.copy_out

-- when it has been copied in
abbrev pub arrival : Instance → Plan → ℕ → ℕ
arrival i plan m = sent_until i plan m + i.cluster.copy_in

-- this is the first round whose slot begins once message m is ready
abbrev pub IsFirstInTime : Instance → Plan → ℕ → ℕ → Type 0
IsFirstInTime i plan m r = IsFirstRound (timing i.cluster plan.order plan.caps) (source_of i m) (ready_at i plan m) r

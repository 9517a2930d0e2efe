-- What lies in the frame of a node and a round on a channel; its bytes are `load_on` of the rules. Own profile.
use Rattle.std.specs.Prelude.{ℕ, List, filter, length}
use Rattle.std.specs.List.{range_with_len}
use Rattle.ttp_model.specs.declared.plan.Plan.{Plan}
use Rattle.ttp_model.specs.Instance.{Instance}
use Rattle.ttp_model.specs.Plans.{is_in_frame_on}

-- the messages of the frame of node n in round r on channel c, in the instance's order
abbrev pub messages_on : Instance → Plan → ℕ → ℕ → ℕ → List ℕ
messages_on i plan n r c = filter (is_in_frame_on i plan n r c) (range_with_len 0 (length i.messages))

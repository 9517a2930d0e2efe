-- A small instance on which a channel is free where nothing is chosen.
use Rattle.ttp_model.specs.Instance.{Instance}
use Rattle.ttp_model.specs.Worked.{one_message}

-- the example with one message, which may be on either of two channels
abbrev pub message_of_two : Instance
message_of_two = record one_message { cluster = record one_message.cluster { channels = 2 } }

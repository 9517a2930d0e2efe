-- Which values have a plan text, and the one spelling of each. Own profile.
use Rattle.std.specs.Prelude.{◌≡◌, ℕ, ◌<◌, ◌≤◌, ◌^◌, List, [], ◌∷◌, ◌++◌, length, map, All, if◌then◌else◌, codes, decimal}
use Rattle.std.specs.List.{join_with_byte}
use Rattle.ttp_model.specs.declared.plan.Plan.{Plan}
use Rattle.ttp_model.specs.declared.error.Part.TheVariants.{Nodes, Processes, Messages}
use Rattle.ttp_model.specs.Limits.{both_channels}
use Rattle.ttp_model.specs.Instance.{Instance, node_at}
use Rattle.ttp_model.specs.Plans.{HasLengths, IsNodeOrder}
use Rattle.plan_format.specs.declared.column.Column.{Column}
use Rattle.plan_format.specs.declared.column.Column.TheVariants.{Capacity, Start, Round, Channel}
use Rattle.plan_format.specs.Names.{keyword_of}
use Rattle.ttp_model.specs.Names.{names_in}
use Rattle.plan_format.specs.Channels.{has_two_channels, first_line, channel_word, CanBeTold}

-- the numbers that such a line can state
abbrev pub HasWord : Column → ℕ → Type 0
HasWord Capacity n = n < 2 ^ 32
HasWord Start n = n < 2 ^ 32
HasWord Round n = n < 2 ^ 32
HasWord Channel n = n ≤ both_channels

-- the word of each
abbrev pub value_word : Column → ℕ → List ℕ
value_word Capacity n = decimal n
value_word Start n = decimal n
value_word Round n = decimal n
value_word Channel n = channel_word n

-- the line for a name with its number
abbrev pub number_line : Column → List ℕ → ℕ → List ℕ
number_line column name n = keyword_of column ++ (name ++ 32 ∷ value_word column n)

-- one such line for each name
abbrev pub numbered : Column → List (List ℕ) → List ℕ → List ℕ
numbered column (name ∷ names) (n ∷ ns) = number_line column name n ++ 10 ∷ numbered column names ns
numbered column _ _ = []

-- the lines of the messages' channels: none where there is one channel
unfoldable pub channel_lines : Instance → List ℕ → List ℕ
channel_lines i channels = if has_two_channels i then numbered Channel (names_in i Messages) channels else []

-- the lines of a plan's capacities, of its starts, of its rounds and of its channels
abbrev pub plan_lines : Instance → Plan → List ℕ
plan_lines i plan =
    numbered Capacity (names_in i Nodes) plan.caps
    ++ (numbered Start (names_in i Processes) plan.starts
    ++ (numbered Round (names_in i Messages) plan.rounds
    ++ channel_lines i plan.channels))

-- the line of the delay, in ticks
abbrev pub delay_line : ℕ → List ℕ
delay_line delay = codes "delay " ++ decimal delay

-- the line of the slot order: the nodes' names, parted by spaces
abbrev pub order_line : Instance → List ℕ → List ℕ
order_line i order = codes "order " ++ join_with_byte 32 (map (λ n. (node_at i n).name) order)

-- The text of a plan with a stated delay: a line ends with one LF, words are parted by one space.
abbrev pub plan_text : Instance → Plan → ℕ → List ℕ
plan_text i plan delay =
    first_line i ++ 10
    ∷ (delay_line delay ++ 10 ∷ (order_line i plan.order ++ 10 ∷ plan_lines i plan))

-- What has a text: a plan of the instance's lengths, an order of its nodes, and channels of which a text can tell. Its other
-- numbers and the stated delay, which need not be the plan's own, are below 2 ^ 32.
pub record HasText (i : Instance) (plan : Plan) (delay : ℕ) : Type 0 where
  pub lengths : HasLengths i plan
  pub order : IsNodeOrder (length i.nodes) plan.order
  pub caps : All (λ n. n < 2 ^ 32) plan.caps
  pub starts : All (λ n. n < 2 ^ 32) plan.starts
  pub rounds : All (λ n. n < 2 ^ 32) plan.rounds
  pub channels : CanBeTold i plan.channels
  pub stated : delay < 2 ^ 32

-- the text spells this plan with this stated delay
pub record SpellsPlan (i : Instance) (text : List ℕ) (plan : Plan) (delay : ℕ) : Type 0 where
  pub value : HasText i plan delay
  pub spelled : text ≡ plan_text i plan delay

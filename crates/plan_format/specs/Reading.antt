-- Reading a plan text line by line: the plan and its stated delay, or the first fault and its
-- line. The steps stand in the order in which faults are judged. Own profile.
use Rattle.std.specs.Prelude.{◌≡◌, ℕ, ◌+◌, List, [], ◌∷◌, length, Option, Some, None, Result, Ok, Err, IsOk, Bool, true, ◌==◌, ◌&&◌, if◌then◌else◌, not, bytes_eq, codes, position, replicate}
use Rattle.std.specs.List.{list_all, list_any, slice_split}
use Rattle.line_text.specs.Parts.{cut, after_keyword}
use Rattle.line_text.specs.Numbers.{number_word}
use Rattle.line_text.specs.declared.number.NumberWord.{NumberWord}
use Rattle.line_text.specs.declared.number.NumberWord.TheVariants as word
use Rattle.line_text.specs.Results.{◌>>=◌, or_fault, check}
use Rattle.ttp_model.specs.Instance.{Instance}
use Rattle.ttp_model.specs.declared.plan.Plan.{Plan}
use Rattle.ttp_model.specs.declared.error.Part.TheVariants.{Nodes}
use Rattle.plan_format.specs.declared.column.Column.{Column}
use Rattle.plan_format.specs.declared.column.Column.TheVariants.{Capacity, Start, Round, Channel}
use Rattle.plan_format.specs.Names.{is_name, part_of, keyword_of}
use Rattle.ttp_model.specs.Names.{names_in}
use Rattle.plan_format.specs.Channels.{has_two_channels, first_line, channel_said}
use Rattle.plan_format.specs.declared.fault.LineFault.TheVariants.{Form, Number, Name, Order, EarlyEnd, Trailing}
use Rattle.plan_format.specs.declared.fault.PlanTextError.{PlanTextError}
use Rattle.plan_format.specs.declared.fault.PlanTextError.TheVariants.{At, OutOfMemory}

-- what reading gives: a value, or the first fault
abbrev pub Reading : Type 0 → Type 0
Reading A = Result A PlanTextError

-- An error that was answered is the fault that reading gives. Want of memory stands for any answer, once memory
-- may be taken.
abbrev pub IsFaultOf : {A : Type 0} → (MayTakeMemory : Type 0) → PlanTextError → Reading A → Type 0
IsFaultOf MayTakeMemory OutOfMemory reading = MayTakeMemory
IsFaultOf MayTakeMemory (At line fault) reading = reading ≡ Err (At line fault)

-- What was answered, seen as a value of the definitions, is what reading gives.
abbrev pub IsAnswer : {X A : Type 0} → (MayTakeMemory : Type 0) → (X → A) → Reading X → Reading A → Type 0
IsAnswer MayTakeMemory view (Ok x) reading = reading ≡ Ok (view x)
IsAnswer MayTakeMemory view (Err e) reading = IsFaultOf MayTakeMemory e reading

-- the line in front, and the text behind its end
abbrev pub line_at : ℕ → List ℕ → Reading (List ℕ × List ℕ)
line_at line text = or_fault (At line EarlyEnd) (cut 10 text)

-- the number that a word of this line is
abbrev pub number_of : ℕ → NumberWord → Reading ℕ
number_of line word.Malformed = Err (At line Form)
number_of line word.TooLarge = Err (At line Number)
number_of line (word.Number n) = Ok n

-- the first line says which text this is, in the version that the instance asks for
unfoldable pub head_at : Instance → List ℕ → Reading (List ℕ)
head_at i text = do
  first ← line_at 1 text
  form ← check (At 1 Form) (bytes_eq first.0 (first_line i))
  Ok first.1

-- the stated delay, in ticks
unfoldable pub delay_at : List ℕ → Reading (ℕ × List ℕ)
delay_at text = do
  first ← line_at 2 text
  rest ← or_fault (At 2 Form) (after_keyword (codes "delay ") first.0)
  n ← number_of 2 (number_word rest)
  Ok (n, first.1)

-- the words of a text: what stands between its spaces
abbrev pub words_of : List ℕ → List (List ℕ)
words_of text = slice_split (λ b. b == 32) text

-- the places of a name and of the names after it
abbrev pub places_with : Option ℕ → Option (List ℕ) → Option (List ℕ)
places_with (Some k) (Some ks) = Some (k ∷ ks)
places_with _ _ = None

-- the place of each word among the names, where each is one of them
abbrev pub places : List (List ℕ) → List (List ℕ) → Option (List ℕ)
places names [] = Some []
places names (word ∷ words) =
    places_with (position (λ name. bytes_eq name word) names) (places names words)

-- whether no number stands twice
abbrev pub is_distinct : List ℕ → Bool
is_distinct [] = true
is_distinct (n ∷ ns) = not (list_any (λ m. m == n) ns) && is_distinct ns

-- The names in the order line, whatever they name, and the text after it. A line of the keyword alone has the form
-- of an order line, and names no node.
unfoldable pub named_at : List ℕ → Reading (List ℕ × List ℕ)
named_at text = do
  first ← line_at 3 text
  some ← check (At 3 Order) (not (bytes_eq first.0 (codes "order")))
  rest ← or_fault (At 3 Form) (after_keyword (codes "order ") first.0)
  form ← check (At 3 Form) (list_all is_name (words_of rest))
  Ok (rest, first.1)

-- the slot order, as places in the list of nodes
unfoldable pub order_at : List (List ℕ) → List ℕ → Reading (List ℕ × List ℕ)
order_at nodes text = do
  named ← named_at text
  order ← or_fault (At 3 Name) (places nodes (words_of named.0))
  once ← check (At 3 Order) ((length order == length nodes) && is_distinct order)
  Ok (order, named.1)

-- the number that the word behind a name is; what is no channel's word has another form
abbrev pub value_of : Column → ℕ → List ℕ → Reading ℕ
value_of Capacity line text = number_of line (number_word text)
value_of Start line text = number_of line (number_word text)
value_of Round line text = number_of line (number_word text)
value_of Channel line text = or_fault (At line Form) (channel_said text)

-- the number in a line for this name
unfoldable pub named_number : ℕ → Column → List ℕ → List ℕ → Reading ℕ
named_number line column name text = do
  rest ← or_fault (At line Form) (after_keyword (keyword_of column) text)
  parts ← or_fault (At line Form) (cut 32 rest)
  form ← check (At line Form) (is_name parts.0)
  n ← value_of column line parts.1
  here ← check (At line Name) (bytes_eq parts.0 name)
  Ok n

-- the number in the next line, and the text after that line
unfoldable pub number_at : ℕ → Column → List ℕ → List ℕ → Reading (ℕ × List ℕ)
number_at line column name text = do
  first ← line_at line text
  n ← named_number line column name first.0
  Ok (n, first.1)

-- the numbers of the next lines, one line for each name, and the text after them
unfoldable pub numbers_at : ℕ → Column → List (List ℕ) → List ℕ → Reading (List ℕ × List ℕ)
numbers_at line column [] text = Ok ([], text)
numbers_at line column (name ∷ names) text = do
  first ← number_at line column name text
  others ← numbers_at (line + 1) column names first.1
  Ok (first.0 ∷ others.0, others.1)

-- the numbers of one kind, whose first line has this number
abbrev pub part_at : Instance → Column → ℕ → List ℕ → Reading (List ℕ × List ℕ)
part_at i column line text = numbers_at line column (names_in i (part_of column)) text

-- the line behind the rounds: before it are three, and one for each node, process and message
abbrev pub channels_line : Instance → ℕ
channels_line i = 4 + length i.nodes + length i.processes + length i.messages

-- the messages' channels, and the text after their lines: where there is one channel no line tells it, and each message is on it
unfoldable pub channels_at : Instance → List ℕ → Reading (List ℕ × List ℕ)
channels_at i text =
    if has_two_channels i then part_at i Channel (channels_line i) text else Ok (replicate (length i.messages) 0, text)

-- the line after the last one: where there are two channels each message has another line
abbrev pub end_line : Instance → ℕ
end_line i = channels_line i + (if has_two_channels i then length i.messages else 0)

-- what is read before memory is taken: the first two lines, and the form of the third
unfoldable pub front_at : Instance → List ℕ → Reading (List ℕ × List ℕ)
front_at i text = do
  body ← head_at i text
  delay ← delay_at body
  named_at delay.1

-- it is right, so that memory may be taken
abbrev pub HasFront : Instance → List ℕ → Type 0
HasFront i text = IsOk (front_at i text)

-- the whole text: a plan of the instance and its stated delay, which is not judged
unfoldable pub plan_at : Instance → List ℕ → Reading (Plan × ℕ)
plan_at i text = do
  body ← head_at i text
  delay ← delay_at body
  order ← order_at (names_in i Nodes) delay.1
  caps ← part_at i Capacity 4 order.1
  starts ← part_at i Start (4 + length i.nodes) caps.1
  rounds ← part_at i Round (4 + length i.nodes + length i.processes) starts.1
  channels ← channels_at i rounds.1
  end ← check (At (end_line i) Trailing) (length channels.1 == 0)
  Ok (record { order = order.0; caps = caps.0; starts = starts.0; rounds = rounds.0; channels = channels.0 }, delay.0)

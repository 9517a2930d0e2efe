-- A fault of a plan's text is told of one of its lines, and there are few.
use Rattle.std.proofs.Common.{◌≡◌, ℕ, ◌+◌, ◌<◌, ◌≤◌, ◌^◌, List, [], ◌∷◌, length, replicate, Option, None, Some, Ok, Err, Bool, true, false, not, arith, subst}
use Rattle.std.specs.Prelude.{codes, bytes_eq, ◌==◌, ◌&&◌, if◌then◌else◌}
use Rattle.std.specs.List.{list_all}
use Rattle.line_text.specs.Parts.{after_keyword, cut}
use Rattle.line_text.specs.Numbers.{number_word}
use Rattle.std.proofs.lemmas.Bool.{cond_both, cond-true}
use Rattle.std.proofs.lemmas.List.{length-map}
use Rattle.line_text.specs.Results.{◌>>=◌, or_fault, check}
use Rattle.line_text.specs.declared.number.NumberWord.{NumberWord}
use Rattle.line_text.specs.declared.number.NumberWord.TheVariants as word
use Rattle.ttp_model.specs.Instance.{Instance}
use Rattle.ttp_model.specs.Rules.{IsInstance}
use Rattle.ttp_model.specs.declared.error.Part.TheVariants.{Nodes, Processes, Messages}
use Rattle.plan_format.specs.declared.fault.LineFault.{LineFault}
use Rattle.plan_format.specs.declared.fault.LineFault.TheVariants.{EarlyEnd, Form, Name, Order, Trailing}
use Rattle.plan_format.specs.declared.fault.PlanTextError.TheVariants.{At, OutOfMemory}
use Rattle.plan_format.specs.declared.column.Column.{Column}
use Rattle.plan_format.specs.declared.column.Column.TheVariants.{Capacity, Start, Round, Channel}
use Rattle.plan_format.specs.Names.{is_name, keyword_of}
use Rattle.ttp_model.specs.Names.{names_in}
use Rattle.plan_format.specs.Channels.{has_two_channels, first_line, channel_said}
use Rattle.plan_format.specs.Reading.{Reading, line_at, number_of, value_of, head_at, delay_at, named_at, order_at, named_number, number_at, numbers_at, part_at, channels_line, channels_at, end_line, plan_at, places, words_of, is_distinct}

-- the fault, if there is one, is told of a line up to this one
IsWithin : {A : Type 0} → ℕ → Reading A → Type 0
IsWithin most (Ok x) = Unit {0}
IsWithin most (Err OutOfMemory) = Unit {0}
IsWithin most (Err (At line fault)) = line ≤ most

abbrev read : {A : Type 0} → A → Reading A
read x = Ok x

module _ (most : ℕ) where
  bind : {A B : Type 0} (r : Reading A) (f : A → Reading B) → IsWithin most r → ((x : A) → IsWithin most (f x)) → IsWithin most (r >>= f)
  unfolding IsWithin
  bind (Ok x) f here next = next x
  bind (Err OutOfMemory) f here next = tt
  bind (Err (At line fault)) f here next = here

  of_option : {A : Type 0} (line : ℕ) (fault : LineFault) (o : Option A) → line ≤ most → IsWithin most (or_fault (At line fault) o)
  unfolding IsWithin
  of_option line fault None within = within
  of_option line fault (Some x) within = tt

  of_check : (line : ℕ) (fault : LineFault) (b : Bool) → line ≤ most → IsWithin most (check (At line fault) b)
  unfolding IsWithin
  of_check line fault true within = tt
  of_check line fault false within = within

  of_number : (line : ℕ) (w : NumberWord) → line ≤ most → IsWithin most (number_of line w)
  unfolding IsWithin
  of_number line word.Malformed within = within
  of_number line word.TooLarge within = within
  of_number line (word.Number n) within = tt

  given : {A : Type 0} (x : A) → IsWithin most (read x)
  unfolding IsWithin
  given x = tt

  of_line : (line : ℕ) (text : List ℕ) → line ≤ most → IsWithin most (line_at line text)
  of_line line text within = of_option line EarlyEnd (cut 10 text) within

  of_head : (i : Instance) (text : List ℕ) → 1 ≤ most → IsWithin most (head_at i text)
  unfolding head_at
  of_head i text within =
      bind (line_at 1 text) _ (of_line 1 text within) (λ first.
      bind (check (At 1 Form) (bytes_eq first.0 (first_line i))) _ (of_check 1 Form _ within) (λ form.
      given first.1))

  of_delay : (text : List ℕ) → 2 ≤ most → IsWithin most (delay_at text)
  unfolding delay_at
  of_delay text within =
      bind (line_at 2 text) _ (of_line 2 text within) (λ first.
      bind (or_fault (At 2 Form) (after_keyword (codes "delay ") first.0)) _ (of_option 2 Form _ within) (λ rest.
      bind (number_of 2 (number_word rest)) _ (of_number 2 (number_word rest) within) (λ n.
      given (n, first.1))))

  of_named : (text : List ℕ) → 3 ≤ most → IsWithin most (named_at text)
  unfolding named_at
  of_named text within =
      bind (line_at 3 text) _ (of_line 3 text within) (λ first.
      bind (check (At 3 Order) (not (bytes_eq first.0 (codes "order")))) _ (of_check 3 Order _ within) (λ some.
      bind (or_fault (At 3 Form) (after_keyword (codes "order ") first.0)) _ (of_option 3 Form _ within) (λ rest.
      bind (check (At 3 Form) (list_all is_name (words_of rest))) _ (of_check 3 Form _ within) (λ form.
      given (rest, first.1)))))

  of_order : (nodes : List (List ℕ)) (text : List ℕ) → 3 ≤ most → IsWithin most (order_at nodes text)
  unfolding order_at
  of_order nodes text within =
      bind (named_at text) _ (of_named text within) (λ named.
      bind (or_fault (At 3 Name) (places nodes (words_of named.0))) _ (of_option 3 Name _ within) (λ order.
      bind (check (At 3 Order) ((length order == length nodes) && is_distinct order)) _ (of_check 3 Order _ within) (λ once.
      given (order, named.1))))

  of_value : (column : Column) (line : ℕ) (text : List ℕ) → line ≤ most → IsWithin most (value_of column line text)
  of_value Capacity line text within = of_number line (number_word text) within
  of_value Start line text within = of_number line (number_word text) within
  of_value Round line text within = of_number line (number_word text) within
  of_value Channel line text within = of_option line Form (channel_said text) within

  of_named_number : (line : ℕ) (column : Column) (name text : List ℕ) → line ≤ most → IsWithin most (named_number line column name text)
  unfolding named_number
  of_named_number line column name text within =
      bind (or_fault (At line Form) (after_keyword (keyword_of column) text)) _ (of_option line Form _ within) (λ rest.
      bind (or_fault (At line Form) (cut 32 rest)) _ (of_option line Form _ within) (λ parts.
      bind (check (At line Form) (is_name parts.0)) _ (of_check line Form _ within) (λ form.
      bind (value_of column line parts.1) _ (of_value column line parts.1 within) (λ n.
      bind (check (At line Name) (bytes_eq parts.0 name)) _ (of_check line Name _ within) (λ here.
      given n)))))

  of_number_line : (line : ℕ) (column : Column) (name text : List ℕ) → line ≤ most → IsWithin most (number_at line column name text)
  unfolding number_at
  of_number_line line column name text within =
      bind (line_at line text) _ (of_line line text within) (λ first.
      bind (named_number line column name first.0) _ (of_named_number line column name first.0 within) (λ n.
      given (n, first.1)))

  of_numbers : (line : ℕ) (column : Column) (names : List (List ℕ)) (text : List ℕ) → line + length names ≤ most + 1
      → IsWithin most (numbers_at line column names text)
  unfolding numbers_at
  of_numbers line column [] text within = given ([], text)
  of_numbers line column (name ∷ names) text within =
      bind (number_at line column name text) _ (of_number_line line column name text (omega (arith, within))) (λ first.
      bind (numbers_at (line + 1) column names first.1) _ (of_numbers (line + 1) column names first.1 (omega (arith, within))) (λ others.
      given (first.0 ∷ others.0, others.1)))

  of_channels : (i : Instance) (text : List ℕ) → end_line i ≤ most → IsWithin most (channels_at i text)
  unfolding channels_at
  of_channels i text within =
      cond_both (has_two_channels i) (part_at i Channel (channels_line i) text) (read (replicate (length i.messages) 0, text)) (IsWithin most)
      (λ two.
      let count : length (names_in i Messages) ≡ length i.messages = length-map i.messages (λ m. m.name) in
      of_numbers (channels_line i) Channel (names_in i Messages) text (omega (arith, within, count, cond-true (has_two_channels i) (length i.messages) 0 two)))
      (λ _. given (replicate (length i.messages) 0, text))

of_plan : (i : Instance) (text : List ℕ) → IsWithin (end_line i) (plan_at i text)
unfolding plan_at
of_plan i text =
    let most = end_line i in
    let nodes : length (names_in i Nodes) ≡ length i.nodes = length-map i.nodes (λ n. n.name) in
    let processes : length (names_in i Processes) ≡ length i.processes = length-map i.processes (λ p. p.name) in
    let messages : length (names_in i Messages) ≡ length i.messages = length-map i.messages (λ m. m.name) in
    bind most (head_at i text) _ (of_head most i text (omega arith)) (λ body.
    bind most (delay_at body) _ (of_delay most body (omega arith)) (λ stated.
    bind most (order_at (names_in i Nodes) stated.1) _ (of_order most (names_in i Nodes) stated.1 (omega arith)) (λ order.
    bind most (part_at i Capacity 4 order.1) _ (of_numbers most 4 Capacity (names_in i Nodes) order.1 (omega (arith, nodes))) (λ caps.
    bind most (part_at i Start (4 + length i.nodes) caps.1) _ (of_numbers most (4 + length i.nodes) Start (names_in i Processes) caps.1
    (omega (arith, processes))) (λ starts.
    bind most (part_at i Round (4 + length i.nodes + length i.processes) starts.1) _
    (of_numbers most (4 + length i.nodes + length i.processes) Round (names_in i Messages) starts.1 (omega (arith, messages))) (λ rounds.
    bind most (channels_at i rounds.1) _ (of_channels most i rounds.1 (omega arith)) (λ channels.
    bind most (check (At (end_line i) Trailing) (length channels.1 == 0)) _ (of_check most (end_line i) Trailing (length channels.1 == 0) (omega arith)) (λ end.
    given most (record { order = order.0; caps = caps.0; starts = starts.0; rounds = rounds.0; channels = channels.0 }, stated.0)))))))))

at_most : (b : Bool) (n : ℕ) → (if b then n else 0) ≤ n
at_most true n = omega arith
at_most false n = omega arith

-- so the line behind has a number
pub line_behind : (i : Instance) → IsInstance i → (text : List ℕ) (line : ℕ) (fault : LineFault) → plan_at i text ≡ Err (At line fault) → line + 1 < 2 ^ 32
unfolding IsWithin
line_behind i w text line fault is =
    let within : line ≤ end_line i = subst (IsWithin (end_line i)) is (of_plan i text) in
    omega (arith, within, at_most (has_two_channels i) (length i.messages), w.limits.nodes, w.limits.processes, w.limits.messages)

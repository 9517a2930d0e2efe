-- The two laws of the whole text: what is read is spelled so, and what is spelled so is read.
use Rattle.std.proofs.Common.{◌≡◌, ◌≢◌, ℕ, ◌+◌, ◌<◌, List, [], ◌∷◌, ◌++◌, length, get_or, map, All, Ok, Err, IfOk, true, refl, sym, ap, subst, ◌∙◌, arith}
use Rattle.std.specs.Prelude.{◌==◌}
use Rattle.std.proofs.Math.ListN.{get_or-map}
use Rattle.std.proofs.lemmas.List.{length-map, append-nil}
use Rattle.line_text.specs.Results.{check}
use Rattle.line_text.proofs.Results.{bind_ok, ok_is, check_ok}
use Rattle.ttp_model.specs.declared.plan.Plan.{Plan}
use Rattle.ttp_model.specs.declared.error.Part.TheVariants.{Nodes, Processes, Messages}
use Rattle.ttp_model.specs.declared.error.Place.TheVariants.{AtNode}
use Rattle.ttp_model.specs.Instance.{Instance, node_at, no_node}
use Rattle.ttp_model.specs.Plans.{IsNodeOrder}
use Rattle.ttp_model.specs.Rules.{IsInstance}
use Rattle.plan_format.specs.declared.fault.LineFault.TheVariants.{Trailing}
use Rattle.plan_format.specs.declared.fault.PlanTextError.TheVariants.{At, OutOfMemory}
use Rattle.plan_format.specs.declared.column.Column.{Column}
use Rattle.plan_format.specs.declared.column.Column.TheVariants.{Capacity, Start, Round}
use Rattle.plan_format.specs.Names.{part_of}
use Rattle.ttp_model.specs.Names.{names_in}
use Rattle.plan_format.specs.Channels.{first_line}
use Rattle.plan_format.specs.Spelling.{HasWord, numbered, channel_lines, plan_lines, delay_line, order_line, plan_text, HasText, SpellsPlan}
use Rattle.plan_format.specs.Reading.{Reading, IsAnswer, HasFront, head_at, delay_at, order_at, part_at, channels_at, end_line, plan_at}
use Rattle.plan_format.proofs.Heads.{head_takes, head_again, delay_takes, delay_again}
use Rattle.plan_format.proofs.Lines.{numbers_take, numbers_again}
use Rattle.plan_format.proofs.NameForm.{names_form}
use Rattle.plan_format.proofs.OrderLine.{names_at, order_words, AreApart, order_takes, order_again}
use Rattle.plan_format.proofs.ToldChannels.{channels_take, channels_again}

-- ---- the names of an instance

node_named : (i : Instance) (k : ℕ) → get_or (names_in i Nodes) k [] ≡ (node_at i k).name
node_named i k = get_or-map (λ n. n.name) i.nodes k no_node

pub nodes_apart : (i : Instance) → IsInstance i → AreApart (names_in i Nodes)
nodes_apart i w j k below lt =
    let inside : k < length i.nodes = omega (arith, lt, length-map i.nodes (λ n. n.name)) in
    rw (node_named i j, node_named i k) (w.new_names (AtNode k) inside j below)

nodes_ordered : (i : Instance) (order : List ℕ) → names_at (names_in i Nodes) order ≡ map (λ n. (node_at i n).name) order
nodes_ordered i [] = refl
nodes_ordered i (k ∷ ks) = rw (node_named i k, nodes_ordered i ks) refl

-- ---- what is read is spelled so

nil_is : (xs : List ℕ) → (length xs == 0) ≡ true → xs ≡ []
nil_is [] e = refl
nil_is (x ∷ xs) e = absurd (grind arith)

-- the parts of a text, put together
together : (i : Instance) (p : Plan) (d : ℕ) (text a b c e f g h : List ℕ) → text ≡ first_line i ++ 10 ∷ a → a ≡ delay_line d ++ 10 ∷ b
    → b ≡ order_words (names_in i Nodes) p.order ++ 10 ∷ c
    → c ≡ numbered Capacity (names_in i Nodes) p.caps ++ e → e ≡ numbered Start (names_in i Processes) p.starts ++ f
    → f ≡ numbered Round (names_in i Messages) p.rounds ++ g → g ≡ channel_lines i p.channels ++ h → h ≡ []
    → text ≡ plan_text i p d
together i p d text a b c e f g h ta tb tc te tf tg th none =
    rw (ta, tb, tc, nodes_ordered i p.order, te, tf, tg, th, none, append-nil (channel_lines i p.channels)) refl

numbers_of_part : (i : Instance) (column : Column) (line : ℕ) (text : List ℕ) (x : List ℕ × List ℕ) → part_at i column line text ≡ Ok x
    → (text ≡ numbered column (names_in i (part_of column)) x.0 ++ x.1) × (length x.0 ≡ length (names_in i (part_of column))) × All (HasWord column) x.0
numbers_of_part i column line text x e = numbers_take line column (names_in i (part_of column)) text x e

-- Each step of reading gives its part of the text and of the value. Put together they are the whole.
pub plan_takes : (i : Instance) (text : List ℕ) (x : Plan × ℕ) → plan_at i text ≡ Ok x → SpellsPlan i text x.0 x.1
unfolding plan_at
plan_takes i text x e =
    let head = bind_ok (head_at i text) _ x e in
    let delay = bind_ok (delay_at head.0) _ x head.2 in
    let order = bind_ok (order_at (names_in i Nodes) delay.0.1) _ x delay.2 in
    let caps = bind_ok (part_at i Capacity 4 order.0.1) _ x order.2 in
    let starts = bind_ok (part_at i Start (4 + length i.nodes) caps.0.1) _ x caps.2 in
    let rounds = bind_ok (part_at i Round (4 + length i.nodes + length i.processes) starts.0.1) _ x starts.2 in
    let channels = bind_ok (channels_at i rounds.0.1) _ x rounds.2 in
    let end = bind_ok (check (At (end_line i) Trailing) (length channels.0.1 == 0)) _ x channels.2 in
    let plan : Plan = record { order = order.0.0; caps = caps.0.0; starts = starts.0.0; rounds = rounds.0.0; channels = channels.0.0 } in
    let is : (plan, delay.0.0) ≡ x = ok_is (plan, delay.0.0) x end.2 in
    let nothing_left = nil_is channels.0.1 (check_ok (At (end_line i) Trailing) (length channels.0.1 == 0) end.0 end.1) in
    let delay_is = delay_takes head.0 delay.0 delay.1 in
    let order_is = order_takes (names_in i Nodes) delay.0.1 order.0 order.1 in
    let caps_are = numbers_of_part i Capacity 4 order.0.1 caps.0 caps.1 in
    let starts_are = numbers_of_part i Start (4 + length i.nodes) caps.0.1 starts.0 starts.1 in
    let rounds_are = numbers_of_part i Round (4 + length i.nodes + length i.processes) starts.0.1 rounds.0 rounds.1 in
    let channels_are = channels_take i rounds.0.1 channels.0 channels.1 in
    let count : length (names_in i Nodes) ≡ length i.nodes = length-map i.nodes (λ n. n.name) in
    subst (λ (y : Plan × ℕ). SpellsPlan i text y.0 y.1) is
    (record {
      value = record {
        lengths = record {
          order = order_is.is_order.all ∙ count;
          capacities = caps_are.1 ∙ count;
          starts = starts_are.1 ∙ length-map i.processes (λ p. p.name);
          rounds = rounds_are.1 ∙ length-map i.messages (λ m. m.name);
          channels = channels_are.long;
        };
        order = subst (λ k. IsNodeOrder k order.0.0) count order_is.is_order;
        caps = caps_are.2;
        starts = starts_are.2;
        rounds = rounds_are.2;
        channels = channels_are.told;
        stated = delay_is.1;
      };
      spelled =
          together i plan delay.0.0 text head.0 delay.0.1 order.0.1 caps.0.1 starts.0.1 rounds.0.1 channels.0.1
          (head_takes i text head.0 head.1) delay_is.0 order_is.spelled caps_are.0 starts_are.0 rounds_are.0 channels_are.spelled nothing_left;
    })

-- ---- what is spelled so is read

plan_steps : (i : Instance) (text a b c e f g : List ℕ) (plan : Plan) (delay : ℕ) → head_at i text ≡ Ok a → delay_at a ≡ Ok (delay, b)
    → order_at (names_in i Nodes) b ≡ Ok (plan.order, c)
    → part_at i Capacity 4 c ≡ Ok (plan.caps, e) → part_at i Start (4 + length i.nodes) e ≡ Ok (plan.starts, f)
    → part_at i Round (4 + length i.nodes + length i.processes) f ≡ Ok (plan.rounds, g)
    → channels_at i g ≡ Ok (plan.channels, [])
    → plan_at i text ≡ Ok (plan, delay)
unfolding plan_at
plan_steps i text a b c e f g plan delay ha hb hc he hf hg hh = rw (ha, hb, hc, he, hf, hg, hh) refl

part_again : (i : Instance) → IsInstance i → (column : Column) (line : ℕ) (ns rest : List ℕ) → length ns ≡ length (names_in i (part_of column))
    → All (HasWord column) ns
    → part_at i column line (numbered column (names_in i (part_of column)) ns ++ rest) ≡ Ok (ns, rest)
part_again i w column line ns rest long has =
    numbers_again line column (names_in i (part_of column)) ns rest (names_form i w (part_of column)) long has

-- Each part of the text is read in its turn, and leaves the parts behind it.
pub plan_again : (i : Instance) (plan : Plan) (delay : ℕ) → IsInstance i → HasText i plan delay → plan_at i (plan_text i plan delay) ≡ Ok (plan, delay)
plan_again i plan delay w t =
    let channels = channel_lines i plan.channels in
    let rounds = numbered Round (names_in i Messages) plan.rounds in
    let starts = numbered Start (names_in i Processes) plan.starts in
    let count : length (names_in i Nodes) ≡ length i.nodes = length-map i.nodes (λ n. n.name) in
    let after_order = plan_lines i plan in
    let after_delay = order_line i plan.order ++ 10 ∷ after_order in
    let order : order_at (names_in i Nodes) after_delay ≡ Ok (plan.order, after_order) =
    rw (← nodes_ordered i plan.order)
    (order_again (names_in i Nodes) plan.order after_order (rw count w.limits.nodes_least) (names_form i w Nodes) (nodes_apart i w) (rw count t.order)) in
    let last : channels_at i channels ≡ Ok (plan.channels, []) =
    ap (channels_at i) (sym (append-nil channels)) ∙ channels_again i w plan.channels [] t.lengths.channels t.channels in
    plan_steps i (plan_text i plan delay) (delay_line delay ++ 10 ∷ after_delay) after_delay after_order
    (starts ++ (rounds ++ channels)) (rounds ++ channels) channels plan delay
    (head_again i (delay_line delay ++ 10 ∷ after_delay)) (delay_again delay after_delay t.stated) order
    (part_again i w Capacity 4 plan.caps (starts ++ (rounds ++ channels)) (t.lengths.capacities ∙ sym count) t.caps)
    (part_again i w Start (4 + length i.nodes) plan.starts (rounds ++ channels) (t.lengths.starts ∙ sym (length-map i.processes (λ p. p.name))) t.starts)
    (part_again i w Round (4 + length i.nodes + length i.processes) plan.rounds channels
    (t.lengths.rounds ∙ sym (length-map i.messages (λ m. m.name))) t.rounds)
    last

-- ---- what an answer says

pub found_by : (i : Instance) (text : List ℕ) (r : Reading (Plan × ℕ)) → IsAnswer (HasFront i text) (λ x. x) r (plan_at i text)
    → IfOk r (λ x. SpellsPlan i text x.0 x.1)
found_by i text (Ok x) answer = plan_takes i text x answer
found_by i text (Err e) answer = tt

pub only_by : (i : Instance) (text : List ℕ) (r : Reading (Plan × ℕ)) → IsInstance i → IsAnswer (HasFront i text) (λ x. x) r (plan_at i text)
    → (plan : Plan) (delay : ℕ) → SpellsPlan i text plan delay → r ≢ Err OutOfMemory → r ≡ Ok (plan, delay)
only_by i text (Ok x) w answer plan delay s memory = sym answer ∙ (ap (plan_at i) s.spelled ∙ plan_again i plan delay w s.value)
only_by i text (Err OutOfMemory) w answer plan delay s memory = absurd (memory refl)
only_by i text (Err (At line fault)) w answer plan delay s memory = sym answer ∙ (ap (plan_at i) s.spelled ∙ plan_again i plan delay w s.value)

-- ---- no two values have one spelling

pub spelled_once : (i : Instance) (p q : Plan) (d e : ℕ) → IsInstance i → HasText i p d → HasText i q e → plan_text i p d ≡ plan_text i q e → (p ≡ q) × (d ≡ e)
spelled_once i p q d e w hp hq same =
    let read : (p, d) ≡ (q, e) = ok_is (p, d) (q, e) (sym (plan_again i p d w hp) ∙ (ap (plan_at i) same ∙ plan_again i q e w hq)) in
    (ap (λ (y : Plan × ℕ). y.0) read, ap (λ (y : Plan × ℕ). y.1) read)

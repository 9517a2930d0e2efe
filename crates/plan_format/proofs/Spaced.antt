-- How the printed lines grow, by one call after another.
use Rattle.std.proofs.Common.{◌≡◌, ℕ, ◌+◌, ◌<◌, List, [], ◌∷◌, ◌++◌, length, get_or, take, map, sym, ap, ◌∙◌, append_assoc, arith}
use Rattle.std.specs.Prelude.{codes, decimal}
use Rattle.std.specs.List.{flat_map, join_with_byte}
use Rattle.std.proofs.lemmas.Grind.{flat_map-append}
use Rattle.std.proofs.lemmas.List.{append-nil, get_or_default, take_more}
use Rattle.std.proofs.Math.Seq.{take-length}
use Rattle.ttp_model.specs.declared.parts.Node.{Node}
use Rattle.ttp_model.specs.declared.plan.Plan.{Plan}
use Rattle.ttp_model.specs.declared.error.Part.TheVariants.{Nodes, Processes, Messages}
use Rattle.ttp_model.specs.Instance.{Instance, node_at, no_node}
use Rattle.plan_format.specs.declared.column.Column.TheVariants.{Capacity, Start, Round}
use Rattle.ttp_model.specs.Names.{names_in}
use Rattle.plan_format.specs.Channels.{first_line}
use Rattle.plan_format.specs.Spelling.{numbered, channel_lines, delay_line, order_line, plan_text}

pub head_pushed : (i : Instance) (line old a b c d : List ℕ) (delay : ℕ) → line ≡ first_line i → a ≡ old ++ line → b ≡ a ++ codes "\ndelay "
    → c ≡ b ++ decimal delay → d ≡ c ++ 10 ∷ []
    → d ≡ old ++ (first_line i ++ 10 ∷ (delay_line delay ++ 10 ∷ []))
head_pushed i line old a b c d delay el ea eb ec ed = rw (ed, ec, eb, ea, el) (simp append_assoc)

-- a node's name, with a space before it
unfoldable pub spaced : Instance → ℕ → List ℕ
spaced i n = 32 ∷ (node_at i n).name

-- the words joined by spaces, and one before them
joined-spaced : (i : Instance) (n : ℕ) (ns : List ℕ) → 32 ∷ join_with_byte 32 (map (λ n. (node_at i n).name) (n ∷ ns)) ≡ flat_map (spaced i) (n ∷ ns)
unfolding spaced
joined-spaced i n [] = ap (λ (w : List ℕ). 32 ∷ w) (sym (append-nil (node_at i n).name))
joined-spaced i n (m ∷ ns) = ap (λ (w : List ℕ). 32 ∷ ((node_at i n).name ++ w)) (joined-spaced i m ns)

order_line-spaced : (i : Instance) (order : List ℕ) → 0 < length order → order_line i order ≡ codes "order" ++ flat_map (spaced i) order
order_line-spaced i [] some = absurd (omega arith)
order_line-spaced i (n ∷ ns) some = ap (λ (words : List ℕ). codes "order" ++ words) (joined-spaced i n ns)

pub word_pushed : (i : Instance) (order : List ℕ) (k : ℕ) (nodes : List Node) (other : Node) (name start text a b : List ℕ) → k < length order → get_or order k 0 < length i.nodes
    → nodes ≡ i.nodes → name ≡ (get_or nodes (get_or order k 0) other).name
    → text ≡ start ++ flat_map (spaced i) (take k order) → a ≡ text ++ 32 ∷ [] → b ≡ a ++ name
    → b ≡ start ++ flat_map (spaced i) (take (k + 1) order)
unfolding spaced
word_pushed i order k nodes other name start text a b lt inside all en et ea eb =
    let here : (get_or i.nodes (get_or order k 0) other).name ≡ (node_at i (get_or order k 0)).name = ap (λ (m : Node). m.name) (get_or_default i.nodes (get_or order k 0) other no_node inside) in
    rw (take_more order k 0 lt, flat_map-append (spaced i) (take k order) (get_or order k 0 ∷ []), eb, ea, et, en, all, here)
    (simp (append_assoc, append-nil))

pub order_pushed : (i : Instance) (order : List ℕ) (k : ℕ) (old start text a : List ℕ) → 0 < length order → length order ≡ k → start ≡ old ++ codes "order"
    → text ≡ start ++ flat_map (spaced i) (take k order) → a ≡ text ++ 10 ∷ []
    → a ≡ old ++ (order_line i order ++ 10 ∷ [])
order_pushed i order k old start text a some long es et ea =
    let whole : take k order ≡ order = rw (← long) (take-length order) in
    let grouped : ((old ++ codes "order") ++ flat_map (spaced i) order) ++ 10 ∷ [] ≡ old ++ ((codes "order" ++ flat_map (spaced i) order) ++ 10 ∷ []) = simp append_assoc in
    rw (ea, et, whole, es) (grouped ∙ ap (λ (words : List ℕ). old ++ (words ++ 10 ∷ [])) (sym (order_line-spaced i order some)))

line_by_line : (a b c w x y z : List ℕ)
    → (((((a ++ 10 ∷ (b ++ 10 ∷ [])) ++ (c ++ 10 ∷ [])) ++ w) ++ x) ++ y) ++ z ≡ a ++ 10 ∷ (b ++ 10 ∷ (c ++ 10 ∷ (w ++ (x ++ (y ++ z)))))
line_by_line a b c w x y z = simp append_assoc

-- the whole text, by its parts
pub text_pushed : (i : Instance) (plan : Plan) (delay : ℕ) (old a b c d e f : List ℕ) → old ≡ []
    → a ≡ old ++ (first_line i ++ 10 ∷ (delay_line delay ++ 10 ∷ []))
    → b ≡ a ++ (order_line i plan.order ++ 10 ∷ []) → c ≡ b ++ numbered Capacity (names_in i Nodes) plan.caps
    → d ≡ c ++ numbered Start (names_in i Processes) plan.starts → e ≡ d ++ numbered Round (names_in i Messages) plan.rounds
    → f ≡ e ++ channel_lines i plan.channels
    → f ≡ plan_text i plan delay
text_pushed i plan delay old a b c d e f eo ea eb ec ed ee ef =
    rw (ef, ee, ed, ec, eb, ea, eo)
    (line_by_line (first_line i) (delay_line delay) (order_line i plan.order) (numbered Capacity (names_in i Nodes) plan.caps)
    (numbered Start (names_in i Processes) plan.starts) (numbered Round (names_in i Messages) plan.rounds) (channel_lines i plan.channels))

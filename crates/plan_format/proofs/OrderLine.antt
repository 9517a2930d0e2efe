-- The two laws of the order line: its words are the nodes' names, in an order of the nodes.
use Rattle.std.proofs.Common.{◌≡◌, ◌≢◌, ℕ, zero, suc, ◌<◌, Bool, true, false, List, [], ◌∷◌, ◌++◌, length, get_or, map, All, Option, Some, None, Ok, ◌&&◌, not, refl, sym, ap, subst, ◌∙◌, arith, eq-eqb}
use Rattle.std.specs.Prelude.{bytes_eq, codes, position, ◌==◌}
use Rattle.std.specs.List.{list_all, list_any, join_with_byte}
use Rattle.std.proofs.lemmas.Bool.{ne_eqb, eqb-true}
use Rattle.std.proofs.lemmas.List.{length-map, get_or_default}
use Rattle.std.proofs.lemmas.List.Elements.{All-nil, All-cons, All-weaker, All-head, All-tail, All-map, All-get_or, All-from_get_or}
use Rattle.std.proofs.lemmas.List.Folds.{list_any_none}
use Rattle.std.proofs.lemmas.List.Quantifiers.{position-Some}
use Rattle.std.proofs.lemmas.List.Splits.{join_with_byte-slice_split, slice_split_none, slice_split_at}
use Rattle.std.proofs.lemmas.List.Sums.{list_all-from_AllPass}
use Rattle.std.proofs.lemmas.Slice.Eq.{bytes_eq-Decides}
use Rattle.line_text.specs.Parts.{Lacks, after_keyword}
use Rattle.line_text.specs.Results.{or_fault, check}
use Rattle.line_text.proofs.Cuts.{after_takes, after_again, Lacks-append, Lacks-from_test, fails_each}
use Rattle.line_text.proofs.Results.{bind_ok, ok_is, or_fault_ok, check_ok}
use Rattle.ttp_model.specs.Lists.{HasNoRepeats}
use Rattle.ttp_model.specs.Plans.{IsNodeOrder}
use Rattle.plan_format.specs.declared.fault.LineFault.TheVariants.{Form, Name, Order}
use Rattle.plan_format.specs.declared.fault.PlanTextError.TheVariants.{At}
use Rattle.plan_format.specs.Names.{is_name}
use Rattle.plan_format.specs.Reading.{line_at, words_of, places_with, places, is_distinct, named_at, order_at}
use Rattle.plan_format.proofs.Lines.{line_takes, line_again}
use Rattle.ttp_model.proofs.Named.{found_at}
use Rattle.plan_format.proofs.NameForm.{name_lacks}

-- the names at these places
abbrev pub names_at : List (List ℕ) → List ℕ → List (List ℕ)
names_at names order = map (λ k. get_or names k []) order

-- the order line, by the names of the nodes
abbrev pub order_words : List (List ℕ) → List ℕ → List ℕ
order_words names order = codes "order " ++ join_with_byte 32 (names_at names order)

-- each name stands once
abbrev pub AreApart : List (List ℕ) → Type 0
AreApart names = (j k : ℕ) → j < k → k < length names → get_or names j [] ≢ get_or names k []

-- ---- words joined by spaces

pub words_of-join : (word : List ℕ) (words : List (List ℕ)) → All (Lacks 32) (word ∷ words) → words_of (join_with_byte 32 (word ∷ words)) ≡ word ∷ words
words_of-join word [] lacks = slice_split_none (λ b. b == 32) word (fails_each 32 word (All-head (Lacks 32) word [] lacks))
words_of-join word (next ∷ words) lacks =
    slice_split_at (λ b. b == 32) word 32 (join_with_byte 32 (next ∷ words)) (fails_each 32 word (All-head (Lacks 32) word (next ∷ words) lacks)) refl
    ∙ ap (λ (ws : List (List ℕ)). word ∷ ws) (words_of-join next words (All-tail (Lacks 32) word (next ∷ words) lacks))

pub join_lacks : (words : List (List ℕ)) → All (Lacks 10) words → Lacks 10 (join_with_byte 32 words)
join_lacks [] lacks = All-nil (λ b. b ≢ 10)
join_lacks (word ∷ []) lacks = All-head (Lacks 10) word [] lacks
join_lacks (word ∷ next ∷ words) lacks =
    Lacks-append 10 word (32 ∷ join_with_byte 32 (next ∷ words)) (All-head (Lacks 10) word (next ∷ words) lacks)
    (Lacks-append 10 (32 ∷ []) (join_with_byte 32 (next ∷ words)) (Lacks-from_test 10 (32 ∷ []) refl)
    (join_lacks (next ∷ words) (All-tail (Lacks 10) word (next ∷ words) lacks)))

-- ---- the places of names

some_is : (x y : List ℕ) → Some x ≡ Some y → x ≡ y
some_is x y e = cc

both_there : (o : Option ℕ) (r : Option (List ℕ)) (order : List ℕ) → places_with o r ≡ Some order → (k : ℕ) × (ks : List ℕ) × (o ≡ Some k) × (r ≡ Some ks) × (k ∷ ks ≡ order)
both_there None r order e = absurd cc
both_there (Some k) None order e = absurd cc
both_there (Some k) (Some ks) order e = (k, ks, refl, refl, some_is (k ∷ ks) order e)

pub places_take : (names words : List (List ℕ)) (order : List ℕ) → places names words ≡ Some order → (names_at names order ≡ words) × All (λ k. k < length names) order
places_take names [] order e =
    subst (λ (o : List ℕ). (names_at names o ≡ []) × All (λ k. k < length names) o) (some_is [] order e) (refl, All-nil (λ k. k < length names))
places_take names (word ∷ words) order e =
    let a = both_there (position (λ name. bytes_eq name word) names) (places names words) order e in
    let p = position-Some (λ name. bytes_eq name word) names a.0 [] a.2 in
    let here : get_or names a.0 [] ≡ word = (bytes_eq-Decides (get_or names a.0 []) word).0 p.1 in
    let others = places_take names words a.1 a.3 in
    subst (λ (o : List ℕ). (names_at names o ≡ word ∷ words) × All (λ k. k < length names) o) a.4
    (rw (here, others.0) refl, All-cons (λ k. k < length names) a.0 a.1 p.0 others.1)

differs : (a b : List ℕ) → a ≢ b → bytes_eq a b ≡ false
differs a b ne = elim (bytes_eq a b) as (λ t. bytes_eq a b ≡ t → bytes_eq a b ≡ false) [ true ↦ (λ e. absurd (ne ((bytes_eq-Decides a b).0 e))) | false ↦ (λ e. e) ] refl

place_again : (names : List (List ℕ)) (k : ℕ) → AreApart names → k < length names → position (λ name. bytes_eq name (get_or names k [])) names ≡ Some k
place_again names k apart lt =
    found_at (λ name. bytes_eq name (get_or names k [])) names k lt
    (λ j below. differs (get_or names j []) (get_or names k []) (apart j k below lt))
    ((bytes_eq-Decides (get_or names k []) (get_or names k [])).1 refl)

pub places_again : (names : List (List ℕ)) (order : List ℕ) → AreApart names → All (λ k. k < length names) order → places names (names_at names order) ≡ Some order
places_again names [] apart lts = refl
places_again names (k ∷ ks) apart lts =
    rw (place_again names k apart (All-head (λ k. k < length names) k ks lts), places_again names ks apart (All-tail (λ k. k < length names) k ks lts)) refl

-- ---- each node once

and_true : (a b : Bool) → (a && b) ≡ true → (a ≡ true) × (b ≡ true)
and_true true b e = (refl, e)
and_true false b e = absurd cc

distinct_parts : (n : ℕ) (ns : List ℕ) → is_distinct (n ∷ ns) ≡ true → (list_any (λ m. m == n) ns ≡ false) × (is_distinct ns ≡ true)
distinct_parts n ns e = (grind arith, grind arith)

absent : (n : ℕ) (ns : List ℕ) (k : ℕ) → list_any (λ m. m == n) ns ≡ false → k < length ns → get_or ns k 0 ≢ n
absent n [] k e lt = absurd (omega arith)
absent n (m ∷ ms) zero e lt = grind arith
absent n (m ∷ ms) (suc k) e lt = let others : list_any (λ m. m == n) ms ≡ false = grind arith in absent n ms k others (omega arith)

HasNoRepeats-from_test : (ns : List ℕ) → is_distinct ns ≡ true → HasNoRepeats ns
HasNoRepeats-from_test [] e j k lt inside = absurd (omega arith)
HasNoRepeats-from_test (n ∷ ns) e zero zero lt inside = absurd (omega arith)
HasNoRepeats-from_test (n ∷ ns) e (suc j) zero lt inside = absurd (omega arith)
HasNoRepeats-from_test (n ∷ ns) e zero (suc k) lt inside = (λ same. absent n ns k (distinct_parts n ns e).0 (omega arith) (sym same))
HasNoRepeats-from_test (n ∷ ns) e (suc j) (suc k) lt inside = HasNoRepeats-from_test ns (distinct_parts n ns e).1 j k (omega arith) (omega arith)

test-from_HasNoRepeats : (ns : List ℕ) → HasNoRepeats ns → is_distinct ns ≡ true
test-from_HasNoRepeats [] h = refl
test-from_HasNoRepeats (n ∷ ns) h =
    let none : list_any (λ m. m == n) ns ≡ false = list_any_none (λ m. m == n) ns (λ k d lt. rw (get_or_default ns k d 0 lt) (ne_eqb (get_or ns k 0) n (λ same. h zero (suc k) (omega arith) (omega arith) (sym same)))) in
    let others : is_distinct ns ≡ true = test-from_HasNoRepeats ns (λ j k lt inside. h (suc j) (suc k) (omega arith) (omega arith)) in
    rw (none, others) refl

pub order_is : (count : ℕ) (order : List ℕ) → length order ≡ count → is_distinct order ≡ true → All (λ k. k < count) order → IsNodeOrder count order
order_is count order long once inside = record {
  all = long;
  each = λ k lt. record { node = All-get_or (λ k. k < count) order k 0 (omega arith) inside; first = λ j below. HasNoRepeats-from_test order once j k below (omega arith) };
}

pub order_has : (count : ℕ) (order : List ℕ) → IsNodeOrder count order → (is_distinct order ≡ true) × All (λ k. k < count) order
order_has count order o = (
  test-from_HasNoRepeats order (λ j k below inside. (o.each k (omega (arith, o.all))).first j below),
  All-from_get_or (λ k. k < count) order 0 (λ k inside. (o.each k (omega (arith, o.all))).node),
)

-- ---- the line

order_joined : (text first after rest words : List ℕ) → text ≡ first ++ 10 ∷ after → first ≡ codes "order " ++ rest → rest ≡ words → text ≡ (codes "order " ++ words) ++ 10 ∷ after
order_joined text first after rest words a b c = rw (a, b, c) refl

-- What an order line gives: its text, so many places, none twice, and each a node's.
pub record IsOrderRead (nodes : List (List ℕ)) (text order last : List ℕ) : Type 0 where
  pub spelled : text ≡ order_words nodes order ++ 10 ∷ last
  pub is_order : IsNodeOrder (length nodes) order

named_takes : (text : List ℕ) (x : List ℕ × List ℕ) → named_at text ≡ Ok x → text ≡ (codes "order " ++ x.0) ++ 10 ∷ x.1
unfolding named_at
named_takes text x e =
    let line = bind_ok (line_at 3 text) _ x e in
    let more = bind_ok (check (At 3 Order) (not (bytes_eq line.0.0 (codes "order")))) _ x line.2 in
    let rest = bind_ok (or_fault (At 3 Form) (after_keyword (codes "order ") line.0.0)) _ x more.2 in
    let form = bind_ok (check (At 3 Form) (list_all is_name (words_of rest.0))) _ x rest.2 in
    let is : (rest.0, line.0.1) ≡ x = ok_is (rest.0, line.0.1) x form.2 in
    let keyword = after_takes (codes "order ") line.0.0 rest.0 (or_fault_ok (At 3 Form) (after_keyword (codes "order ") line.0.0) rest.0 rest.1) in
    subst (λ (y : List ℕ × List ℕ). text ≡ (codes "order " ++ y.0) ++ 10 ∷ y.1) is
    (order_joined text line.0.0 line.0.1 rest.0 rest.0 (line_takes 3 text line.0.0 line.0.1 line.1) keyword refl)

-- The words are those of the line, since joined they are its text; and they are nodes, each once.
pub order_takes : (nodes : List (List ℕ)) (text : List ℕ) (x : List ℕ × List ℕ) → order_at nodes text ≡ Ok x → IsOrderRead nodes text x.0 x.1
unfolding order_at
order_takes nodes text x e =
    let named = bind_ok (named_at text) _ x e in
    let order = bind_ok (or_fault (At 3 Name) (places nodes (words_of named.0.0))) _ x named.2 in
    let once = bind_ok (check (At 3 Order) ((length order.0 == length nodes) && is_distinct order.0)) _ x order.2 in
    let is : (order.0, named.0.1) ≡ x = ok_is (order.0, named.0.1) x once.2 in
    let tests = and_true (length order.0 == length nodes) (is_distinct order.0) (check_ok (At 3 Order) ((length order.0 == length nodes) && is_distinct order.0) once.0 once.1) in
    let words = places_take nodes (words_of named.0.0) order.0 (or_fault_ok (At 3 Name) (places nodes (words_of named.0.0)) order.0 order.1) in
    let joined : named.0.0 ≡ join_with_byte 32 (names_at nodes order.0) = sym (join_with_byte-slice_split 32 named.0.0) ∙ ap (join_with_byte 32) (sym words.0) in
    subst (λ (y : List ℕ × List ℕ). IsOrderRead nodes text y.0 y.1) is
    (record {
      spelled = named_takes text named.0 named.1 ∙ ap (λ (words : List ℕ). (codes "order " ++ words) ++ 10 ∷ named.0.1) joined;
      is_order = order_is (length nodes) order.0 (eqb-true _ _ tests.0) tests.1 words.1;
    })

not_alone : (x : List ℕ) → bytes_eq (codes "order " ++ x) (codes "order") ≡ false
not_alone x = refl

order_steps : (nodes : List (List ℕ)) (text first rest words order : List ℕ) → line_at 3 text ≡ Ok (first, rest) → bytes_eq first (codes "order") ≡ false → after_keyword (codes "order ") first ≡ Some words
    → list_all is_name (words_of words) ≡ true → places nodes (words_of words) ≡ Some order → length order ≡ length nodes → is_distinct order ≡ true → order_at nodes text ≡ Ok (order, rest)
unfolding order_at named_at
order_steps nodes text first rest words order a s b f o l d =
    let long : (length order == length nodes) ≡ true = eq-eqb (length order) (length nodes) l in
    rw (a, s, b, f, o, long, d) refl

-- each of the names at places of an order is one of the names
names_pass : (nodes : List (List ℕ)) (order : List ℕ) → All (λ name. is_name name ≡ true) nodes → All (λ k. k < length nodes) order → All (λ name. is_name name ≡ true) (names_at nodes order)
names_pass nodes order form inside =
    All-map (λ name. is_name name ≡ true) (λ k. get_or nodes k []) order
    (All-weaker (λ k. k < length nodes) (λ k. is_name (get_or nodes k []) ≡ true) (λ k lt. All-get_or (λ name. is_name name ≡ true) nodes k [] lt form) order inside)

words_again : (words : List (List ℕ)) → 0 < length words → All (λ name. is_name name ≡ true) words → words_of (join_with_byte 32 words) ≡ words
words_again [] some form = absurd (omega arith)
words_again (word ∷ words) some form = words_of-join word words (All-weaker (λ name. is_name name ≡ true) (Lacks 32) (name_lacks 32 refl) (word ∷ words) form)

order_lacks : (words : List (List ℕ)) → All (λ name. is_name name ≡ true) words → Lacks 10 (codes "order " ++ join_with_byte 32 words)
order_lacks words form =
    Lacks-append 10 (codes "order ") (join_with_byte 32 words) (Lacks-from_test 10 (codes "order ") refl)
    (join_lacks words (All-weaker (λ name. is_name name ≡ true) (Lacks 10) (name_lacks 10 refl) words form))

pub order_again : (nodes : List (List ℕ)) (order rest : List ℕ) → 0 < length nodes → All (λ name. is_name name ≡ true) nodes → AreApart nodes → IsNodeOrder (length nodes) order
    → order_at nodes (order_words nodes order ++ 10 ∷ rest) ≡ Ok (order, rest)
order_again nodes order rest some form apart o =
    let has = order_has (length nodes) order o in
    let names = names_pass nodes order form has.1 in
    let words = words_again (names_at nodes order) (rw length-map (omega (arith, o.all))) names in
    order_steps nodes (order_words nodes order ++ 10 ∷ rest) (order_words nodes order) rest (join_with_byte 32 (names_at nodes order)) order
    (line_again 3 (order_words nodes order) rest (order_lacks (names_at nodes order) names))
    (not_alone (join_with_byte 32 (names_at nodes order)))
    (after_again (codes "order ") (join_with_byte 32 (names_at nodes order)))
    (rw words (list_all-from_AllPass is_name (names_at nodes order) names))
    (rw words (places_again nodes order apart has.1))
    o.all has.0

-- The test for the form of a name is the model's rule for a name.
use Rattle.std.proofs.Common.{◌≡◌, ℕ, Bool, true, false, List, All, get_or, IsTrue, ◌↔◌, refl, sym, ap, ◌∙◌, ◌≢◌, arith}
use Rattle.std.proofs.lemmas.List.Sums.{AllPass-from_list_all, list_all-from_AllPass}
use Rattle.std.specs.List.{list_all}
use Rattle.std.proofs.lemmas.List.{get_or_default}
use Rattle.std.proofs.lemmas.List.Elements.{All-weaker, All-map, All-from_get_or}
use Rattle.line_text.specs.Parts.{Lacks}
use Rattle.ttp_model.specs.declared.error.Part.{Part}
use Rattle.ttp_model.specs.declared.error.Part.TheVariants.{Nodes, Processes, Links, Messages}
use Rattle.ttp_model.specs.declared.error.Place.TheVariants.{AtNode, AtProcess, AtMessage}
use Rattle.ttp_model.specs.Instance.{Instance, no_node, no_process, no_message}
use Rattle.ttp_model.specs.Rules.{IsInstance, IsName, continues_name}
use Rattle.plan_format.specs.Names.{is_name}
use Rattle.ttp_model.specs.Names.{names_in}

IsName-from_test : (word : List ℕ) → is_name word ≡ true → IsName word
IsName-from_test word h =
    let all = AllPass-from_list_all continues_name word (grind arith) in
    record { some = grind arith; short = grind arith; first = grind arith; others = λ k lt. all k 0 lt }

pub test-from_IsName : (word : List ℕ) → IsName word → is_name word ≡ true
test-from_IsName word n =
    let all : list_all continues_name word ≡ true = list_all-from_AllPass continues_name word (λ k d lt. rw (get_or_default word k d 0 lt) (n.others k lt)) in
    let some = n.some in
    let short = n.short in
    let first = n.first in
    grind arith

pub is_name-IsName : (word : List ℕ) → IsTrue (is_name word) ↔ IsName word
is_name-IsName word = (IsName-from_test word, test-from_IsName word)

-- two tests of one fact are one
pub same_test : (a b : Bool) (P : Type 0) → IsTrue a ↔ P → IsTrue b ↔ P → a ≡ b
same_test true true P f g = refl
same_test true false P f g = absurd (let e : false ≡ true = g.1 (f.0 refl) in cc)
same_test false true P f g = absurd (let e : false ≡ true = f.1 (g.0 refl) in cc)
same_test false false P f g = refl

other_byte : (byte : ℕ) → continues_name byte ≡ false → (c : ℕ) → continues_name c ≡ true → c ≢ byte
other_byte byte never c goes same = let e : true ≡ false = sym goes ∙ (ap continues_name same ∙ never) in cc

-- a byte that no name goes on with stands in none
pub name_lacks : (byte : ℕ) → continues_name byte ≡ false → (name : List ℕ) → is_name name ≡ true → Lacks byte name
name_lacks byte never name h =
    All-weaker (λ c. continues_name c ≡ true) (λ c. c ≢ byte) (other_byte byte never) name
    (λ k d lt. rw (get_or_default name k d 0 lt) ((IsName-from_test name h).others k lt))

-- the names of an instance have that form
pub names_form : (i : Instance) → IsInstance i → (part : Part) → All (λ name. is_name name ≡ true) (names_in i part)
names_form i w Nodes =
    All-map (λ name. is_name name ≡ true) (λ n. n.name) i.nodes
    (All-from_get_or (λ n. is_name n.name ≡ true) i.nodes no_node (λ k lt. test-from_IsName (get_or i.nodes k no_node).name (w.names (AtNode k) lt)))
names_form i w Processes =
    All-map (λ name. is_name name ≡ true) (λ p. p.name) i.processes
    (All-from_get_or (λ p. is_name p.name ≡ true) i.processes no_process (λ k lt.
    test-from_IsName (get_or i.processes k no_process).name (w.names (AtProcess k) lt)))
names_form i w Messages =
    All-map (λ name. is_name name ≡ true) (λ m. m.name) i.messages
    (All-from_get_or (λ m. is_name m.name ≡ true) i.messages no_message (λ k lt.
    test-from_IsName (get_or i.messages k no_message).name (w.names (AtMessage k) lt)))
names_form i w Links = (λ k d lt. absurd (omega arith))

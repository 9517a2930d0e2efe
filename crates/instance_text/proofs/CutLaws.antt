-- An index that is kept in 32 bits changes no fault of a text, and nothing of an instance that keeps its limits.
use Rattle.std.proofs.Common.{◌≡◌, ℕ, ◌+◌, ◌<◌, ◌≤◌, ◌^◌, Bool, true, false, List, [], ◌∷◌, map, length, Option, None, Some, option_map, Ok, Err, if◌then◌else◌, refl, sym, ap, subst, ◌∙◌, arith}
use Rattle.std.specs.Prelude.{position}
use Rattle.std.specs.Str.{bytes_eq}
use Rattle.std.proofs.lemmas.List.{length-map}
use Rattle.toml.specs.Data.{Data, string, integer, float, boolean, datetime, array, table, Members, get_member}
use Rattle.ttp_model.specs.declared.parts.Process.{Process}
use Rattle.ttp_model.specs.declared.parts.Link.{Link}
use Rattle.ttp_model.specs.declared.parts.Message.{Message}
use Rattle.ttp_model.specs.Instance.{Instance, instance_with}
use Rattle.instance_text.specs.declared.error.Key.{Key}
use Rattle.instance_text.specs.declared.error.Place.{Place}
use Rattle.instance_text.specs.declared.error.Place.TheVariants as at
use Rattle.instance_text.specs.declared.error.TextError.{TextError}
use Rattle.instance_text.specs.declared.error.TextError.TheVariants.{UnknownKey}
use Rattle.instance_text.specs.Rows.{Kind, one_table, tables, number, numbers, truth, text, node, process, processes, KeyRow, Value, rows}
use Rattle.instance_text.specs.Kinds.{Stated, ◌>>=◌, each, list_of, Index, index_in, KnownNames, found_index, index_of, array_of, value_of}
use Rattle.instance_text.specs.Tables.{found, Making, at_row, in_turn, table_at, has_only, keys_at}
use Rattle.instance_text.specs.Stated.{stated_tables, cluster_of, nodes_of, processes_of, links_of, messages_of, process_of, link_of, message_of, knows_nodes, knows_processes, stated_by, node_names, process_names, the_process, the_link, the_message}
use Rattle.instance_text.specs.Index.{cut_index, cut_index_in}
use Rattle.instance_text.proofs.StatedLaws.{stated-tables, stated-all}

-- ---- readings with the same fault, or with values that are alike

abbrev pub AreAlike : {A : Type 0} → (A → A → Type 0) → Stated A → Stated A → Type 0
AreAlike Alike (Ok x) (Ok y) = Alike x y
AreAlike Alike (Err d) (Err e) = d ≡ e
AreAlike Alike (Ok x) (Err e) = ⊥
AreAlike Alike (Err d) (Ok y) = ⊥

abbrev done : {A : Type 0} → A → Stated A
done x = Ok x

abbrev pub Any : {A : Type 0} → A → A → Type 0
Any x y = Unit {0}

-- what is read of them is the same
abbrev pub Same : {A B : Type 0} → (A → B) → A → A → Type 0
Same part x y = part x ≡ part y

alike_then : {A B : Type 0} (R : A → A → Type 0) (S : B → B → Type 0) (r s : Stated A) (f g : A → Stated B)
    → AreAlike R r s → ((x y : A) → R x y → AreAlike S (f x) (g y)) → AreAlike S (r >>= f) (s >>= g)
alike_then R S (Ok x) (Ok y) f g one next = next x y one
alike_then R S (Err d) (Err e) f g one next = one
alike_then R S (Ok x) (Err e) f g one next = absurd one
alike_then R S (Err d) (Ok y) f g one next = absurd one

is_ok : {A : Type 0} (x y : A) → done x ≡ done y → x ≡ y
is_ok x y e = cc

then_ok : {A B : Type 0} (r : Stated A) (f : A → Stated B) (y : B) → (r >>= f) ≡ Ok y → (x : A) × (r ≡ Ok x) × (f x ≡ Ok y)
then_ok (Ok x) f y e = (x, refl, e)
then_ok (Err d) f y e = absurd cc

-- of alike readings, what one says is said of the other
pub alike_err : {A : Type 0} (R : A → A → Type 0) (r s : Stated A) (e : TextError) → AreAlike R r s → r ≡ Err e → s ≡ Err e
alike_err R (Ok x) (Ok y) e one is = absurd cc
alike_err R (Err d) (Err other) e one is = cc
alike_err R (Ok x) (Err other) e one is = absurd one
alike_err R (Err d) (Ok y) e one is = absurd one

pub alike_ok : {A : Type 0} (R : A → A → Type 0) (r s : Stated A) (x : A) → AreAlike R r s → r ≡ Ok x → (y : A) × (s ≡ Ok y) × R x y
alike_ok R (Ok z) (Ok y) x one is = (y, refl, subst (λ w. R w y) (is_ok z x is) one)
alike_ok R (Err d) (Err other) x one is = absurd cc
alike_ok R (Ok z) (Err other) x one is = absurd one
alike_ok R (Err d) (Ok y) x one is = absurd one

alike_after : {A B : Type 0} (S : B → B → Type 0) (r : Stated A) (f g : A → Stated B)
    → ((x : A) → AreAlike S (f x) (g x)) → AreAlike S (r >>= f) (r >>= g)
alike_after S (Ok x) f g next = next x
alike_after S (Err d) f g next = refl

alike_self : {A : Type 0} (R : A → A → Type 0) (r : Stated A) → ((x : A) → R x x) → AreAlike R r r
alike_self R (Ok x) self = self x
alike_self R (Err d) self = refl

alike_if : {A : Type 0} (R : A → A → Type 0) (test : Bool) (r s : Stated A) (e : TextError) → AreAlike R r s → AreAlike R (if test then r else Err e) (if test then s else Err e)
alike_if R true r s e one = one
alike_if R false r s e one = refl

alike_each : {A B C : Type 0} (part : B → C) (f g : ℕ → A → Stated B) → ((k : ℕ) (x : A) → AreAlike (Same part) (f k x) (g k x))
    → (start : ℕ) (xs : List A) → AreAlike (Same (map part)) (each f start xs) (each g start xs)
alike_each part f g one start [] = refl
alike_each part f g one start (x ∷ xs) =
    alike_then (Same part) (Same (map part)) (f start x) (g start x) _ _ (one start x) (λ y z first.
    alike_then (Same (map part)) (Same (map part)) (each f (start + 1) xs) (each g (start + 1) xs) _ _ (alike_each part f g one (start + 1) xs)
    (λ ys zs others. rw (first, others) refl))

alike_weaker : {A : Type 0} (R S : A → A → Type 0) (r s : Stated A) → ((x y : A) → R x y → S x y) → AreAlike R r s → AreAlike S r s
alike_weaker R S (Ok x) (Ok y) weaker one = weaker x y one
alike_weaker R S (Err d) (Err e) weaker one = one
alike_weaker R S (Ok x) (Err e) weaker one = absurd one
alike_weaker R S (Err d) (Ok y) weaker one = absurd one

-- ---- indices of the same names

abbrev pub BothOrNeither : Option ℕ → Option ℕ → Type 0
BothOrNeither (Some a) (Some b) = Unit {0}
BothOrNeither None None = Unit {0}
BothOrNeither (Some a) None = ⊥
BothOrNeither None (Some b) = ⊥

-- two indices know the same names
abbrev pub KnowSame : Index → Index → Type 0
KnowSame f g = (name : List ℕ) → BothOrNeither (f name) (g name)

alike_found : (place : Place) (key : Key) (a b : Option ℕ) → BothOrNeither a b → AreAlike Any (found_index place key a) (found_index place key b)
alike_found place key (Some a) (Some b) both = tt
alike_found place key None None both = refl
alike_found place key (Some a) None both = absurd both
alike_found place key None (Some b) both = absurd both

module _ (place : Place) (key : Key) where
  alike_index : (f g : Index) → KnowSame f g → (d : Data) → AreAlike Any (index_of place key f d) (index_of place key g d)
  alike_index f g same (string s) = alike_found place key (f s) (g s) (same s)
  alike_index f g same (integer z) = refl
  alike_index f g same (float x) = refl
  alike_index f g same (boolean b) = refl
  alike_index f g same (datetime t) = refl
  alike_index f g same (array ds) = refl
  alike_index f g same (table ms) = refl

  nothing : ℕ → Unit {0}
  nothing n = tt

  alike_indices : (f g : Index) → KnowSame f g → (d : Data) → AreAlike Any (array_of place key (index_of place key f) d) (array_of place key (index_of place key g) d)
  alike_indices f g same (array ds) =
      alike_weaker (Same (map nothing)) Any (each (λ _ d. index_of place key f d) 0 (list_of ds)) (each (λ _ d. index_of place key g d) 0 (list_of ds)) (λ x y any. tt)
      (alike_each nothing (λ _ d. index_of place key f d) (λ _ d. index_of place key g d)
      (λ k d. alike_weaker Any (Same nothing) (index_of place key f d) (index_of place key g d) (λ x y any. refl) (alike_index f g same d)) 0 (list_of ds))
  alike_indices f g same (string s) = refl
  alike_indices f g same (integer z) = refl
  alike_indices f g same (float x) = refl
  alike_indices f g same (boolean b) = refl
  alike_indices f g same (datetime t) = refl
  alike_indices f g same (table ms) = refl

-- ---- tables

-- values of a row are the same, but for indices
abbrev pub AlikeAs : (kind : Kind) → Value kind → Value kind → Type 0
AlikeAs one_table x y = x ≡ y
AlikeAs tables x y = x ≡ y
AlikeAs number x y = x ≡ y
AlikeAs numbers x y = x ≡ y
AlikeAs truth x y = x ≡ y
AlikeAs text x y = x ≡ y
AlikeAs node x y = Unit {0}
AlikeAs process x y = Unit {0}
AlikeAs processes x y = Unit {0}

module _ (place : Place) (a b : KnownNames) (nodes : KnowSame a.nodes b.nodes) (of_processes : KnowSame a.processes b.processes) where
  alike_value : (key : Key) (kind : Kind) (d : Data) → AreAlike (AlikeAs kind) (value_of place key a kind d) (value_of place key b kind d)
  alike_value key one_table d = alike_self (AlikeAs one_table) (value_of place key a one_table d) (λ x. refl)
  alike_value key tables d = alike_self (AlikeAs tables) (value_of place key a tables d) (λ x. refl)
  alike_value key number d = alike_self (AlikeAs number) (value_of place key a number d) (λ x. refl)
  alike_value key numbers d = alike_self (AlikeAs numbers) (value_of place key a numbers d) (λ x. refl)
  alike_value key truth d = alike_self (AlikeAs truth) (value_of place key a truth d) (λ x. refl)
  alike_value key text d = alike_self (AlikeAs text) (value_of place key a text d) (λ x. refl)
  alike_value key node d = alike_index place key a.nodes b.nodes nodes d
  alike_value key process d = alike_index place key a.processes b.processes of_processes d
  alike_value key processes d = alike_indices place key a.processes b.processes of_processes d

  same_value : (kind : Kind) (x : Value kind) → AlikeAs kind x x
  same_value one_table x = refl
  same_value tables x = refl
  same_value number x = refl
  same_value numbers x = refl
  same_value truth x = refl
  same_value text x = refl
  same_value node x = tt
  same_value process x = tt
  same_value processes x = tt

  alike_there : (key : Key) (kind : Kind) (default : Option (Value kind)) (value : Option Data)
      → AreAlike (AlikeAs kind) (found place key (value_of place key a kind) default value) (found place key (value_of place key b kind) default value)
  alike_there key kind default (Some d) = alike_value key kind d
  alike_there key kind (Some x) None = same_value kind x
  alike_there key kind None None = refl

  alike_row : (ms : Members) (r : KeyRow) → AreAlike (AlikeAs r.kind) (at_row place a ms r) (at_row place b ms r)
  alike_row ms r = alike_there r.key r.kind r.default _

  -- what is made of alike values is alike
  abbrev MakesAlike : {A : Type 0} → (A → A → Type 0) → (rs : List KeyRow) → Making A rs → Making A rs → Type 0
  MakesAlike R [] x y = R x y
  MakesAlike R (r ∷ rs) f g = (x y : Value r.kind) → AlikeAs r.kind x y → MakesAlike R rs (f x) (g y)

  alike_in_turn : {A : Type 0} (R : A → A → Type 0) (ms : Members) (rs : List KeyRow) (f g : Making A rs) → MakesAlike R rs f g
      → AreAlike R (in_turn place a ms rs f) (in_turn place b ms rs g)
  alike_in_turn R ms [] f g makes = makes
  alike_in_turn R ms (r ∷ rs) f g makes =
      alike_then (AlikeAs r.kind) R (at_row place a ms r) (at_row place b ms r) (λ value. in_turn place a ms rs (f value)) (λ value. in_turn place b ms rs (g value))
      (alike_row ms r) (λ x y one. alike_in_turn R ms rs (f x) (g y) (makes x y one))

  alike_table : {A : Type 0} (R : A → A → Type 0) (make : Making A (rows place)) → MakesAlike R (rows place) make make → (ms : Members)
      → AreAlike R (table_at place a make ms) (table_at place b make ms)
  alike_table R make makes ms =
      alike_if R (has_only (keys_at place) ms) (in_turn place a ms (rows place) make) (in_turn place b ms (rows place) make) (UnknownKey place)
      (alike_in_turn R ms (rows place) make make makes)

-- ---- lists of tables

abbrev pub no_part : {A : Type 0} → A → Unit {0}
no_part x = tt

unknown : KnowSame (λ _. None) (λ _. None)
unknown name = tt

module _ (f g : Index) (same : KnowSame f g) where
  alike_processes : (ts : List Members) → AreAlike (Same (map (λ (p : Process). p.name))) (processes_of f ts) (processes_of g ts)
  alike_processes ts =
      alike_each (λ (p : Process). p.name) (process_of f) (process_of g)
      (λ n ms. alike_table (at.Process n) (knows_nodes f) (knows_nodes g) same unknown (Same (λ (p : Process). p.name)) the_process
      (λ name other named node at any wcet w is_w release r is_r deadline d is_d. named) ms) 0 ts

  alike_links : (ts : List Members) → AreAlike (Same (map (λ (l : Link). no_part l))) (links_of f ts) (links_of g ts)
  alike_links ts =
      alike_each (λ (l : Link). no_part l) (link_of f) (link_of g)
      (λ n ms. alike_table (at.Link n) (knows_processes f) (knows_processes g) unknown same (Same (λ (l : Link). no_part l)) the_link
      (λ from f_other any to t_other any_too. refl) ms) 0 ts

  alike_messages : (ts : List Members) → AreAlike (Same (map (λ (m : Message). no_part m))) (messages_of f ts) (messages_of g ts)
  alike_messages ts =
      alike_each (λ (m : Message). no_part m) (message_of f) (message_of g)
      (λ n ms. alike_table (at.Message n) (knows_processes f) (knows_processes g) unknown same (Same (λ (m : Message). no_part m)) the_message
      (λ name other named from f_other any to t_other any_too bytes b is_b both twice is_both. refl) ms) 0 ts

-- ---- whole texts

-- the lists of two instances are as long
pub record HaveLengths (i j : Instance) : Type 0 where
  pub nodes : length i.nodes ≡ length j.nodes
  pub processes : length i.processes ≡ length j.processes
  pub links : length i.links ≡ length j.links
  pub messages : length i.messages ≡ length j.messages

as_long : {A B : Type 0} (part : A → B) (xs ys : List A) → map part xs ≡ map part ys → length xs ≡ length ys
as_long part xs ys same = sym (length-map xs part) ∙ ap length same ∙ length-map ys part

module _ (h k : List (List ℕ) → Index) (know : (names : List (List ℕ)) → KnowSame (h names) (k names)) where
  pub alike_stated : (ms : Members) → AreAlike HaveLengths (stated_by h ms) (stated_by k ms)
  alike_stated ms =
      alike_after HaveLengths (stated_tables ms) _ _ (λ tables.
      alike_after HaveLengths (cluster_of tables.cluster) _ _ (λ cluster.
      alike_after HaveLengths (nodes_of tables.nodes) _ _ (λ nodes.
      alike_then (Same (map (λ (p : Process). p.name))) HaveLengths (processes_of (h (node_names nodes)) tables.processes) (processes_of (k (node_names nodes)) tables.processes) _ _
      (alike_processes (h (node_names nodes)) (k (node_names nodes)) (know (node_names nodes)) tables.processes) (λ ps qs same.
      let known : KnowSame (h (process_names ps)) (k (process_names qs)) = subst (λ (names : List (List ℕ)). KnowSame (h (process_names ps)) (k names)) same (know (process_names ps)) in
      alike_then (Same (map (λ (l : Link). no_part l))) HaveLengths (links_of (h (process_names ps)) tables.links) (links_of (k (process_names qs)) tables.links) _ _
      (alike_links (h (process_names ps)) (k (process_names qs)) known tables.links) (λ ls ns as_many.
      alike_then (Same (map (λ (m : Message). no_part m))) HaveLengths (messages_of (h (process_names ps)) tables.messages) (messages_of (k (process_names qs)) tables.messages) _ _
      (alike_messages (h (process_names ps)) (k (process_names qs)) known tables.messages) (λ ms others as_many_too.
      record {
        nodes = refl;
        processes = as_long (λ (p : Process). p.name) ps qs same;
        links = as_long (λ (l : Link). no_part l) ls ns as_many;
        messages = as_long (λ (m : Message). no_part m) ms others as_many_too;
      }))))))

  -- where both read names alike, they state one instance
  pub stated_alike : (ms : Members) (i : Instance) → stated_by h ms ≡ Ok i → h (node_names i.nodes) ≡ k (node_names i.nodes) → h (process_names i.processes) ≡ k (process_names i.processes) → stated_by k ms ≡ Ok i
  stated_alike ms i e at_nodes at_processes =
      let tables = then_ok (stated_tables ms) _ i e in
      let cluster = then_ok (cluster_of tables.0.cluster) _ i tables.2 in
      let nodes = then_ok (nodes_of tables.0.nodes) _ i cluster.2 in
      let processes = then_ok (processes_of (h (node_names nodes.0)) tables.0.processes) _ i nodes.2 in
      let links = then_ok (links_of (h (process_names processes.0)) tables.0.links) _ i processes.2 in
      let messages = then_ok (messages_of (h (process_names processes.0)) tables.0.messages) _ i links.2 in
      let is : instance_with cluster.0 nodes.0 processes.0 links.0 messages.0 ≡ i = is_ok (instance_with cluster.0 nodes.0 processes.0 links.0 messages.0) i messages.2 in
      let by_nodes : h (node_names nodes.0) ≡ k (node_names nodes.0) = let P : Instance → Type 0 = λ j. h (node_names j.nodes) ≡ k (node_names j.nodes) in subst P (sym is) at_nodes in
      let by_processes : h (process_names processes.0) ≡ k (process_names processes.0) = let P : Instance → Type 0 = λ j. h (process_names j.processes) ≡ k (process_names j.processes) in subst P (sym is) at_processes in
      stated-tables k ms tables.0 tables.1
      ∙ stated-all k tables.0 cluster.0 nodes.0 (sym cluster.1) nodes.1
      processes.0 (h (process_names processes.0)) (ap (λ (index : Index). processes_of index tables.0.processes) (sym by_nodes) ∙ processes.1) by_processes links.0 links.1 messages.0 messages.1
      ∙ ap (λ (j : Instance). Ok j) is

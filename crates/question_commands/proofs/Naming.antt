-- Words by their indices, and the processes that they name.
use Rattle.std.proofs.Common.{◌≡◌, ◌∙◌, ℕ, ◌<◌, List, [], Option, None, Some, length, slice_index, slice_index_or, All, arith, ap, sym, subst}
use Rattle.std.specs.Prelude.{MatchOption, bytes_eq, is_none}
use Rattle.std.specs.Borrow.{Bor}
use Rattle.std.proofs.lemmas.List.{get_or-map, length-map}
use Rattle.std.proofs.lemmas.List.Quantifiers.{position-Some}
use Rattle.std.proofs.lemmas.Slice.Eq.{bytes_eq-Decides}
use Rattle.std.proofs.lemmas.Grind.{get_or_default_zero}
use Rattle.ttp_model.specs.declared.error.Part.TheVariants.{Processes}
use Rattle.ttp_model.specs.Lists.{EachBelow, IsFirstFailure}
use Rattle.ttp_model.specs.Instance.{Instance, no_process}
use Rattle.ttp_model.specs.Names.{index_named, names_in}
use Rattle.ttp_model.specs.Rules.{IsProcess}
use Rattle.ttp_model.proofs.Named.{is_found}
use Rattle.question_commands.specs.Names.{AreNamed, HasName, IsFirst, NamesAnother, texts_of, word_at}

-- the word that is read at an index
pub word_is : (words : List (Bor (List ℕ))) (k : ℕ) (d : Bor (List ℕ)) → k < length words → word_at (texts_of words) k ≡ (slice_index_or words k d).now
word_is words k d inside = get_or-map (λ (word : Bor (List ℕ)). word.now) words k d [] inside

-- and one before it
pub earlier_word_is : (words : List (Bor (List ℕ))) (j k : ℕ) (d : Bor (List ℕ)) → j < k → k < length words
    → word_at (texts_of words) j ≡ (slice_index_or words j d).now
earlier_word_is words j k d before inside = word_is words j d (omega arith)

-- as many words as there are
pub count_is : (words : List (Bor (List ℕ))) → length (texts_of words) ≡ length words
count_is words = length-map words (λ word. word.now)

-- processes that are named are there
pub named_there : (i : Instance) (words : List (List ℕ)) (ps : List ℕ) → AreNamed i words ps → All (IsProcess i) ps
named_there i words ps named k e h =
    subst (IsProcess i) (sym (get_or_default_zero ps k e h)) (named.each k (omega (arith, h, named.all))).there

-- the words before this one name processes, and this one doesn't
pub first_wrong : (i : Instance) (words : List (List ℕ)) (ps : List ℕ) (k : ℕ) → k < length words
    → EachBelow k (λ j. HasName i (word_at words j) (slice_index ps j)) → EachBelow k (IsFirst words) → ¬ NamesAnother i words k
    → IsFirstFailure (length words) (NamesAnother i words) k
first_wrong i words ps k inside each once fails = record {
  within = inside;
  fails = fails;
  holds_before = λ j before. record { process = slice_index ps j; has = each j before; first = once j before };
}

-- the first process of a name has it, and where there is no first none has
pub told_by : (i : Instance) (name : List ℕ) (first : Option ℕ) → first ≡ index_named i Processes name
    → MatchOption first (EachBelow (length i.processes) (λ p. ¬ HasName i name p)) (HasName i name)
told_by i name None is = λ p inside has.
    let there : p < length (names_in i Processes) = omega (arith, inside, length-map i.processes (λ q. q.name)) in
    let named = get_or-map (λ q. q.name) i.processes p no_process name inside ∙ has.same in
    absurd (cc (ap is_none is, is_found (names_in i Processes) name (p, there, named)))
told_by i name (Some p) is =
    let found = position-Some (λ n. bytes_eq n name) (names_in i Processes) p name (sym is) in
    let inside : p < length i.processes = omega (arith, found.0, length-map i.processes (λ q. q.name)) in
    record {
      there = inside;
      same = sym (get_or-map (λ q. q.name) i.processes p no_process name inside) ∙ (bytes_eq-Decides _ _).0 found.1;
    }

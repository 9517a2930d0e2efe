-- Processes that words mean are there, and there are some.
use Rattle.std.proofs.Common.{◌≡◌, ◌∙◌, ℕ, ◌+◌, ◌<◌, ◌≤◌, List, [], ◌∷◌, ◌++◌, ap, length, All, arith, sym}
use Rattle.std.specs.Borrow.{Bor}
use Rattle.std.specs.List.{range_with_len}
use Rattle.std.proofs.lemmas.List.FromFn.{get_or-range_with_len, length-range_with_len, map-range_with_len_more}
use Rattle.std.proofs.lemmas.List.{map-id}
use Rattle.ttp_model.specs.Instance.{Instance}
use Rattle.ttp_model.specs.Rules.{IsInstance, IsProcess}
use Rattle.question_commands.specs.Names.{AreNamed, texts_of}
use Rattle.question_commands.specs.Margins.{AreMeant}
use Rattle.question_commands.proofs.Naming.{named_there}

-- one number more
pub range_more : (n : ℕ) → range_with_len 0 (n + 1) ≡ range_with_len 0 n ++ n ∷ []
range_more n =
    let more = map-range_with_len_more (λ (k : ℕ). k) 0 n n (omega arith) in
    sym (map-id (range_with_len 0 (n + 1))) ∙ more ∙ ap (λ (all : List ℕ). all ++ n ∷ []) (map-id (range_with_len 0 n))

-- each number below a count is one
range_below : (n : ℕ) → All (λ p. p < n) (range_with_len 0 n)
range_below n k e h =
    let inside : k < n = omega (arith, h, length-range_with_len 0 n) in
    omega (arith, get_or-range_with_len 0 n k e inside, inside)

pub meant_there : (i : Instance) (words : List (List ℕ)) (ps : List ℕ) → AreMeant i words ps → All (IsProcess i) ps
meant_there i [] ps is = rw is (range_below (length i.processes))
meant_there i (word ∷ words) ps is = named_there i (word ∷ words) ps is

pub meant_some : (i : Instance) (words : List (List ℕ)) (ps : List ℕ) → IsInstance i → AreMeant i words ps → 1 ≤ length ps
meant_some i [] ps w is = rw is (omega (arith, w.limits.processes_least, length-range_with_len 0 (length i.processes)))
meant_some i (word ∷ words) ps w is = omega (arith, is.all)

-- where there are no words all are meant, and else those that are named
pub meant_all : (i : Instance) (words : List (Bor (List ℕ))) (ps : List ℕ) → length words ≡ 0 → ps ≡ range_with_len 0 (length i.processes)
    → AreMeant i (texts_of words) ps
meant_all i [] ps none is = is
meant_all i (word ∷ words) ps none is = absurd (omega (arith, none))

pub meant_named : (i : Instance) (words : List (Bor (List ℕ))) (ps : List ℕ) → 1 ≤ length words → AreNamed i (texts_of words) ps
    → AreMeant i (texts_of words) ps
meant_named i [] ps some is = absurd (omega (arith, some))
meant_named i (word ∷ words) ps some is = is

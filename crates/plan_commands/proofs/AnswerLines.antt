-- A line in front of a printed plan is cut into its words again, so a line that isn't cut so is none; and bytes begin in one way.
use Rattle.std.proofs.Common.{◌≡◌, ◌≢◌, ◌∙◌, ℕ, ◌<◌, ◌≤◌, List, [], ◌∷◌, ◌++◌, length, Option, None, Some, MatchOption, codes, refl, sym, ap, subst, arith, inl, inr, lit<}
use Rattle.std.specs.Prelude.{slice_index_or}
use Rattle.std.proofs.lemmas.Fmt.{length-decimal-le}
use Rattle.std.proofs.lemmas.List.{length-append}
use Rattle.line_text.specs.Parts.{Lacks, after_keyword, cut}
use Rattle.line_text.specs.Numbers.{number_word}
use Rattle.line_text.specs.declared.number.NumberWord.{NumberWord}
use Rattle.line_text.specs.declared.number.NumberWord.TheVariants.{Malformed, Number}
use Rattle.line_text.proofs.Cuts.{Lacks-append, Lacks-from_test, after_again, after_takes, cut_again, cut_takes}
use Rattle.line_text.proofs.Digits.{decimal_lacks, number_again}
use Rattle.plan_commands.specs.declared.front.Front.{Front}
use Rattle.plan_commands.specs.declared.front.Front.TheVariants.{Plan, Headed, Bare, NoPlan}
use Rattle.plan_commands.specs.Fronts.{AreBounds, AreStopped, BeginsAnswer, BeginsWith, IsAnswerLine, IsBestWord, IsEnd, IsLineOf, IsNumber, IsWhyWord, longest_answer_line, no_plan_text}

-- ---- what was found, and that something was

none_some : {A : Type 0} (x : A) (o : Option A) → None ≡ o → o ≡ Some x → ⊥
none_some x o none some = cc

some_once : {A : Type 0} (x y : A) (o : Option A) → Some x ≡ o → o ≡ Some y → x ≡ y
some_once x y o first second = cc

-- ---- the words lack the bytes behind them

why_lacks_space : (word : List ℕ) → IsWhyWord word → Lacks 32 word
why_lacks_space word (inl budget) = subst (Lacks 32) (sym budget) (Lacks-from_test 32 (codes "budget") refl)
why_lacks_space word (inr (inl memory)) = subst (Lacks 32) (sym memory) (Lacks-from_test 32 (codes "memory") refl)
why_lacks_space word (inr (inr (inl enough))) = subst (Lacks 32) (sym enough) (Lacks-from_test 32 (codes "until") refl)
why_lacks_space word (inr (inr (inr (inl over)))) = subst (Lacks 32) (sym over) (Lacks-from_test 32 (codes "time") refl)
why_lacks_space word (inr (inr (inr (inr (inl near))))) = subst (Lacks 32) (sym near) (Lacks-from_test 32 (codes "gap") refl)
why_lacks_space word (inr (inr (inr (inr (inr own))))) = subst (Lacks 32) (sym own) (Lacks-from_test 32 (codes "part") refl)

why_lacks_end : (word : List ℕ) → IsWhyWord word → Lacks 10 word
why_lacks_end word (inl budget) = subst (Lacks 10) (sym budget) (Lacks-from_test 10 (codes "budget") refl)
why_lacks_end word (inr (inl memory)) = subst (Lacks 10) (sym memory) (Lacks-from_test 10 (codes "memory") refl)
why_lacks_end word (inr (inr (inl enough))) = subst (Lacks 10) (sym enough) (Lacks-from_test 10 (codes "until") refl)
why_lacks_end word (inr (inr (inr (inl over)))) = subst (Lacks 10) (sym over) (Lacks-from_test 10 (codes "time") refl)
why_lacks_end word (inr (inr (inr (inr (inl near))))) = subst (Lacks 10) (sym near) (Lacks-from_test 10 (codes "gap") refl)
why_lacks_end word (inr (inr (inr (inr (inr own))))) = subst (Lacks 10) (sym own) (Lacks-from_test 10 (codes "part") refl)

number_lacks : (byte : ℕ) (word : List ℕ) → byte < 48 → IsNumber word → Lacks byte word
number_lacks byte word below is = subst (Lacks byte) (sym is.1) (decimal_lacks byte is.0 below (omega (arith, is.2)))

best_lacks_end : (front : Front) (word : List ℕ) → IsBestWord front word → Lacks 10 word
best_lacks_end Plan word is = absurd is
best_lacks_end Headed word is = number_lacks 10 word (lit< tt) is
best_lacks_end Bare word is = subst (Lacks 10) (sym is) (Lacks-from_test 10 (codes "none") refl)
best_lacks_end NoPlan word is = absurd is

tick_lacks_end : (word : List ℕ) (front : Front) → IsEnd word front → Lacks 10 word
tick_lacks_end word Plan is = absurd is
tick_lacks_end word Headed is = number_lacks 10 word (lit< tt) is
tick_lacks_end word Bare is = absurd is
tick_lacks_end word NoPlan is = absurd is

-- two words parted by a space
two_lack_end : (first second : List ℕ) → Lacks 10 first → Lacks 10 second → Lacks 10 (first ++ 32 ∷ second)
two_lack_end first second here there =
    Lacks-append 10 first (32 ∷ second) here (Lacks-append 10 (32 ∷ []) second (Lacks-from_test 10 (32 ∷ []) refl) there)

bounds_lack_end : (words : List ℕ) (front : Front) → AreBounds words front → Lacks 10 words
bounds_lack_end words front is =
    subst (Lacks 10) (sym is.are) (two_lack_end is.low is.best (number_lacks 10 is.low (lit< tt) is.is_low) (best_lacks_end front is.best is.is_best))

stopped_lack_end : (words : List ℕ) (front : Front) → AreStopped words front → Lacks 10 words
stopped_lack_end words front is =
    subst (Lacks 10) (sym is.are) (two_lack_end is.why is.rest (why_lacks_end is.why is.is_why) (bounds_lack_end is.rest front is.bounds))

line_lacks_end : (keyword : List ℕ) (Are : List ℕ → Front → Type 0) → Lacks 10 keyword → ((words : List ℕ) (front : Front) → Are words front → Lacks 10 words)
    → (line : List ℕ) (front : Front) → IsLineOf keyword Are line front → Lacks 10 line
line_lacks_end keyword Are here each line front is =
    subst (Lacks 10) (sym is.line_is) (Lacks-append 10 keyword is.words here (each is.words front is.are))

-- its end is the first byte of that kind
lacks_end : (line : List ℕ) (front : Front) → IsAnswerLine line front → Lacks 10 line
lacks_end line front (inl stopped) =
    line_lacks_end (codes "stopped ") AreStopped (Lacks-from_test 10 (codes "stopped ") refl) stopped_lack_end line front stopped
lacks_end line front (inr (inl between)) =
    line_lacks_end (codes "between ") AreBounds (Lacks-from_test 10 (codes "between ") refl) bounds_lack_end line front between
lacks_end line front (inr (inr limit)) =
    line_lacks_end (codes "limit ") IsEnd (Lacks-from_test 10 (codes "limit ") refl) tick_lacks_end line front limit

-- ---- words, cut

bounds_cut : (words : List ℕ) (front : Front) (is : AreBounds words front) → cut 32 words ≡ Some (is.low, is.best)
bounds_cut words front is = ap (cut 32) is.are ∙ cut_again 32 is.low is.best (number_lacks 32 is.low (lit< tt) is.is_low)

stopped_cut : (words : List ℕ) (front : Front) (is : AreStopped words front) → cut 32 words ≡ Some (is.why, is.rest)
stopped_cut words front is = ap (cut 32) is.are ∙ cut_again 32 is.why is.rest (why_lacks_space is.why is.is_why)

pub no_bounds : (words : List ℕ) → None ≡ cut 32 words → (front : Front) → ¬ AreBounds words front
no_bounds words none front is = none_some _ _ none (bounds_cut words front is)

pub no_stopped : (words : List ℕ) → None ≡ cut 32 words → (front : Front) → ¬ AreStopped words front
no_stopped words none front is = none_some _ _ none (stopped_cut words front is)

module _ (words first second : List ℕ) (cuts : Some (first, second) ≡ cut 32 words) where
  bounds_are : (front : Front) (is : AreBounds words front) → ◌≡◌ {A = List ℕ × List ℕ} (first, second) (is.low, is.best)
  bounds_are front is = some_once _ _ _ cuts (bounds_cut words front is)

  stopped_are : (front : Front) (is : AreStopped words front) → ◌≡◌ {A = List ℕ × List ℕ} (first, second) (is.why, is.rest)
  stopped_are front is = some_once _ _ _ cuts (stopped_cut words front is)

  joined : words ≡ first ++ 32 ∷ second
  joined = (cut_takes 32 words first second (sym cuts)).0

  pub wrong_low : ¬ IsNumber first → (front : Front) → ¬ AreBounds words front
  wrong_low wrong front is = wrong (subst IsNumber (sym (ap (λ (p : List ℕ × List ℕ). p.0) (bounds_are front is))) is.is_low)

  pub wrong_why : ¬ IsWhyWord first → (front : Front) → ¬ AreStopped words front
  wrong_why wrong front is = wrong (subst IsWhyWord (sym (ap (λ (p : List ℕ × List ℕ). p.0) (stopped_are front is))) is.is_why)

  -- what follows of the second word follows of both
  pub bounds_found : IsNumber first → (o : Option Front) → MatchOption o ((front : Front) → ¬ IsBestWord front second) (λ front. IsBestWord front second)
      → MatchOption o ((front : Front) → ¬ AreBounds words front) (AreBounds words)
  bounds_found is_low None none =
      λ front is. none front (subst (IsBestWord front) (sym (ap (λ (p : List ℕ × List ℕ). p.1) (bounds_are front is))) is.is_best)
  bounds_found is_low (Some front) is = record { low = first; best = second; is_low = is_low; is_best = is; are = joined }

  pub stopped_found : IsWhyWord first → (o : Option Front) → MatchOption o ((front : Front) → ¬ AreBounds second front) (AreBounds second)
      → MatchOption o ((front : Front) → ¬ AreStopped words front) (AreStopped words)
  stopped_found is_why None none =
      λ front is. none front (subst (λ (text : List ℕ). AreBounds text front) (sym (ap (λ (p : List ℕ × List ℕ). p.1) (stopped_are front is))) is.bounds)
  stopped_found is_why (Some front) is = record { why = first; rest = second; is_why = is_why; bounds = is; are = joined }

-- ---- lines, cut behind their keywords

line_cut : (keyword : List ℕ) (Are : List ℕ → Front → Type 0) (line : List ℕ) (front : Front) (is : IsLineOf keyword Are line front)
    → after_keyword keyword line ≡ Some is.words
line_cut keyword Are line front is = ap (after_keyword keyword) is.line_is ∙ after_again keyword is.words

no_line_of : (keyword : List ℕ) (Are : List ℕ → Front → Type 0) (line : List ℕ) → None ≡ after_keyword keyword line → (front : Front)
    → ¬ IsLineOf keyword Are line front
no_line_of keyword Are line none front is = none_some _ _ none (line_cut keyword Are line front is)

-- a line begins with one byte
first_byte : (line : List ℕ) (a b : ℕ) (x y : List ℕ) → line ≡ a ∷ x → line ≡ b ∷ y → a ≡ b
first_byte line a b x y one other = ap (λ (text : List ℕ). slice_index_or text 0 0) (sym one ∙ other)

-- what follows of the words behind a keyword follows of the line, where the line isn't one of another keyword
module _ (keyword : List ℕ) (Are : List ℕ → Front → Type 0) (line words : List ℕ) (cuts : Some words ≡ after_keyword keyword line) where
  line_is : line ≡ keyword ++ words
  line_is = after_takes keyword line words (sym cuts)

  words_are : (front : Front) (is : IsLineOf keyword Are line front) → words ≡ is.words
  words_are front is = some_once _ _ _ cuts (line_cut keyword Are line front is)

  not_words : ((front : Front) → ¬ Are words front) → (front : Front) → ¬ IsLineOf keyword Are line front
  not_words none front is = none front (subst (λ (text : List ℕ). Are text front) (sym (words_are front is)) is.are)

  line_of_words : (front : Front) → Are words front → IsLineOf keyword Are line front
  line_of_words front are = record { words = words; are = are; line_is = line_is }

module _ (line : List ℕ) where
  stopped_byte : (words : List ℕ) → Some words ≡ after_keyword (codes "stopped ") line → (x : List ℕ) (a : ℕ) → line ≡ a ∷ x → 115 ≡ a
  stopped_byte words cuts x a other = first_byte line 115 a _ x (line_is (codes "stopped ") AreStopped line words cuts) other

  between_byte : (words : List ℕ) → Some words ≡ after_keyword (codes "between ") line → (x : List ℕ) (a : ℕ) → line ≡ a ∷ x → 98 ≡ a
  between_byte words cuts x a other = first_byte line 98 a _ x (line_is (codes "between ") AreBounds line words cuts) other

  limit_byte : (words : List ℕ) → Some words ≡ after_keyword (codes "limit ") line → (x : List ℕ) (a : ℕ) → line ≡ a ∷ x → 108 ≡ a
  limit_byte words cuts x a other = first_byte line 108 a _ x (line_is (codes "limit ") IsEnd line words cuts) other

  pub line_of_stopped : (words : List ℕ) → Some words ≡ after_keyword (codes "stopped ") line
      → (o : Option Front) → MatchOption o ((front : Front) → ¬ AreStopped words front) (AreStopped words)
      → MatchOption o ((front : Front) → ¬ IsAnswerLine line front) (IsAnswerLine line)
  line_of_stopped words cuts (Some front) are = inl (line_of_words (codes "stopped ") AreStopped line words cuts front are)
  line_of_stopped words cuts None none = λ front is. elim is [
    | inl stopped ↦ not_words (codes "stopped ") AreStopped line words cuts none front stopped
    | inr (inl between) ↦ (let same : 115 ≡ 98 = stopped_byte words cuts _ 98 between.line_is in omega (arith, same))
    | inr (inr limit) ↦ (let same : 115 ≡ 108 = stopped_byte words cuts _ 108 limit.line_is in omega (arith, same))
  ]

  pub line_of_between : (words : List ℕ) → Some words ≡ after_keyword (codes "between ") line
      → (o : Option Front) → MatchOption o ((front : Front) → ¬ AreBounds words front) (AreBounds words)
      → MatchOption o ((front : Front) → ¬ IsAnswerLine line front) (IsAnswerLine line)
  line_of_between words cuts (Some front) are = inr (inl (line_of_words (codes "between ") AreBounds line words cuts front are))
  line_of_between words cuts None none = λ front is. elim is [
    | inl stopped ↦ (let same : 98 ≡ 115 = between_byte words cuts _ 115 stopped.line_is in omega (arith, same))
    | inr (inl between) ↦ not_words (codes "between ") AreBounds line words cuts none front between
    | inr (inr limit) ↦ (let same : 98 ≡ 108 = between_byte words cuts _ 108 limit.line_is in omega (arith, same))
  ]

  pub line_of_limit : (words : List ℕ) → Some words ≡ after_keyword (codes "limit ") line
      → (o : Option Front) → MatchOption o ((front : Front) → ¬ IsEnd words front) (IsEnd words)
      → MatchOption o ((front : Front) → ¬ IsAnswerLine line front) (IsAnswerLine line)
  line_of_limit words cuts (Some front) are = inr (inr (line_of_words (codes "limit ") IsEnd line words cuts front are))
  line_of_limit words cuts None none = λ front is. elim is [
    | inl stopped ↦ (let same : 108 ≡ 115 = limit_byte words cuts _ 115 stopped.line_is in omega (arith, same))
    | inr (inl between) ↦ (let same : 108 ≡ 98 = limit_byte words cuts _ 98 between.line_is in omega (arith, same))
    | inr (inr limit) ↦ not_words (codes "limit ") IsEnd line words cuts none front limit
  ]

  pub line_of_none : None ≡ after_keyword (codes "stopped ") line → None ≡ after_keyword (codes "between ") line
      → None ≡ after_keyword (codes "limit ") line → (front : Front) → ¬ IsAnswerLine line front
  line_of_none stopped between limit front (inl is) = no_line_of (codes "stopped ") AreStopped line stopped front is
  line_of_none stopped between limit front (inr (inl is)) = no_line_of (codes "between ") AreBounds line between front is
  line_of_none stopped between limit front (inr (inr is)) = no_line_of (codes "limit ") IsEnd line limit front is

-- ---- how bytes begin

ends_at : (bytes rest : List ℕ) (front : Front) (is : BeginsAnswer bytes front rest) → cut 10 bytes ≡ Some (is.line, rest)
ends_at bytes rest front is = ap (cut 10) is.bytes_are ∙ cut_again 10 is.line rest (lacks_end is.line front is.is)

none_ends : cut 10 no_plan_text ≡ Some (codes "none", [])
none_ends = cut_again 10 (codes "none") [] (Lacks-from_test 10 (codes "none") refl)

pub no_end : (bytes : List ℕ) → None ≡ cut 10 bytes → (front : Front) (rest : List ℕ) → ¬ BeginsAnswer bytes front rest
no_end bytes none front rest is = none_some _ _ none (ends_at bytes rest front is)

-- bytes whose line is none in front of a plan
pub no_line : (bytes line rest : List ℕ) → Some (line, rest) ≡ cut 10 bytes → ((front : Front) → ¬ IsAnswerLine line front)
    → (front : Front) (behind : List ℕ) → ¬ BeginsAnswer bytes front behind
no_line bytes line rest cuts wrong front behind is =
    let same = some_once _ _ _ cuts (ends_at bytes behind front is) in
    wrong front (subst (λ (text : List ℕ). IsAnswerLine text front) (sym (ap (λ (p : List ℕ × List ℕ). p.0) same)) is.is)

-- ---- a line says one thing

-- a word that isn't read as a number is none
pub no_number : (word : List ℕ) (read : NumberWord) → read ≡ number_word word → ((n : ℕ) → read ≢ Number n) → ¬ IsNumber word
no_number word read is other number = other number.0 (is ∙ ap number_word number.1 ∙ number_again number.0 number.2)

none_is_no_number : ¬ IsNumber (codes "none")
unfolding number_word
none_is_no_number is =
    let read : Malformed ≡ Number is.0 = ap number_word is.1 ∙ number_again is.0 is.2 in
    cc

-- a line has a plan behind it, or has none
abbrev IsOfLine : Front → Type 0
IsOfLine Plan = ⊥
IsOfLine Headed = Unit {0}
IsOfLine Bare = Unit {0}
IsOfLine NoPlan = ⊥

best_of_line : (front : Front) (word : List ℕ) → IsBestWord front word → IsOfLine front
best_of_line Plan word is = is
best_of_line Headed word is = tt
best_of_line Bare word is = tt
best_of_line NoPlan word is = is

end_of_line : (front : Front) (word : List ℕ) → IsEnd word front → IsOfLine front
end_of_line Plan word is = is
end_of_line Headed word is = tt
end_of_line Bare word is = absurd is
end_of_line NoPlan word is = is

of_line : (line : List ℕ) (front : Front) → IsAnswerLine line front → IsOfLine front
of_line line front (inl stopped) = best_of_line front stopped.are.bounds.best stopped.are.bounds.is_best
of_line line front (inr (inl between)) = best_of_line front between.are.best between.are.is_best
of_line line front (inr (inr limit)) = end_of_line front limit.words limit.are

pub begins_with_line : (bytes line rest : List ℕ) (front : Front) → bytes ≡ line ++ 10 ∷ rest → IsAnswerLine line front → BeginsWith bytes front rest
begins_with_line bytes line rest Plan are is = absurd (of_line line Plan is)
begins_with_line bytes line rest Headed are is = record { line = line; is = is; bytes_are = are }
begins_with_line bytes line rest Bare are is = record { line = line; is = is; bytes_are = are }
begins_with_line bytes line rest NoPlan are is = absurd (of_line line NoPlan is)

best_once : (a b : Front) (word : List ℕ) → IsBestWord a word → IsBestWord b word → a ≡ b
best_once Plan b word first second = absurd first
best_once NoPlan b word first second = absurd first
best_once Headed Plan word first second = absurd second
best_once Headed Headed word first second = refl
best_once Headed Bare word first second = absurd (none_is_no_number (subst IsNumber second first))
best_once Headed NoPlan word first second = absurd second
best_once Bare Plan word first second = absurd second
best_once Bare Headed word first second = absurd (none_is_no_number (subst IsNumber first second))
best_once Bare Bare word first second = refl
best_once Bare NoPlan word first second = absurd second

end_once : (word : List ℕ) (a b : Front) → IsEnd word a → IsEnd word b → a ≡ b
end_once word Plan b first second = absurd first
end_once word Bare b first second = absurd first
end_once word NoPlan b first second = absurd first
end_once word Headed Plan first second = absurd second
end_once word Headed Headed first second = refl
end_once word Headed Bare first second = absurd second
end_once word Headed NoPlan first second = absurd second

bounds_once : (words : List ℕ) (a b : Front) → AreBounds words a → AreBounds words b → a ≡ b
bounds_once words a b first second =
    let same = bounds_are words _ _ (sym (bounds_cut words a first)) b second in
    best_once a b second.best (subst (IsBestWord a) (ap (λ (p : List ℕ × List ℕ). p.1) same) first.is_best) second.is_best

stopped_once : (words : List ℕ) (a b : Front) → AreStopped words a → AreStopped words b → a ≡ b
stopped_once words a b first second =
    let same = stopped_are words _ _ (sym (stopped_cut words a first)) b second in
    bounds_once second.rest a b (subst (λ (text : List ℕ). AreBounds text a) (ap (λ (p : List ℕ × List ℕ). p.1) same) first.bounds) second.bounds

-- lines of one keyword
of_keyword_once : (keyword : List ℕ) (Are : List ℕ → Front → Type 0) → ((words : List ℕ) (a b : Front) → Are words a → Are words b → a ≡ b)
    → (line : List ℕ) (a b : Front) → IsLineOf keyword Are line a → IsLineOf keyword Are line b → a ≡ b
of_keyword_once keyword Are once line a b first second =
    let same = words_are keyword Are line first.words (sym (line_cut keyword Are line a first)) b second in
    once second.words a b (subst (λ (text : List ℕ). Are text a) same first.are) second.are

line_once : (line : List ℕ) (a b : Front) → IsAnswerLine line a → IsAnswerLine line b → a ≡ b
line_once line a b (inl first) (inl second) = of_keyword_once (codes "stopped ") AreStopped stopped_once line a b first second
line_once line a b (inl first) (inr (inl second)) =
    absurd (let same : 115 ≡ 98 = first_byte line 115 98 _ _ first.line_is second.line_is in omega (arith, same))
line_once line a b (inl first) (inr (inr second)) =
    absurd (let same : 115 ≡ 108 = first_byte line 115 108 _ _ first.line_is second.line_is in omega (arith, same))
line_once line a b (inr (inl first)) (inl second) =
    absurd (let same : 98 ≡ 115 = first_byte line 98 115 _ _ first.line_is second.line_is in omega (arith, same))
line_once line a b (inr (inl first)) (inr (inl second)) = of_keyword_once (codes "between ") AreBounds bounds_once line a b first second
line_once line a b (inr (inl first)) (inr (inr second)) =
    absurd (let same : 98 ≡ 108 = first_byte line 98 108 _ _ first.line_is second.line_is in omega (arith, same))
line_once line a b (inr (inr first)) (inl second) =
    absurd (let same : 108 ≡ 115 = first_byte line 108 115 _ _ first.line_is second.line_is in omega (arith, same))
line_once line a b (inr (inr first)) (inr (inl second)) =
    absurd (let same : 108 ≡ 98 = first_byte line 108 98 _ _ first.line_is second.line_is in omega (arith, same))
line_once line a b (inr (inr first)) (inr (inr second)) = of_keyword_once (codes "limit ") IsEnd end_once line a b first second

answer_once : (bytes : List ℕ) (a b : Front) (x y : List ℕ) → BeginsAnswer bytes a x → BeginsAnswer bytes b y → (a ≡ b) × (x ≡ y)
answer_once bytes a b x y first second =
    let same = some_once _ _ _ (sym (ends_at bytes x a first)) (ends_at bytes y b second) in
    let line : first.line ≡ second.line = ap (λ (p : List ℕ × List ℕ). p.0) same in
    (line_once second.line a b (subst (λ (text : List ℕ). IsAnswerLine text a) line first.is) second.is, ap (λ (p : List ℕ × List ℕ). p.1) same)

none_is_no_line : (front : Front) → ¬ IsAnswerLine (codes "none") front
unfolding after_keyword
none_is_no_line front (inl is) = none_some _ _ refl (line_cut (codes "stopped ") AreStopped (codes "none") front is)
none_is_no_line front (inr (inl is)) = none_some _ _ refl (line_cut (codes "between ") AreBounds (codes "none") front is)
none_is_no_line front (inr (inr is)) = none_some _ _ refl (line_cut (codes "limit ") IsEnd (codes "none") front is)

-- the word that no plan is valid begins with no such line
word_is_no_line : (bytes : List ℕ) (front : Front) (rest : List ℕ) → bytes ≡ no_plan_text → ¬ BeginsAnswer bytes front rest
word_is_no_line bytes front rest word is =
    let same = some_once _ _ _ (sym none_ends) (ap (cut 10) (sym word) ∙ ends_at bytes rest front is) in
    none_is_no_line front (subst (λ (text : List ℕ). IsAnswerLine text front) (sym (ap (λ (p : List ℕ × List ℕ). p.0) same)) is.is)

-- ---- bytes begin in one way

begins_plan_once : (bytes : List ℕ) (b : Front) (x y : List ℕ) → BeginsWith bytes Plan x → BeginsWith bytes b y → (Plan ≡ b) × (x ≡ y)
begins_plan_once bytes Plan x y first second = (refl, first.0 ∙ sym second.0)
begins_plan_once bytes Headed x y first second = absurd (first.1.1 Headed y second)
begins_plan_once bytes Bare x y first second = absurd (first.1.1 Bare y second)
begins_plan_once bytes NoPlan x y first second = absurd (first.1.0 second.0)

begins_word_once : (bytes : List ℕ) (b : Front) (x y : List ℕ) → BeginsWith bytes NoPlan x → BeginsWith bytes b y → (NoPlan ≡ b) × (x ≡ y)
begins_word_once bytes Plan x y first second = absurd (second.1.0 first.0)
begins_word_once bytes Headed x y first second = absurd (word_is_no_line bytes Headed y first.0 second)
begins_word_once bytes Bare x y first second = absurd (word_is_no_line bytes Bare y first.0 second)
begins_word_once bytes NoPlan x y first second = (refl, first.1 ∙ sym second.1)

begins_answer_once : (bytes : List ℕ) (a b : Front) (x y : List ℕ) → BeginsAnswer bytes a x → BeginsWith bytes b y → (a ≡ b) × (x ≡ y)
begins_answer_once bytes a Plan x y first second = absurd (second.1.1 a x first)
begins_answer_once bytes a Headed x y first second = answer_once bytes a Headed x y first second
begins_answer_once bytes a Bare x y first second = answer_once bytes a Bare x y first second
begins_answer_once bytes a NoPlan x y first second = absurd (word_is_no_line bytes a x second.0 first)

pub begins_once : (bytes : List ℕ) (a b : Front) (x y : List ℕ) → BeginsWith bytes a x → BeginsWith bytes b y → (a ≡ b) × (x ≡ y)
begins_once bytes Plan b x y first second = begins_plan_once bytes b x y first second
begins_once bytes Headed b x y first second = begins_answer_once bytes Headed b x y first second
begins_once bytes Bare b x y first second = begins_answer_once bytes Bare b x y first second
begins_once bytes NoPlan b x y first second = begins_word_once bytes b x y first second

-- ---- and the line is short

why_length : (word : List ℕ) → IsWhyWord word → length word ≤ 6
why_length word (inl budget) = omega (arith, ap length budget)
why_length word (inr (inl memory)) = omega (arith, ap length memory)
why_length word (inr (inr (inl enough))) = omega (arith, ap length enough)
why_length word (inr (inr (inr (inl over)))) = omega (arith, ap length over)
why_length word (inr (inr (inr (inr (inl near))))) = omega (arith, ap length near)
why_length word (inr (inr (inr (inr (inr own))))) = omega (arith, ap length own)

number_length : (word : List ℕ) → IsNumber word → length word ≤ 10
number_length word is =
    omega (arith, ap length is.1, length-decimal-le 10 is.0 (lit< tt) (omega (arith, is.2)) (omega (arith, is.2)))

best_length : (front : Front) (word : List ℕ) → IsBestWord front word → length word ≤ 10
best_length Plan word is = absurd is
best_length Headed word is = number_length word is
best_length Bare word is = omega (arith, ap length is)
best_length NoPlan word is = absurd is

tick_length : (word : List ℕ) (front : Front) → IsEnd word front → length word ≤ 10
tick_length word Plan is = absurd is
tick_length word Headed is = number_length word is
tick_length word Bare is = absurd is
tick_length word NoPlan is = absurd is

bounds_length : (words : List ℕ) (front : Front) → AreBounds words front → length words ≤ 21
bounds_length words front is =
    omega (arith, ap length is.are, length-append is.low (32 ∷ is.best), number_length is.low is.is_low, best_length front is.best is.is_best)

stopped_length : (words : List ℕ) (front : Front) → AreStopped words front → length words ≤ 28
stopped_length words front is =
    omega (arith, ap length is.are, length-append is.why (32 ∷ is.rest), why_length is.why is.is_why, bounds_length is.rest front is.bounds)

pub line_length : (line : List ℕ) (front : Front) → IsAnswerLine line front → length line < longest_answer_line
line_length line front (inl is) =
    omega (arith, ap length is.line_is, length-append (codes "stopped ") is.words, stopped_length is.words front is.are)
line_length line front (inr (inl is)) =
    omega (arith, ap length is.line_is, length-append (codes "between ") is.words, bounds_length is.words front is.are)
line_length line front (inr (inr is)) =
    omega (arith, ap length is.line_is, length-append (codes "limit ") is.words, tick_length is.words front is.are)

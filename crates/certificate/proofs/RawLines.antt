-- Lines that weren't read yet: put together, and read as steps.
use Rattle.std.proofs.Common.{◌≡◌, ◌≢◌, ℕ, zero, suc, ◌+◌, ◌-◌, ◌≤◌, ◌<◌, List, [], ◌∷◌, ◌++◌, length, take, drop, slice_range, get_or, Option, true, false, Ok, Err, refl, sym, ap, subst, ◌∙◌, append_assoc, arith}
use Rattle.std.specs.Io.KnownBytes.{Consumes, IsAtEnd}
use Rattle.std.proofs.lemmas.List.{append-nil, take_more, take-append-drop, length-take-le}
use Rattle.std.proofs.lemmas.List.Elements.{All-nil, All-cons}
use Rattle.line_text.specs.Parts.{Lacks}
use Rattle.line_text.specs.Results.{◌>>=◌}
use Rattle.line_text.proofs.Cuts.{Lacks-append}
use Rattle.line_text.proofs.Results.{bind_ok}
use Rattle.ttp_model.specs.declared.step.Step.{Step}
use Rattle.certificate.specs.declared.block.Block.{Block}
use Rattle.certificate.specs.declared.fault.LineFault.TheVariants.{EarlyEnd}
use Rattle.certificate.specs.declared.fault.CertTextError.TheVariants.{At}
use Rattle.certificate.specs.Words.{step_words, steps_with}
use Rattle.certificate.specs.Blocks.{held}
use Rattle.certificate.specs.Reading.{Reading, said_in, text_step, steps_at}
use Rattle.certificate.specs.ManyLines.{AreLines, BeginLines}
use Rattle.certificate.specs.RawLines.{PassesSome, PassesLines, steps_in}
use Rattle.certificate.proofs.Heads.{line_again}
use Rattle.certificate.proofs.Blocks.{consumes_more, consumes_none, early_end, held_behind, nothing_held}
use Rattle.certificate.specs.declared.version.Version.{Version}
use Rattle.certificate.specs.Versions.{allows_step}

-- ---- lines behind lines

pub begin_more : (a b n : ℕ) (xs ys : List ℕ) → n ≡ a + b → BeginLines a xs → BeginLines b ys → BeginLines n (xs ++ ys)
begin_more zero zero zero xs ys is x y = Lacks-append 10 xs ys x y
begin_more zero zero (suc n) xs ys is x y = absurd (omega (arith, is))
begin_more zero (suc b) zero xs ys is x y = absurd (omega (arith, is))
begin_more zero (suc b) (suc n) xs ys is x y =
    let same : b ≡ n = omega (arith, is) in
    (xs ++ y.0, y.1, (ap (λ (t : List ℕ). xs ++ t) y.2.0 ∙ sym (append_assoc xs y.0 (10 ∷ y.1)), (Lacks-append 10 xs y.0 x y.2.1.0, subst (λ (k : ℕ). BeginLines k y.1) same y.2.1.1)))
begin_more (suc a) b zero xs ys is x y = absurd (omega (arith, is))
begin_more (suc a) b (suc n) xs ys is x y =
    (x.0, x.1 ++ ys, (ap (λ (t : List ℕ). t ++ ys) x.2.0 ∙ append_assoc x.0 (10 ∷ x.1) ys, (x.2.1.0, begin_more a b n x.1 ys (omega (arith, is)) x.2.1.1 y)))

pub begin_then_lines : (a b n : ℕ) (xs ys : List ℕ) → n ≡ a + b → 0 < b → BeginLines a xs → AreLines b ys → AreLines n (xs ++ ys)
begin_then_lines zero zero n xs ys is some x y = absurd (omega (arith, some))
begin_then_lines zero (suc b) zero xs ys is some x y = absurd (omega (arith, is))
begin_then_lines zero (suc b) (suc n) xs ys is some x y =
    let same : b ≡ n = omega (arith, is) in
    (xs ++ y.0, y.1, (ap (λ (t : List ℕ). xs ++ t) y.2.0 ∙ sym (append_assoc xs y.0 (10 ∷ y.1)), (Lacks-append 10 xs y.0 x y.2.1.0, subst (λ (k : ℕ). AreLines k y.1) same y.2.1.1)))
begin_then_lines (suc a) b zero xs ys is some x y = absurd (omega (arith, is))
begin_then_lines (suc a) b (suc n) xs ys is some x y =
    (x.0, x.1 ++ ys, (ap (λ (t : List ℕ). t ++ ys) x.2.0 ∙ append_assoc x.0 (10 ∷ x.1) ys, (x.2.1.0, begin_then_lines a b n x.1 ys (omega (arith, is)) some x.2.1.1 y)))

close_line : (n : ℕ) (xs : List ℕ) → BeginLines n xs → AreLines (suc n) (xs ++ 10 ∷ [])
close_line zero xs l = (xs, [], (refl, (l, refl)))
close_line (suc n) xs l =
    (l.0, l.1 ++ 10 ∷ [], (ap (λ (t : List ℕ). t ++ 10 ∷ []) l.2.0 ∙ append_assoc l.0 (10 ∷ l.1) (10 ∷ []), (l.2.1.0, close_line n l.1 l.2.1.1)))

pub begin_none : BeginLines 0 []
begin_none = All-nil (λ b. b ≢ 10)

end_begins : BeginLines 1 (10 ∷ [])
end_begins = ([], [], (refl, (All-nil (λ b. b ≢ 10), All-nil (λ b. b ≢ 10))))

-- a line's end follows
pub end_follows : (n m k : ℕ) (xs : List ℕ) → m ≡ n + 1 → k < length xs → get_or xs k 0 ≡ 10 → BeginLines n (take k xs) → BeginLines m (take (k + 1) xs) × AreLines m (take (k + 1) xs)
end_follows n m k xs is lt here begun =
    let more : take (k + 1) xs ≡ take k xs ++ 10 ∷ [] = take_more xs k 0 lt ∙ ap (λ (b : ℕ). take k xs ++ b ∷ []) here in
    let next : suc n ≡ m = omega (arith, is) in
    let closed : AreLines m (take k xs ++ 10 ∷ []) = subst (λ (c : ℕ). AreLines c (take k xs ++ 10 ∷ [])) next (close_line n (take k xs) begun) in
    (subst (BeginLines m) (sym more) (begin_more n 1 m (take k xs) (10 ∷ []) is begun end_begins), subst (AreLines m) (sym more) closed)

-- another byte follows
pub byte_follows : (n k : ℕ) (xs : List ℕ) → k < length xs → get_or xs k 0 ≢ 10 → BeginLines n (take k xs) → BeginLines n (take (k + 1) xs)
byte_follows n k xs lt other begun =
    let same : n ≡ n + 0 = omega arith in
    subst (BeginLines n) (sym (take_more xs k 0 lt)) (begin_more n 0 n (take k xs) (get_or xs k 0 ∷ []) same begun (All-cons (λ b. b ≢ 10) (get_or xs k 0) [] other (All-nil (λ b. b ≢ 10))))

-- ---- lines of a block

-- what is held is its first bytes, and what is held behind them
pub some_of : (xs : List ℕ) (at end size : ℕ) → size ≤ length (slice_range xs at end) → slice_range xs at end ≡ take size (slice_range xs at end) ++ slice_range xs (at + size) end
some_of xs at end size le =
    let all = slice_range xs at end in
    let parts : slice_range xs at end ≡ take size (slice_range xs at end) ++ drop size (slice_range xs at end) = sym (take-append-drop size (slice_range xs at end)) in
    let long : length (take size (slice_range xs at end)) ≡ size = length-take-le size (slice_range xs at end) le in
    let behind : slice_range xs (at + size) end ≡ drop size (slice_range xs at end) =
    ap (λ (n : ℕ). slice_range xs (at + n) end) (sym long) ∙ held_behind xs at end (take size (slice_range xs at end)) (drop size (slice_range xs at end)) parts in
    parts ∙ ap (λ (t : List ℕ). take size (slice_range xs at end) ++ t) (sym behind)

-- how far lines are passed
pub record AreLinesSoFar (known now : Option (List ℕ)) (old here : Block) (text : List ℕ) (count left : ℕ) (From FromNow : Option (List ℕ) → Type 0) : Type 0 where
  pub bytes : List ℕ
  pub consumes : Consumes known now bytes
  pub joined : held old ++ bytes ≡ text ++ held here
  pub ended : ℕ
  pub all : count ≡ ended + left
  pub begun : BeginLines ended text
  pub some : 0 < left
  pub passed : here.passed + left ≡ old.passed + count
  pub from : (all : Option (List ℕ)) → From all → FromNow all

pub lines_begin : (known : Option (List ℕ)) (old : Block) (text : List ℕ) (count : ℕ) (From : Option (List ℕ) → Type 0) → text ≡ [] → 0 < count → AreLinesSoFar known known old old text count count From From
lines_begin known old text count From none some = record {
  bytes = [];
  consumes = consumes_none known;
  joined = append-nil (held old) ∙ ap (λ (t : List ℕ). t ++ held old) (sym none);
  ended = 0;
  all = omega arith;
  begun = subst (BeginLines 0) (sym none) begin_none;
  some = some;
  passed = refl;
  from = λ all from. from;
}

module _ (known now : Option (List ℕ)) (old here : Block) (text : List ℕ) (count left : ℕ) (From FromNow : Option (List ℕ) → Type 0) (s : AreLinesSoFar known now old here text count left From FromNow)
    (mid : Block) (after : List ℕ) (ends : ℕ) (p : PassesSome here mid text after left ends) where
  joined_more : held old ++ s.bytes ≡ after ++ held mid
  joined_more = s.joined ∙ ap (λ (t : List ℕ). text ++ t) p.joined ∙ sym (append_assoc text p.part (held mid)) ∙ ap (λ (t : List ℕ). t ++ held mid) (sym p.added)

  pub lines_whole : ends ≡ left → PassesLines known now old mid after count true
  lines_whole done =
      (s.bytes, (s.consumes, (joined_more, subst (AreLines count) (sym p.added) (begin_then_lines s.ended left count text p.part s.all s.some s.begun (p.whole done)))))

  module _ (more : ends < left) (next : Option (List ℕ)) (new : Block) (consumes : Consumes now next (held new)) where
    all_passed : held old ++ (s.bytes ++ held new) ≡ after ++ held new
    all_passed =
        let none : held mid ≡ [] = nothing_held mid.bytes.items mid.at mid.end (p.begun more).1 in
        sym (append_assoc (held old) s.bytes (held new)) ∙ ap (λ (t : List ℕ). t ++ held new) (joined_more ∙ ap (λ (t : List ℕ). after ++ t) none ∙ append-nil after)

    begun_all : BeginLines (s.ended + ends) after
    begun_all = subst (BeginLines (s.ended + ends)) (sym p.added) (begin_more s.ended ends (s.ended + ends) text p.part refl s.begun (p.begun more).0)

    pub lines_go_on : (FromNext : Option (List ℕ) → Type 0) → new.passed ≡ here.passed + ends → ((all : Option (List ℕ)) → FromNow all → FromNext all) → AreLinesSoFar known next old new after count (left - ends) From FromNext
    lines_go_on FromNext passed from = record {
      bytes = s.bytes ++ held new;
      consumes = consumes_more known now next s.bytes (held new) s.consumes consumes;
      joined = all_passed;
      ended = s.ended + ends;
      all = omega (arith, s.all, more);
      begun = begun_all;
      some = omega (arith, more);
      passed = omega (arith, passed, more, s.passed);
      from = λ all f. from all (s.from all f);
    }

    pub lines_end_early : new.at ≡ new.end → IsAtEnd next → PassesLines known next old new after count false
    lines_end_early empty end =
        let none : held new ≡ [] = nothing_held new.bytes.items new.at new.end empty in
        let joined : held old ++ (s.bytes ++ held new) ≡ after = all_passed ∙ ap (λ (t : List ℕ). after ++ t) none ∙ append-nil after in
        let few : s.ended + ends < count = omega (arith, s.all, more) in
        (s.bytes ++ held new, s.ended + ends, (consumes_more known now next s.bytes (held new) s.consumes consumes, (joined, (few, (begun_all, end)))))

-- ---- reading them

step_there : (version : Version) (line : ℕ) (first rest : List ℕ) → Lacks 10 first → text_step version line (first ++ 10 ∷ rest) ≡ (said_in step_words steps_with (allows_step version) line first >>= λ step. Ok (step, rest))
unfolding text_step
step_there version line first rest lacks = rw (line_again line first rest lacks) refl

abbrev steps_after : Version → ℕ → ℕ → Reading (Step × List ℕ) → Reading (List Step × List ℕ)
steps_after version k line read = read >>= λ first. steps_at version k line first.1 >>= λ others. Ok (first.0 ∷ others.0, others.1)

abbrev behind_all : List ℕ → Reading (List Step × List ℕ) → Reading (List Step × List ℕ)
behind_all more read = (read >>= λ x. Ok x.0) >>= λ steps. Ok (steps, more)

one_more : (step : Step) (more : List ℕ) (read : Reading (List Step × List ℕ)) → (behind_all more read >>= λ others. Ok (step ∷ others.0, others.1)) ≡ behind_all more (read >>= λ others. Ok (step ∷ others.0, others.1))
one_more step more (Ok x) = refl
one_more step more (Err fault) = refl

all_behind : (version : Version) (said : Reading Step) (k line : ℕ) (rest more : List ℕ) → steps_at version k line (rest ++ more) ≡ behind_all more (steps_at version k line rest)
    → steps_after version k line (said >>= λ step. Ok (step, rest ++ more)) ≡ behind_all more (steps_after version k line (said >>= λ step. Ok (step, rest)))
all_behind version (Ok step) k line rest more e = rw e (one_more step more (steps_at version k line rest))
all_behind version (Err fault) k line rest more e = refl

-- so many lines read as they do where other text follows
pub steps_front : (version : Version) (k line : ℕ) (text more : List ℕ) → AreLines k text → steps_at version k line (text ++ more) ≡ (steps_in version k line text >>= λ steps. Ok (steps, more))
unfolding steps_at
steps_front version zero line text more l = ap (λ (t : List ℕ). Ok ([], t ++ more)) l
steps_front version (suc k) line text more l =
    let first = l.0 in
    let rest = l.1 in
    let after = all_behind version (said_in step_words steps_with (allows_step version) line l.0) k (line + 1) l.1 more (steps_front version k (line + 1) l.1 more l.2.1.1) in
    ap (λ (t : List ℕ). steps_at version (suc k) line (t ++ more)) l.2.0
    ∙ ap (steps_at version (suc k) line) (append_assoc l.0 (10 ∷ l.1) more)
    ∙ ap (steps_after version k (line + 1)) (step_there version line l.0 (l.1 ++ more) l.2.1.0)
    ∙ after
    ∙ ap (λ (read : Reading (Step × List ℕ)). behind_all more (steps_after version k (line + 1) read)) (sym (step_there version line l.0 l.1 l.2.1.0))
    ∙ ap (λ (t : List ℕ). behind_all more (steps_at version (suc k) line t)) (sym l.2.0)

others_read : (version : Version) (said : Reading Step) (c line : ℕ) (rest : List ℕ) (x : List Step × List ℕ) → steps_after version c line (said >>= λ step. Ok (step, rest)) ≡ Ok x
    → (others : List Step × List ℕ) × (steps_at version c line rest ≡ Ok others)
others_read version (Ok step) c line rest x e = let b = bind_ok (steps_at version c line rest) _ x e in (b.0, b.1)
others_read version (Err fault) c line rest x e = absurd cc

step_ends_early : (version : Version) (line : ℕ) (text : List ℕ) → Lacks 10 text → text_step version line text ≡ Err (At line EarlyEnd)
unfolding text_step
step_ends_early version line text lacks = rw (early_end line text lacks) refl

-- fewer lines are at fault
pub too_few : (version : Version) (k c line : ℕ) (text : List ℕ) (x : List Step × List ℕ) → k < c → BeginLines k text → steps_at version c line text ≡ Ok x → ⊥
unfolding steps_at
too_few version k zero line text x lt l e = absurd (omega (arith, lt))
too_few version zero (suc c) line text x lt l e =
    let none : steps_at version (suc c) line text ≡ Err (At line EarlyEnd) = ap (steps_after version c (line + 1)) (step_ends_early version line text l) in
    absurd (cc (none, e))
too_few version (suc k) (suc c) line text x lt l e =
    let there : steps_at version (suc c) line text ≡ steps_after version c (line + 1) (said_in step_words steps_with (allows_step version) line l.0 >>= λ step. Ok (step, l.1)) =
    ap (steps_at version (suc c) line) l.2.0 ∙ ap (steps_after version c (line + 1)) (step_there version line l.0 l.1 l.2.1.0) in
    let others = others_read version (said_in step_words steps_with (allows_step version) line l.0) c (line + 1) l.1 x (sym there ∙ e) in
    too_few version k c (line + 1) l.1 others.0 (omega (arith, lt)) l.2.1.1 others.1

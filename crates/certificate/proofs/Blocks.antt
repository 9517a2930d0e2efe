-- What is taken of a reader and passed, put together of its parts.
use Rattle.std.proofs.Common.{◌≡◌, ◌≢◌, ℕ, ◌+◌, ◌-◌, ◌≤◌, ◌<◌, List, [], ◌∷◌, ◌++◌, length, take, drop, slice_range, true, false, Option, None, Some, IfSome, Err, refl, sym, ap, subst, ◌∙◌, append_assoc, arith, length-append, length-take, length-drop, drop-drop}
use Rattle.std.specs.Prelude.{◌==◌}
use Rattle.std.specs.Io.KnownBytes.{Consumes, Keeps, IsAtEnd}
use Rattle.std.proofs.lemmas.List.{append-nil, drop-take, drop_at}
use Rattle.std.proofs.lemmas.List.Elements.{All-nil, All-head, All-tail}
use Rattle.line_text.specs.Parts.{Lacks, cut}
use Rattle.line_text.specs.Results.{or_fault}
use Rattle.line_text.proofs.Cuts.{cut_takes, Lacks-append}
use Rattle.certificate.specs.declared.block.Block.{Block}
use Rattle.certificate.specs.declared.fault.LineFault.TheVariants.{EarlyEnd, Trailing}
use Rattle.certificate.specs.declared.fault.CertTextError.TheVariants.{At}
use Rattle.certificate.specs.Reading.{line_at, end_at}
use Rattle.certificate.specs.Sources.{Says, Fails, HasText}
use Rattle.certificate.specs.Blocks.{held, MayLeave, IsFrom, PassesPart, PassesLine}
use Rattle.certificate.proofs.Heads.{line_again}

-- ---- bytes that are consumed

pub consumes_more : (old middle new : Option (List ℕ)) (front bytes : List ℕ) → Consumes old middle front → Consumes middle new bytes → Consumes old new (front ++ bytes)
consumes_more None middle new front bytes first second = tt
consumes_more (Some xs) None new front bytes first second = absurd first
consumes_more (Some xs) (Some ys) None front bytes first second = absurd second
consumes_more (Some xs) (Some ys) (Some zs) front bytes first second = first ∙ ap (λ (rest : List ℕ). front ++ rest) second ∙ sym (append_assoc front bytes zs)

pub consumes_none : (known : Option (List ℕ)) → Consumes known known []
consumes_none None = tt
consumes_none (Some xs) = refl

pub kept : (old new : Option (List ℕ)) → Keeps old new → Consumes old new []
kept None new keeps = tt
kept (Some xs) None keeps = absurd keeps
kept (Some xs) (Some ys) keeps = sym keeps

pub from_more : (known next : Option (List ℕ)) (bytes : List ℕ) (taken count : ℕ) (all : Option (List ℕ)) → Consumes known next bytes → length bytes ≡ count
    → IsFrom known taken all → IsFrom next (taken + count) all
from_more known next bytes taken count all consumes count_is from = record {
  bytes = from.bytes ++ bytes;
  consumes = consumes_more all known next from.bytes bytes from.consumes consumes;
  count = omega (arith, length-append from.bytes bytes, count_is, from.count);
}

pub from_kept : (known next : Option (List ℕ)) (taken : ℕ) (all : Option (List ℕ)) → Keeps known next → IsFrom known taken all → IsFrom next taken all
from_kept known next taken all keeps from = record {
  bytes = from.bytes ++ [];
  consumes = consumes_more all known next from.bytes [] from.consumes (kept known next keeps);
  count = ap length (append-nil from.bytes) ∙ from.count;
}

-- ---- what may be left

known_before : (known next : Option (List ℕ)) (bytes more : List ℕ) → Consumes known next bytes → IfSome next (λ b. b ≡ more) → IfSome known (λ b. b ≡ bytes ++ more)
known_before None next bytes more consumes is = tt
known_before (Some xs) None bytes more consumes is = absurd consumes
known_before (Some xs) (Some ys) bytes more consumes is = consumes ∙ ap (λ (rest : List ℕ). bytes ++ rest) is

known_whole : (known next : Option (List ℕ)) (bytes : List ℕ) → Consumes known next bytes → IsAtEnd next → IfSome known (λ b. b ≡ bytes)
known_whole None next bytes consumes end = tt
known_whole (Some xs) None bytes consumes end = absurd consumes
known_whole (Some xs) (Some ys) bytes consumes end = consumes ∙ ap (λ (rest : List ℕ). bytes ++ rest) end ∙ append-nil bytes

pub has_text : (known : Option (List ℕ)) (front : List ℕ) → HasText (MayLeave known front)
has_text None front = (front ++ [], record { more = []; known_is = tt; text_is = refl })
has_text (Some xs) front = (front ++ xs, record { more = xs; known_is = refl; text_is = refl })

-- what is left once bytes are taken was left before
pub left_before : (known next : Option (List ℕ)) (front behind bytes passed rest : List ℕ) → Consumes known next bytes → front ++ bytes ≡ passed ++ behind
    → MayLeave next behind rest → MayLeave known front (passed ++ rest)
left_before known next front behind bytes passed rest consumes joined left = record {
  more = bytes ++ left.more;
  known_is = known_before known next bytes left.more consumes left.known_is;
  text_is =
      ap (λ (t : List ℕ). passed ++ t) left.text_is ∙ sym (append_assoc passed behind left.more) ∙ ap (λ (t : List ℕ). t ++ left.more) (sym joined) ∙ append_assoc front bytes left.more;
}

-- all that is left
pub left_whole : (known next : Option (List ℕ)) (front bytes passed : List ℕ) → Consumes known next bytes → front ++ bytes ≡ passed → IsAtEnd next → MayLeave known front passed
left_whole known next front bytes passed consumes joined end = record {
  more = bytes;
  known_is = known_whole known next bytes consumes end;
  text_is = sym joined;
}

-- ---- a line

lacks_behind : (byte : ℕ) (xs ys : List ℕ) → Lacks byte (xs ++ ys) → Lacks byte ys
lacks_behind byte [] ys lacks = lacks
lacks_behind byte (x ∷ xs) ys lacks = lacks_behind byte xs ys (All-tail (λ b. b ≢ byte) x (xs ++ ys) lacks)

not_cut : (byte : ℕ) (bytes : List ℕ) → Lacks byte bytes → (parts : Option (List ℕ × List ℕ)) → cut byte bytes ≡ parts → parts ≡ None
not_cut byte bytes lacks None e = refl
not_cut byte bytes lacks (Some parts) e =
    let joined : bytes ≡ parts.0 ++ byte ∷ parts.1 = (cut_takes byte bytes parts.0 parts.1 e).0 in
    let there : Lacks byte (parts.0 ++ byte ∷ parts.1) = subst (Lacks byte) joined lacks in
    absurd (All-head (λ b. b ≢ byte) byte parts.1 (lacks_behind byte parts.0 (byte ∷ parts.1) there) refl)

pub early_end : (line : ℕ) (text : List ℕ) → Lacks 10 text → line_at line text ≡ Err (At line EarlyEnd)
early_end line text lacks = ap (or_fault (At line EarlyEnd)) (not_cut 10 text lacks (cut 10 text) refl)

pub line_says : (known next : Option (List ℕ)) (old new : Block) (line : ℕ) → PassesLine known next old new true
    → Says (MayLeave known (held old)) (MayLeave next (held new)) (line_at line) new.line.items
line_says known next old new line p rest left =
    let joined : held old ++ p.0 ≡ (new.line.items ++ 10 ∷ []) ++ held new = p.1.1.0 ∙ sym (append_assoc new.line.items (10 ∷ []) (held new)) in
    let before = left_before known next (held old) (held new) p.0 (new.line.items ++ 10 ∷ []) rest p.1.0 joined left in
    let same : (new.line.items ++ 10 ∷ []) ++ rest ≡ new.line.items ++ 10 ∷ rest = append_assoc new.line.items (10 ∷ []) rest in
    (new.line.items ++ 10 ∷ rest, (subst (MayLeave known (held old)) same before, line_again line new.line.items rest p.1.1.1))

pub line_ends_early : (known next : Option (List ℕ)) (old new : Block) (line : ℕ) → PassesLine known next old new false
    → Fails (MayLeave known (held old)) (line_at line) (At line EarlyEnd)
line_ends_early known next old new line p =
    (new.line.items, (left_whole known next (held old) p.0 new.line.items p.1.0 p.1.1.0 p.1.1.1.1, early_end line new.line.items p.1.1.1.0))

-- ---- slices of the block

pub nothing_held : (xs : List ℕ) (at end : ℕ) → at ≡ end → slice_range xs at end ≡ []
nothing_held xs at end e =
    let none : end - at ≡ 0 = omega arith in
    ap (λ (n : ℕ). take n (drop at xs)) none

-- what is held behind bytes that were passed
pub held_behind : (xs : List ℕ) (at end : ℕ) (front rest : List ℕ) → slice_range xs at end ≡ front ++ rest → slice_range xs (at + length front) end ≡ rest
held_behind xs at end front rest e =
    let n = length front in
    let fits : length front ≤ end - at = omega (arith, length-take (end - at) (drop at xs), ap length e, length-append front rest) in
    let whole : length front + (end - (at + length front)) ≡ end - at = omega (arith, fits) in
    ap (take (end - (at + length front))) (sym (drop-drop (length front) at xs))
    ∙ sym (drop-take (length front) (end - (at + length front)) (drop at xs))
    ∙ ap (λ (k : ℕ). drop (length front) (take k (drop at xs))) whole
    ∙ ap (drop (length front)) e
    ∙ drop_at front rest (length front) refl

pub behind_line : (xs : List ℕ) (at end count : ℕ) (part rest : List ℕ) → count ≡ length part → slice_range xs at end ≡ part ++ 10 ∷ rest → slice_range xs (at + count + 1) end ≡ rest
behind_line xs at end count part rest count_is e =
    let moved : at + count + 1 ≡ at + length (part ++ 10 ∷ []) = omega (arith, count_is, length-append part (10 ∷ [])) in
    ap (λ (k : ℕ). slice_range xs k end) moved ∙ held_behind xs at end (part ++ 10 ∷ []) rest (e ∙ sym (append_assoc part (10 ∷ []) rest))

pub line_fits : (xs : List ℕ) (at end count : ℕ) (part rest : List ℕ) → count ≡ length part → slice_range xs at end ≡ part ++ 10 ∷ rest → at + count + 1 ≤ end
line_fits xs at end count part rest count_is e =
    omega (arith, count_is, length-take (end - at) (drop at xs), ap length e, length-append part (10 ∷ rest))

-- what is held of a block that begins at its first place
pub held_first : (xs : List ℕ) (count : ℕ) → slice_range xs 0 count ≡ take count xs
held_first xs count =
    let all : count - 0 ≡ count = omega arith in
    ap (λ (k : ℕ). take k xs) all

pub length-held : (xs : List ℕ) (at end : ℕ) → at ≤ end → end ≤ length xs → length (slice_range xs at end) ≡ end - at
length-held xs at end le fits = omega (arith, length-take (end - at) (drop at xs), length-drop at xs)

-- ---- a line, part by part

-- how far a line is passed
pub record IsPassedSoFar (known now : Option (List ℕ)) (old new : Block) (From FromNow : Option (List ℕ) → Type 0) : Type 0 where
  pub bytes : List ℕ
  pub consumes : Consumes known now bytes
  pub joined : held old ++ bytes ≡ new.line.items ++ held new
  pub lacks : Lacks 10 new.line.items
  pub passed : new.passed ≡ old.passed
  pub from : (all : Option (List ℕ)) → From all → FromNow all

pub part_begin : (known : Option (List ℕ)) (old new : Block) (From : Option (List ℕ) → Type 0) → held new ≡ held old → new.line.items ≡ [] → new.passed ≡ old.passed → IsPassedSoFar known known old new From From
part_begin known old new From same none passed = record {
  bytes = [];
  consumes = consumes_none known;
  joined = append-nil (held old) ∙ sym same ∙ ap (λ (line : List ℕ). line ++ held new) (sym none);
  lacks = subst (Lacks 10) (sym none) (All-nil (λ b. b ≢ 10));
  passed = passed;
  from = λ all from. from;
}

-- all that is taken stands in the line
all_in_line : (front bytes line part after : List ℕ) → front ++ bytes ≡ line ++ part → after ≡ line ++ part → front ++ bytes ≡ after
all_in_line front bytes line part after joined is = joined ∙ sym is

line_lacks : (line part after : List ℕ) → Lacks 10 line → Lacks 10 part → after ≡ line ++ part → Lacks 10 after
line_lacks line part after first second is = subst (Lacks 10) (sym is) (Lacks-append 10 line part first second)

module _ (known now : Option (List ℕ)) (old here : Block) (From FromNow : Option (List ℕ) → Type 0) (so_far : IsPassedSoFar known now old here From FromNow) where
  -- the line's end was passed
  pub line_whole : (new : Block) → PassesPart here new true → PassesLine known now old new true
  line_whole new p =
      let line_is : new.line.items ≡ here.line.items ++ p.0 = p.1.1.0 in
      let joined : held old ++ so_far.bytes ≡ new.line.items ++ 10 ∷ held new =
      so_far.joined ∙ ap (λ (t : List ℕ). here.line.items ++ t) p.1.0 ∙ sym (append_assoc here.line.items p.0 (10 ∷ held new)) ∙ ap (λ (t : List ℕ). t ++ 10 ∷ held new) (sym line_is) in
      (so_far.bytes, (so_far.consumes, (joined, line_lacks here.line.items p.0 new.line.items so_far.lacks p.1.1.1 line_is)))

  module _ (mid : Block) (p : PassesPart here mid false) (next : Option (List ℕ)) (new : Block) (consumes : Consumes now next (held new)) (same : new.line.items ≡ mid.line.items) where
    taken_more : held old ++ (so_far.bytes ++ held new) ≡ new.line.items ++ held new
    taken_more =
        sym (append_assoc (held old) so_far.bytes (held new))
        ∙ ap (λ (t : List ℕ). t ++ held new) (so_far.joined ∙ sym p.0 ∙ sym same)

    lacks_more : Lacks 10 new.line.items
    lacks_more = line_lacks here.line.items (held here) new.line.items so_far.lacks p.1.1 (same ∙ p.0)

    -- the reader gave more
    pub part_more : (FromNext : Option (List ℕ) → Type 0) → new.passed ≡ old.passed → ((all : Option (List ℕ)) → FromNow all → FromNext all) → IsPassedSoFar known next old new From FromNext
    part_more FromNext passed from = record {
      bytes = so_far.bytes ++ held new;
      consumes = consumes_more known now next so_far.bytes (held new) so_far.consumes consumes;
      joined = taken_more;
      lacks = lacks_more;
      passed = passed;
      from = λ all f. from all (so_far.from all f);
    }

    -- it has no more
    pub line_open : new.at ≡ new.end → IsAtEnd next → PassesLine known next old new false
    line_open empty end =
        let none : held new ≡ [] = nothing_held new.bytes.items new.at new.end empty in
        let joined : held old ++ (so_far.bytes ++ held new) ≡ new.line.items = taken_more ∙ ap (λ (t : List ℕ). new.line.items ++ t) none ∙ append-nil new.line.items in
        (so_far.bytes ++ held new, (consumes_more known now next so_far.bytes (held new) so_far.consumes consumes, (joined, (lacks_more, end))))

-- a part that was added to the line
pub part_of : (xs : List ℕ) (at end : ℕ) (old line : List ℕ) (count : ℕ)
    → ((part rest : List ℕ) × ((count ≡ length part) × ((slice_range xs at end ≡ part ++ 10 ∷ rest) × ((line ≡ old ++ part) × Lacks 10 part))))
    → (part : List ℕ) × ((slice_range xs at end ≡ part ++ 10 ∷ slice_range xs (at + count + 1) end) × ((line ≡ old ++ part) × Lacks 10 part))
part_of xs at end old line count h =
    (h.0, (h.2.1.0 ∙ ap (λ (r : List ℕ). h.0 ++ 10 ∷ r) (sym (behind_line xs at end count h.0 h.1 h.2.0 h.2.1.0)), h.2.1.1))

-- ---- the end

pub goes_on_at : (line : ℕ) (text : List ℕ) → 0 < length text → end_at line text ≡ Err (At line Trailing)
goes_on_at line text some =
    let other : (length text == 0) ≡ false = grind (arith, some) in
    rw other refl

some_left : (known : Option (List ℕ)) (front : List ℕ) → 0 < length front → (text : List ℕ) × (MayLeave known front text × (0 < length text))
some_left None front some = (front ++ [], (record { more = []; known_is = tt; text_is = refl }, omega (arith, some, length-append front [])))
some_left (Some xs) front some = (front ++ xs, (record { more = xs; known_is = refl; text_is = refl }, omega (arith, some, length-append front xs)))

-- more is held
pub held_goes_on : (known : Option (List ℕ)) (front : List ℕ) (line : ℕ) → 0 < length front → Fails (MayLeave known front) (end_at line) (At line Trailing)
held_goes_on known front line some = let t = some_left known front some in (t.0, (t.1.0, goes_on_at line t.0 t.1.1))

-- more came
pub reader_goes_on : (known next : Option (List ℕ)) (front new : List ℕ) (line : ℕ) → front ≡ [] → Consumes known next new → 0 < length new → Fails (MayLeave known front) (end_at line) (At line Trailing)
reader_goes_on known next front new line none consumes some =
    let t = some_left next new some in
    let joined : front ++ new ≡ [] ++ new = ap (λ (f : List ℕ). f ++ new) none in
    (t.0, (left_before known next front new new [] t.0 consumes joined t.1.0, goes_on_at line t.0 t.1.1))

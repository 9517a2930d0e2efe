-- How many steps a line names is what its node's line says.
use Rattle.std.proofs.Common.{◌≡◌, ◌∙◌, ℕ, ◌<◌, ◌^◌, List, [], ◌∷◌, ◌++◌, Ok, ap, arith, lit<, refl}
use Rattle.std.specs.Prelude.{decimal}
use Rattle.std.proofs.lemmas.List.{append-nil}
use Rattle.std.proofs.lemmas.List.Elements.{All-head, All-tail}
use Rattle.line_text.specs.Numbers.{number_word}
use Rattle.line_text.specs.Parts.{after_keyword}
use Rattle.line_text.proofs.Cuts.{after_again, cut_again}
use Rattle.line_text.proofs.Digits.{decimal_lacks, number_again}
use Rattle.ttp_model.specs.declared.step.Kind.{Kind}
use Rattle.ttp_model.specs.declared.step.Kind.TheVariants.{Place}
use Rattle.certificate.specs.declared.head.Head.{Head}
use Rattle.certificate.specs.declared.head.Head.TheVariants.{OfBranch, OfLeaf}
use Rattle.certificate.specs.declared.version.Version.{Version}
use Rattle.certificate.specs.Reading.{said_in, value_of}
use Rattle.certificate.specs.Spelling.{Fit, line_with, spaced}
use Rattle.certificate.specs.Versions.{allows_head}
use Rattle.certificate.specs.Words.{branch_words, count_of, head_words, heads_with}
use Rattle.certificate.proofs.Said.{said_takes}
use Rattle.certificate.proofs.Tables.{heads_said}
use Rattle.certificate_reasons.specs.Places.{count_behind, count_in, leaf_front, steps_named}

-- the line of a leaf names its count, and that of a branch none
leaf_names : (goal count : ℕ) → goal < 2 ^ 32 → count < 2 ^ 32 → steps_named (line_with (head_words (OfLeaf goal count))) ≡ count
unfolding spaced
leaf_names goal count small few =
    let numbers = decimal goal ++ 32 ∷ (decimal count ++ []) in
    let behind = after_again leaf_front numbers in
    let parts = cut_again 32 (decimal goal) (decimal count ++ []) (decimal_lacks 32 goal (lit< tt) (omega (arith, small))) in
    let said = ap number_word (append-nil (decimal count)) ∙ number_again count few in
    ap count_in behind ∙ (ap count_behind parts ∙ ap value_of said)

kind_names : (kind : Kind) (count : ℕ) → steps_named (line_with (branch_words kind count)) ≡ 0
unfolding after_keyword
kind_names Place count = refl
kind_names kind count = refl

head_names : (head : Head) → Fit (head_words head).1 → steps_named (line_with (head_words head)) ≡ count_of head
head_names (OfBranch branch) fit = kind_names branch.kind branch.children
head_names (OfLeaf goal count) fit =
    leaf_names goal count (All-head (λ n. n < 2 ^ 32) goal (count ∷ []) fit)
    (All-head (λ n. n < 2 ^ 32) count [] (All-tail (λ n. n < 2 ^ 32) goal (count ∷ []) fit))

pub steps_are_named : (version : Version) (line : ℕ) (text : List ℕ) (head : Head) → said_in head_words heads_with (allows_head version) line text ≡ Ok head
    → steps_named text ≡ count_of head
steps_are_named version line text head is =
    let said = said_takes head_words heads_with (allows_head version) (λ head. Unit {0}) heads_said line text head is in
    ap steps_named said.0 ∙ head_names head said.1

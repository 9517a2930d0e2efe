use Rattle.std.proofs.Common.{◌≡◌, ◌+◌, ◌≤◌, length}
use Rattle.std.specs.Prelude.{bytes_eq}
use Rattle.std.specs.List.{count_by}
use Rattle.plan_format.specs.Reading.{words_of}
use Rattle.plan_reasons.proofs.orders.count_of.Given as goal

abbrev pub invariant-words : goal.invariant-words
invariant-words l = record {
  count : l.seen + count_by (λ word. bytes_eq word l.name) (words_of l.rest) ≡ count_by (λ word. bytes_eq word l.name) (words_of l.text);
  room : l.seen + length l.rest ≤ length l.text;
}

abbrev pub decreases-words : goal.decreases-words
decreases-words l = length l.rest

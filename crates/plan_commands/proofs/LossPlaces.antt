-- The first loss that can't be is of the first word of which some loss can't be.
use Rattle.std.proofs.Common.{◌≡◌, ℕ, zero, suc, ◌+◌, ◌-◌, ◌<◌, ◌≤◌, List, length, get_or, slice_index_or, take, arith, ap, inl, inr, add-one}
use Rattle.std.proofs.lemmas.Bool.{cases_lt}
use Rattle.std.proofs.lemmas.List.Concat.{get_or-flat_map, length-flat_map}
use Rattle.std.proofs.lemmas.List.Elements.{All-from_get_or}
use Rattle.std.proofs.lemmas.List.Sums.{sum_by_more}
use Rattle.ttp_model.specs.Lists.{IsFirstFailure}
use Rattle.medl_tables.specs.Medl.{Medl}
use Rattle.membership_replay.specs.declared.loss.Loss.{Loss}
use Rattle.membership_replay.specs.Losses.{IsLossAt, IsLossOf, no_loss}
use Rattle.plan_commands.specs.declared.losses.LossWord.{LossWord}
use Rattle.plan_commands.specs.LossWords.{CanBeAt, IsWordOfLoss, losses_before, losses_of_word, losses_of_words, no_word}

module _ (t : Medl) (words : List LossWord) where
  -- the losses before the next word are those before this one and this one's
  pub before_more : (k : ℕ) → k < length words
      → length (losses_before t words (k + 1)) ≡ length (losses_before t words k) + length (losses_of_word t (slice_index_or words k no_word))
  before_more k there =
      let f = λ (word : LossWord). losses_of_word t word in
      omega (arith, length-flat_map f (take (k + 1) words), length-flat_map f (take k words), sum_by_more (λ word. length (f word)) words k no_word there)

  before_le : (j n : ℕ) → n ≤ j → j ≤ length words → length (losses_before t words n) ≤ length (losses_before t words j)
  before_le zero n below there = let same : n ≡ 0 = omega (arith, below) in omega (arith, ap (λ k. length (losses_before t words k)) same)
  before_le (suc j) n below there = elim (cases_lt n (suc j)) [
    | inl less ↦ (let more = rw add-one at (before_more j (omega (arith, there))) in omega (
      arith,
      more,
      before_le j n (omega (arith, less)) (omega (arith, there)),
    ))
    | inr more ↦ (let same : n ≡ suc j = omega (arith, below, more) in omega (arith, ap (λ k. length (losses_before t words k)) same))
  ]

  -- a loss of a word stands among all
  read : (k x : ℕ) → k < length words → x < length (losses_of_word t (slice_index_or words k no_word))
      → get_or (losses_of_words t words) (length (losses_before t words k) + x) no_loss ≡ get_or (losses_of_word t (slice_index_or words k no_word)) x no_loss
  read k x there inside = get_or-flat_map (λ (word : LossWord). losses_of_word t word) words k x no_word no_loss there inside

  pub first_wrong_word : (losses : List Loss) → losses ≡ losses_of_words t words → (loss k : ℕ)
      → IsFirstFailure (length losses) (IsLossAt t losses) loss → IsWordOfLoss t words loss k → IsFirstFailure (length words) (CanBeAt t words) k
  first_wrong_word losses is loss k wrong of = record {
    within = of.there;
    fails = λ all.
        let place : ℕ = loss - length (losses_before t words k) in
        let inside : place < length (losses_of_word t (slice_index_or words k no_word)) = omega (arith, of.from, of.until, before_more k of.there) in
        let at : length (losses_before t words k) + place ≡ loss = omega (arith, of.from) in
        wrong.fails (rw (is, ← at, read k place of.there inside) (all place no_loss inside));
    holds_before = λ n below. All-from_get_or (IsLossOf t) (losses_of_word t (slice_index_or words n no_word)) no_loss (λ x inside.
        let there : n < length words = omega (arith, below, of.there) in
        let earlier = before_le k (n + 1) (omega (arith, below)) (omega (arith, of.there)) in
        let early : length (losses_before t words n) + x < loss = omega (arith, before_more n there, inside, earlier, of.from) in
        let held = wrong.holds_before (length (losses_before t words n) + x) early in
        rw (is, read n x there inside) at held);
  }

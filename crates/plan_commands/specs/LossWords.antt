-- The words that name losses, ROUND/SLOT/NODE, and the losses that they stand for. Own profile.
use Rattle.std.specs.Prelude.{◌≡◌, ℕ, ◌+◌, ◌<◌, ◌≤◌, ◌^◌, List, [], ◌∷◌, ◌++◌, length, map, filter, take, slice_index_or, All, codes, decimal, Bool, ◌&&◌, ◌==◌, not, nat_lt, if◌then◌else◌}
use Rattle.std.specs.List.{AllZip, flat_map, range_with_len}
use Rattle.std.specs.Borrow.{Bor}
use Rattle.ttp_model.specs.Lists.{EachBelow, IsFirstFailure}
use Rattle.ttp_model.specs.Limits.{most_nodes}
use Rattle.medl_tables.specs.Medl.{Medl}
use Rattle.membership_replay.specs.declared.loss.Loss.{Loss}
use Rattle.membership_replay.specs.Losses.{IsLossOf}
use Rattle.membership_replay.specs.Trace.{row_at}
use Rattle.plan_commands.specs.declared.losses.LossWord.{LossWord}
use Rattle.plan_commands.specs.declared.losses.Receivers.{Receivers}
use Rattle.plan_commands.specs.declared.losses.Receivers.TheVariants.{One, Every}
use Rattle.command_streams.specs.declared.ending.Fault.{Fault}
use Rattle.command_streams.specs.declared.ending.Fault.TheVariants.{LossForm, Memory}

-- where the frame is lost: a node's index, or * for all receivers
abbrev pub receivers_text : Receivers → List ℕ
receivers_text (One n) = decimal n
receivers_text Every = codes "*"

-- the one spelling of a word: ROUND/SLOT/NODE
abbrev pub loss_text : LossWord → List ℕ
loss_text loss = decimal loss.round ++ 47 ∷ (decimal loss.slot ++ 47 ∷ receivers_text loss.receivers)

-- the node's index fits 32 bits, where there is one
abbrev pub AreInRange : Receivers → Type 0
AreInRange (One n) = n < 2 ^ 32
AreInRange Every = Unit {0}

-- the word spells this, each of its numbers at most 4,294,967,295
pub record Spells (word : List ℕ) (loss : LossWord) : Type 0 where
  pub text : word ≡ loss_text loss
  pub round : loss.round < 2 ^ 32
  pub slot : loss.slot < 2 ^ 32
  pub receivers : AreInRange loss.receivers

-- the word is well formed: it spells something
pub record IsLossWord (word : List ℕ) : Type 0 where
  pub loss : LossWord
  pub spelled : Spells word loss

-- texts that were handed in, as lists of bytes
abbrev pub bytes_of : List (Bor (List ℕ)) → List (List ℕ)
bytes_of words = map (λ word. word.now) words

-- the words spell these, one for each
abbrev pub AllSpell : List (List ℕ) → List LossWord → Type 0
AllSpell words losses = AllZip Spells words losses

-- the word of this index is well formed
abbrev pub IsLossWordAt : List (List ℕ) → ℕ → Type 0
IsLossWordAt words k = IsLossWord (slice_index_or words k [])

-- so it is of each
abbrev pub AreLossWords : List (List ℕ) → Type 0
AreLossWords words = EachBelow (length words) (IsLossWordAt words)

-- why words aren't read: the first that is malformed, or want of memory
abbrev pub IsWordFault : List (List ℕ) → Fault → Type 0
IsWordFault words (LossForm k) = IsFirstFailure (length words) (IsLossWordAt words) k
IsWordFault words Memory = Unit {0}
IsWordFault words _ = ⊥

-- there are nodes, and as few as an instance has
pub record HasNodes (t : Medl) : Type 0 where
  pub some : 0 < length t.rows
  pub few : length t.rows ≤ most_nodes

-- the loss of a word's frame at a node
abbrev pub loss_at : LossWord → ℕ → Loss
loss_at word n = record { round = word.round; slot = word.slot; receiver = n }

-- whether the word's slot is one of the cycle
abbrev pub is_in_cycle : Medl → LossWord → Bool
is_in_cycle t word = nat_lt word.round t.rounds && nat_lt word.slot (length t.rows)

-- all nodes but the slot's sender, rising
abbrev pub receivers_of : Medl → ℕ → List ℕ
receivers_of t slot = filter (λ n. not (n == (row_at t 0 slot).sender)) (range_with_len 0 (length t.rows))

-- what * stands for: a loss at each receiver; in a slot that isn't in the cycle, one at node 0
abbrev pub losses_everywhere : Medl → LossWord → List Loss
losses_everywhere t word =
    if is_in_cycle t word then map (loss_at word) (receivers_of t word.slot) else loss_at word 0 ∷ []

-- the losses that a word stands for
abbrev pub losses_at : Medl → LossWord → Receivers → List Loss
losses_at t word (One n) = loss_at word n ∷ []
losses_at t word Every = losses_everywhere t word

-- those of the word's own receivers
unfoldable pub losses_of_word : Medl → LossWord → List Loss
losses_of_word t word = losses_at t word word.receivers

-- the losses that words stand for, one word after another
abbrev pub losses_of_words : Medl → List LossWord → List Loss
losses_of_words t words = flat_map (losses_of_word t) words

-- what is read past the end of the words: no clause reads there
abbrev pub no_word : LossWord
no_word = record { round = 0; slot = 0; receivers = Every }

-- each loss that the word of this index stands for can be
abbrev pub CanBeAt : Medl → List LossWord → ℕ → Type 0
CanBeAt t words k = All (IsLossOf t) (losses_of_word t (slice_index_or words k no_word))

-- the losses of the words before this one
abbrev pub losses_before : Medl → List LossWord → ℕ → List Loss
losses_before t words k = losses_of_words t (take k words)

-- the loss of this index is one of those that the word at k stands for
pub record IsWordOfLoss (t : Medl) (words : List LossWord) (loss k : ℕ) : Type 0 where
  pub there : k < length words
  pub from : length (losses_before t words k) ≤ loss
  pub until : loss < length (losses_before t words (k + 1))

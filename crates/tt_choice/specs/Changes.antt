-- What each decision makes of a choice, and what is there and isn't decided yet. Own profile.
use Rattle.std.specs.Prelude.{◌≡◌, ℕ, ◌-◌, ◌<◌, ◌≤◌, ◌==◌, not, List, [], ◌∷◌, ◌++◌, length, slice_index, slice_set, filter, None, Some, Bool, IsFalse}
use Rattle.std.specs.List.{range_with_len, list_any}
use Rattle.ttp_model.specs.Instance.{Instance, node_at}
use Rattle.tt_choice.specs.declared.decision.Decision.{Decision}
use Rattle.tt_choice.specs.declared.decision.Decision.TheVariants as decided
use Rattle.tt_choice.specs.Precedence.{put_before}
use Rattle.tt_choice.specs.Choice.{Choice, fixed_channel, is_before, least_round, greatest_round, ArePair}

-- The changes of a choice follow: each is one decision, and none is kept.

-- node n comes next in the order
abbrev pub place_next : Choice → ℕ → Choice
place_next c n = record c { prefix = c.prefix ++ n ∷ []; kept = [] }

-- the capacity of node n is that at place k of its options
abbrev pub fix_option : Instance → Choice → ℕ → ℕ → Choice
fix_option i c n k =
    record c { fixed = slice_set c.fixed n (Some (slice_index (node_at i n).capacities k)); kept = [] }

-- process p goes before q
abbrev pub order_pair : Choice → ℕ → ℕ → Choice
order_pair c p q = record c { before = put_before c.before p q; unordered = c.unordered - 1; kept = [] }

-- message m is sent in round r at most
abbrev pub at_most : Choice → ℕ → ℕ → Choice
at_most c m r = record c { hi = slice_set c.hi m r; kept = [] }

-- message m is sent in round r at least
abbrev pub at_least : Choice → ℕ → ℕ → Choice
at_least c m r = record c { lo = slice_set c.lo m r; kept = [] }

-- message m is on channel k, or on both where that is 2
abbrev pub fix_channel : Choice → ℕ → ℕ → Choice
fix_channel c m k = record c { channels = slice_set c.channels m (Some k); kept = [] }

-- the choice with one decision more
abbrev pub choice_after : Instance → Choice → Decision → Choice
choice_after i c (decided.Place n) = place_next c n
choice_after i c (decided.Cap n k) = fix_option i c n k
choice_after i c (decided.Before p q) = order_pair c p q
choice_after i c (decided.AtMost m r) = at_most c m r
choice_after i c (decided.AtLeast m r) = at_least c m r
choice_after i c (decided.Channel m k) = fix_channel c m k

-- What is open to decisions follows.

-- node n stands in the prefix
abbrev pub is_placed : Choice → ℕ → Bool
is_placed c n = list_any (λ m. m == n) c.prefix

-- a node that isn't in the prefix
pub record IsUnplaced (i : Instance) (c : Choice) (n : ℕ) : Type 0 where
  pub node : n < length i.nodes
  pub new : IsFalse (is_placed c n)

-- the nodes that aren't in the prefix, rising
abbrev pub unplaced : Instance → Choice → List ℕ
unplaced i c = filter (λ n. not (is_placed c n)) (range_with_len 0 (length i.nodes))

-- two processes of one node, in neither order
pub record IsUnorderedPair (i : Instance) (c : Choice) (p q : ℕ) : Type 0 where
  pub pair : ArePair i p q
  pub not_before : IsFalse (is_before c p q)
  pub not_after : IsFalse (is_before c q p)

-- a round that cuts the message's range in two
pub record CutsRange (i : Instance) (c : Choice) (m r : ℕ) : Type 0 where
  pub message : m < length i.messages
  pub from : least_round c m ≤ r
  pub below : r < greatest_round c m

-- a message whose channel isn't fixed
pub record IsFreeChannel (i : Instance) (c : Choice) (m : ℕ) : Type 0 where
  pub message : m < length i.messages
  pub free : fixed_channel c m ≡ None

-- Where no branch is open, nothing is left to choose; and where one is, something.
use Rattle.std.proofs.Common.{◌≡◌, ℕ, ◌<◌, length, arith, inl, inr, Option, None, Some, IsSome, IfNone}
use Rattle.std.proofs.lemmas.Bool.{cases_lt}
use Rattle.ttp_model.specs.declared.step.Kind.{Kind}
use Rattle.ttp_model.specs.Instance.{Instance}
use Rattle.tt_choice.specs.Choice.{Choice, IsChoice, IsOrdered, fixed_cap, fixed_channel, least_round, greatest_round}
pub use Rattle.tt_choice.proofs.Rows.{open_incomplete}
use Rattle.branch_tree.specs.Branching.{MayBranch, Branches}

-- a channel is free where something is left beside orders, rounds, places and capacities
pub branches_of : (i : Instance) (c : Choice) (kind : Option Kind) → IsChoice i c
    → ((p q : ℕ) → q < p → p < length i.processes → IsOrdered i c p q)
    → ((m : ℕ) → m < length i.messages → least_round c m ≡ greatest_round c m)
    → (length c.prefix < length i.nodes → ⊥)
    → ((n : ℕ) → n < length i.nodes → IsSome (fixed_cap c n))
    → MayBranch i c kind → IfNone kind ((m : ℕ) → m < length i.messages → IsSome (fixed_channel c m)) → Branches i c kind
branches_of i c None ok ordered rounds full fixed may channels = record {
  placed = elim (cases_lt (length c.prefix) (length i.nodes)) [
    | inl some ↦ absurd (full some)
    | inr whole ↦ omega (arith, whole, ok.few)
  ];
  fixed = fixed;
  ordered = ordered;
  rounds = rounds;
  channels = channels;
}
branches_of i c (Some kind) ok ordered rounds full fixed may channels = may

-- How the processes of a node are ranked by a choice. Only private contracts ask for it.
use Rattle.std.specs.Prelude.{◌≡◌, ℕ, ◌<◌, if◌then◌else◌, List, length, slice_index, IsTrue, IsFalse}
use Rattle.ttp_model.specs.Lists.{EachBelow}
use Rattle.ttp_model.specs.Instance.{Instance, link_at}
use Rattle.ttp_model.specs.Totals.{total}
use Rattle.tt_choice.specs.Choice.{Choice, is_before}

-- how many processes are chosen to go before p
abbrev pub rank : Instance → Choice → ℕ → ℕ
rank i c p = total (λ q. if is_before c q p then 1 else 0) (length i.processes)

-- the list has each process's rank
pub record AreRanks (i : Instance) (c : Choice) (ranks : List ℕ) : Type 0 where
  pub all : length ranks ≡ length i.processes
  pub each : EachBelow (length i.processes) (λ p. slice_index ranks p ≡ rank i c p)

-- a process that goes before another has a lower rank
abbrev pub Rise : Instance → Choice → List ℕ → Type 0
Rise i c ranks = (p q : ℕ) → IsTrue (is_before c p q) → slice_index ranks p < slice_index ranks q

-- no process is chosen to go before one that a link leads from
abbrev pub TurnsNoLink : Instance → Choice → Type 0
TurnsNoLink i c =
    EachBelow (length i.links) (λ l. IsFalse (is_before c (link_at i l).after (link_at i l).before))

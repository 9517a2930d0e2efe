-- By how many ticks a process may run longer while a plan stays valid. Own profile.
use Rattle.std.specs.Prelude.{ℕ, zero, suc, ◌-◌, ◌≤◌, ◌==◌, ◌&&◌, if◌then◌else◌, length, min, nat_le}
use Rattle.ttp_model.specs.declared.plan.Plan.{Plan}
use Rattle.ttp_model.specs.Lists.{EachBelow}
use Rattle.ttp_model.specs.Instance.{Instance, link_at, message_at, node_of}
use Rattle.ttp_model.specs.Plans.{end_of, sent_from, start_of}
use Rattle.plan_facts.specs.Ends.{must_end_by}

-- the least of f at the numbers below a count, and of top
abbrev pub least : (ℕ → ℕ) → ℕ → ℕ → ℕ
least f top zero = top
least f top (suc count) = min (least f top count) (f count)

-- Each of the next three is the horizon where it sets no limit of its own.
-- by when p has to end for q, which starts on its node once p has ended
abbrev pub limit_of_process : Instance → Plan → ℕ → ℕ → ℕ
limit_of_process i plan p q =
    if node_of i q == node_of i p && nat_le (end_of i plan p) (start_of plan q) then start_of plan q else i.cluster.horizon

-- by when p has to end for a link that leads from it
abbrev pub limit_of_link : Instance → Plan → ℕ → ℕ → ℕ
limit_of_link i plan p l = if (link_at i l).before == p then start_of plan (link_at i l).after else i.cluster.horizon

-- by when p has to end for a message that it sends, which is copied out before its slot begins
abbrev pub limit_of_message : Instance → Plan → ℕ → ℕ → ℕ
limit_of_message i plan p m =
    if (message_at i m).sender == p then sent_from i plan m - i.cluster.copy_out else i.cluster.horizon

-- by when p has to end while all else of the plan stays: the least of these limits
abbrev pub latest_end : Instance → Plan → ℕ → ℕ
latest_end i plan p =
    least (limit_of_message i plan p) (least (limit_of_link i plan p) (least (limit_of_process i plan p) (must_end_by i p) (length i.processes)) (length i.links)) (length i.messages)

-- by how many ticks p may run longer
abbrev pub slack : Instance → Plan → ℕ → ℕ
slack i plan p = latest_end i plan p - end_of i plan p

-- none of these growths, by process, is more than that
abbrev pub IsWithinSlack : Instance → Plan → (ℕ → ℕ) → Type 0
IsWithinSlack i plan growth = EachBelow (length i.processes) (λ p. growth p ≤ slack i plan p)

-- How much the root's choice leaves to choose: no more branches than a certificate's tree may have above a node.
use Rattle.std.proofs.Common.{◌≡◌, ℕ, zero, suc, [], ◌+◌, ◌-◌, ◌*◌, ◌^◌, ◌<◌, ◌≤◌, if◌then◌else◌, length, arith, refl, sym, subst, count_by, Bool, true, false, is_none, None}
use Rattle.std.proofs.lemmas.List.{length-replicate, get_or-replicate}
use Rattle.std.proofs.lemmas.List.Sums.{count_by-le-length}
use Rattle.std.proofs.lemmas.Int.Digits.{length-digits_of-le}
use Rattle.std.proofs.Math.Nat.{mul-le-mul_left}
use Rattle.ttp_model.specs.declared.error.Place.TheVariants.{AtCluster}
use Rattle.ttp_model.specs.declared.limits.TheConstants.{MOST_NODES, MOST_PROCESSES, MOST_MESSAGES, MOST_TICKS}
use Rattle.ttp_model.specs.Instance.{Instance}
use Rattle.ttp_model.specs.Rules.{IsInstance}
use Rattle.ttp_model.specs.Totals.{total}
use Rattle.ttp_model.proofs.Totals.{total_le, total_more, total_bound}
use Rattle.tt_choice.specs.Choice.{Choice, is_unordered, unordered_below, unordered_pairs, least_round, greatest_round}
use Rattle.tt_choice.specs.Branches.{root_choice}
use Rattle.tt_choice.specs.Sizes.{size_left, range_size}
use Rattle.tt_choice.proofs.Root.{IsChoice-root}
use Rattle.search_trees.specs.Name.{root_name}
use Rattle.search_trees.specs.Task.{Task, root_task, IsTask}
use Rattle.certificate.specs.declared.limits.TheConstants.{MOST_PAIRS, MOST_HALVINGS, MOST_BRANCHES_ABOVE}

-- no test counts more than one
one_or_none : (b : Bool) → (if b then 1 else 0) ≤ 1
one_or_none true = omega arith
one_or_none false = omega arith

below_few : (i : Instance) (c : Choice) (p : ℕ) → unordered_below i c p ≤ p
below_few i c p =
    let most : unordered_below i c p ≤ p * 1 = total_bound (λ q. if is_unordered i c p q then 1 else 0) 1 p (λ q h. one_or_none (is_unordered i c p q)) in
    omega (arith, most)

-- twice the sum of the numbers below a count
numbers_sum : (count : ℕ) → 2 * total (λ p. p) count + count ≡ count * count
numbers_sum zero = refl
numbers_sum (suc count) = omega (arith, numbers_sum count, total_more (λ p. p) count)

pairs_bound : (count sum : ℕ) → 2 * sum + count ≡ count * count → count ≤ MOST_PROCESSES → sum ≤ MOST_PAIRS
pairs_bound count sum is few =
    let square : count * count ≤ count * MOST_PROCESSES = mul-le-mul_left count few in
    omega (arith, is, square, few)

pairs_few : (i : Instance) (c : Choice) → length i.processes ≤ MOST_PROCESSES → unordered_pairs i c ≤ MOST_PAIRS
pairs_few i c few =
    let below : unordered_pairs i c ≤ total (λ p. p) (length i.processes) = total_le (unordered_below i c) (λ p. p) (length i.processes)
    (λ p h. below_few i c p) in
    let most = pairs_bound (length i.processes) (total (λ p. p) (length i.processes)) (numbers_sum (length i.processes)) few in
    omega (arith, below, most)

range_few : (i : Instance) (m : ℕ) → m < length i.messages → i.cluster.horizon ≤ MOST_TICKS → range_size (root_choice i) m ≤ MOST_HALVINGS
range_few i m inside short =
    let last : greatest_round (root_choice i) m ≡ i.cluster.horizon - 1 = get_or-replicate (length i.messages) m (i.cluster.horizon - 1) 0 inside in
    let small : greatest_round (root_choice i) m - least_round (root_choice i) m < 2 ^ MOST_HALVINGS = omega (arith, last, short) in
    length-digits_of-le 2 MOST_HALVINGS (greatest_round (root_choice i) m - least_round (root_choice i) m) (omega arith) small

ranges_few : (i : Instance) → length i.messages ≤ MOST_MESSAGES → i.cluster.horizon ≤ MOST_TICKS
    → total (range_size (root_choice i)) (length i.messages) ≤ MOST_MESSAGES * MOST_HALVINGS
ranges_few i few short =
    let most : total (range_size (root_choice i)) (length i.messages) ≤ length i.messages * MOST_HALVINGS = total_bound (range_size (root_choice i))
    MOST_HALVINGS (length i.messages) (λ m inside. range_few i m inside short) in
    omega (arith, most, few)

caps_few : (i : Instance) → length i.nodes ≤ MOST_NODES → count_by is_none (root_choice i).fixed ≤ MOST_NODES
caps_few i few =
    let all : count_by is_none (root_choice i).fixed ≤ length (root_choice i).fixed = count_by-le-length is_none (root_choice i).fixed in
    let nodes : length (root_choice i).fixed ≡ length i.nodes = length-replicate (length i.nodes) None in
    omega (arith, all, nodes, few)

channels_few : (i : Instance) → IsInstance i → count_by is_none (root_choice i).channels ≤ MOST_MESSAGES
channels_few i w =
    let all : count_by is_none (root_choice i).channels ≤ length (root_choice i).channels = count_by-le-length is_none (root_choice i).channels in
    let messages : length (root_choice i).channels ≡ length i.messages = (IsChoice-root i w).channels_length in
    omega (arith, all, messages, w.limits.messages)

five : (a b c d e : ℕ) → a ≤ MOST_NODES → b ≤ MOST_NODES → c ≤ MOST_PAIRS → d ≤ MOST_MESSAGES * MOST_HALVINGS → e ≤ MOST_MESSAGES
    → a + b + c + d + e ≤ MOST_BRANCHES_ABOVE
five a b c d e ha hb hc hd he = omega arith

-- a branch for each node, one for each of their capacities, one for each two processes, and for each
-- message as many as its rounds can be halved, and one for its channel
pub size_left-root : (i : Instance) → IsInstance i → size_left i (root_choice i) ≤ MOST_BRANCHES_ABOVE
size_left-root i w =
    five (length i.nodes - length (root_choice i).prefix) (count_by is_none (root_choice i).fixed) (unordered_pairs i (root_choice i))
    (total (range_size (root_choice i)) (length i.messages)) (count_by is_none (root_choice i).channels)
    (omega (arith, w.limits.nodes))
    (caps_few i w.limits.nodes)
    (pairs_few i (root_choice i) w.limits.processes)
    (ranges_few i w.limits.messages (w.ranges AtCluster).horizon)
    (channels_few i w)

-- so the whole tree is a task
pub root_is_task : (i : Instance) → IsInstance i → IsTask i root_task
root_is_task i w = record { decisions = tt; shallow = omega (arith, size_left-root i w) }

pub is_root_task : (i : Instance) (t : Task) → IsInstance i → t.name ≡ root_name → t.decisions ≡ [] → IsTask i t
is_root_task i t w no_name nothing =
    let same : root_task ≡ t = λ j. record { name = sym no_name j; decisions = sym nothing j } in
    subst (IsTask i) same (root_is_task i w)

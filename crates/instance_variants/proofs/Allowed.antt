-- What the limits of a process ask of the time at which it ends.
use Rattle.std.proofs.Common.{◌≡◌, ℕ, ◌+◌, ◌-◌, ◌<◌, ◌≤◌, length, arith, inl, inr, ap}
use Rattle.std.proofs.lemmas.Bool.Decides.{eqb_tells, leb_tells}
use Rattle.ttp_model.specs.declared.plan.Plan.{Plan}
use Rattle.ttp_model.specs.Instance.{Instance, link_at, message_at, node_of}
use Rattle.ttp_model.specs.Plans.{IsValid, end_of, sent_from, start_of}
use Rattle.plan_facts.specs.Ends.{must_end_by}
use Rattle.instance_variants.specs.Slack.{latest_end, least, limit_of_link, limit_of_message, limit_of_process}
use Rattle.instance_variants.proofs.Least.{le-least, least-le, least-le-top}

-- what each limit asks of the time at which p ends
pub record AllAllow (i : Instance) (plan : Plan) (p time : ℕ) : Type 0 where
  pub last : time ≤ must_end_by i p
  pub processes : (q : ℕ) → q < length i.processes → time ≤ limit_of_process i plan p q
  pub links : (l : ℕ) → l < length i.links → time ≤ limit_of_link i plan p l
  pub messages : (m : ℕ) → m < length i.messages → time ≤ limit_of_message i plan p m

module _ (i : Instance) (plan : Plan) (p : ℕ) where
  abbrev of_processes : ℕ
  of_processes = least (limit_of_process i plan p) (must_end_by i p) (length i.processes)

  abbrev of_links : ℕ
  of_links = least (limit_of_link i plan p) of_processes (length i.links)

  pub latest-allowed : (time : ℕ) → AllAllow i plan p time → time ≤ latest_end i plan p
  latest-allowed time all =
      let first = le-least (limit_of_process i plan p) (must_end_by i p) (length i.processes) time all.last all.processes in
      let second = le-least (limit_of_link i plan p) of_processes (length i.links) time first all.links in
      le-least (limit_of_message i plan p) of_links (length i.messages) time second all.messages

  pub allowed-latest : (time : ℕ) → time ≤ latest_end i plan p → AllAllow i plan p time
  allowed-latest time le =
      let third = least-le-top (limit_of_message i plan p) of_links (length i.messages) in
      let second = least-le-top (limit_of_link i plan p) of_processes (length i.links) in
      let first = least-le-top (limit_of_process i plan p) (must_end_by i p) (length i.processes) in
      record {
        last = omega (arith, le, first, second, third);
        processes = λ q lt. omega (arith, le, second, third, least-le (limit_of_process i plan p) (must_end_by i p) (length i.processes) q lt);
        links = λ l lt. omega (arith, le, third, least-le (limit_of_link i plan p) of_processes (length i.links) l lt);
        messages = λ m lt. omega (arith, le, least-le (limit_of_message i plan p) of_links (length i.messages) m lt);
      }

-- a limit from what it stands for, and back
module _ (i : Instance) (plan : Plan) (p time : ℕ) (horizon : time ≤ i.cluster.horizon) where
  pub process-allows : (q : ℕ) → (node_of i q ≡ node_of i p → end_of i plan p ≤ start_of plan q → time ≤ start_of plan q) → time ≤ limit_of_process i plan p q
  process-allows q holds = elim (eqb_tells (node_of i q) (node_of i p)) [
    | inr other ↦ rw other.0 horizon
    | inl same ↦ elim (leb_tells (end_of i plan p) (start_of plan q)) [
      | inl before ↦ rw (same.0, before.0) (holds same.1 before.1)
      | inr later ↦ rw (same.0, later.0) horizon
    ]
  ]

  pub link-allows : (l : ℕ) → ((link_at i l).before ≡ p → time ≤ start_of plan (link_at i l).after) → time ≤ limit_of_link i plan p l
  link-allows l holds = elim (eqb_tells (link_at i l).before p) [
    | inl same ↦ rw same.0 (holds same.1)
    | inr other ↦ rw other.0 horizon
  ]

  pub message-allows : (m : ℕ) → ((message_at i m).sender ≡ p → time + i.cluster.copy_out ≤ sent_from i plan m) → time ≤ limit_of_message i plan p m
  message-allows m holds = elim (eqb_tells (message_at i m).sender p) [
    | inl same ↦ rw same.0 (omega (arith, holds same.1))
    | inr other ↦ rw other.0 horizon
  ]

module _ (i : Instance) (plan : Plan) (p time : ℕ) where
  pub process-allowed : (q : ℕ) → time ≤ limit_of_process i plan p q → node_of i q ≡ node_of i p → end_of i plan p ≤ start_of plan q → time ≤ start_of plan q
  process-allowed q le same before = elim (eqb_tells (node_of i q) (node_of i p)) [
    | inr other ↦ absurd (other.1 same)
    | inl is ↦ elim (leb_tells (end_of i plan p) (start_of plan q)) [
      | inl is_before ↦ rw (is.0, is_before.0) at le
      | inr later ↦ absurd (omega (arith, later.1, before))
    ]
  ]

  pub link-allowed : (l : ℕ) → time ≤ limit_of_link i plan p l → (link_at i l).before ≡ p → time ≤ start_of plan (link_at i l).after
  link-allowed l le same = elim (eqb_tells (link_at i l).before p) [
    | inl is ↦ rw is.0 at le
    | inr other ↦ absurd (other.1 same)
  ]

  pub message-allowed : (m : ℕ) → i.cluster.copy_out ≤ sent_from i plan m → time ≤ limit_of_message i plan p m → (message_at i m).sender ≡ p → time + i.cluster.copy_out ≤ sent_from i plan m
  message-allowed m room le same = elim (eqb_tells (message_at i m).sender p) [
    | inl is ↦ (let at : time ≤ sent_from i plan m - i.cluster.copy_out = rw is.0 at le in omega (arith, at, room))
    | inr other ↦ absurd (other.1 same)
  ]

module _ (i : Instance) (plan : Plan) (w : IsValid i plan) (p : ℕ) (inside : p < length i.processes) where
  -- p's end now
  pub allowed-now : AllAllow i plan p (end_of i plan p)
  allowed-now =
      let last = w.in_time p inside in
      record {
        last = omega (arith, last);
        processes = λ q lt. process-allows i plan p (end_of i plan p) last.1 q (λ same before. before);
        links = λ l lt. link-allows i plan p (end_of i plan p) last.1 l (λ same. omega (arith, w.links l lt, ap (end_of i plan) same));
        messages = λ m lt. message-allows i plan p (end_of i plan p) last.1 m (λ same. omega (arith, w.ready m lt, ap (end_of i plan) same));
      }

  pub end-le-latest : end_of i plan p ≤ latest_end i plan p
  end-le-latest = latest-allowed i plan p (end_of i plan p) allowed-now

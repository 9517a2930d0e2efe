-- What a process's slack lets it do.
use Rattle.std.proofs.Common.{◌≡◌, ℕ, ◌+◌, ◌<◌, ◌≤◌, length, arith}
use Rattle.ttp_model.specs.declared.plan.Plan.{Plan}
use Rattle.ttp_model.specs.Instance.{Instance, link_at, message_at}
use Rattle.ttp_model.specs.Plans.{IsValid, end_of, sent_from, start_of}
use Rattle.plan_facts.specs.Ends.{must_end_by}
use Rattle.instance_variants.specs.Slack.{slack}
use Rattle.instance_variants.proofs.Allowed.{AllAllow, allowed-latest, end-le-latest, latest-allowed, link-allowed, link-allows, message-allowed, message-allows, process-allows}
use Rattle.evidence.specs.Schedules.{NothingWaits}

module _ (i : Instance) (plan : Plan) (w : IsValid i plan) (p : ℕ) (inside : p < length i.processes) where
  -- the process may end when its slack is over
  abbrev time : ℕ
  time = end_of i plan p + slack i plan p

  all : AllAllow i plan p time
  all = allowed-latest i plan p time (omega (arith, end-le-latest i plan w p inside))

  pub to-linked : (l : ℕ) → l < length i.links → (link_at i l).before ≡ p → time ≤ start_of plan (link_at i l).after
  to-linked l lt leads = link-allowed i plan p time l (all.links l lt) leads

  pub to-slot : (m : ℕ) → m < length i.messages → (message_at i m).sender ≡ p → time + i.cluster.copy_out ≤ sent_from i plan m
  to-slot m lt sends = message-allowed i plan p time m (omega (arith, w.ready m lt)) (all.messages m lt) sends

  module _ (nothing : NothingWaits i plan p) where
    last-allowed : AllAllow i plan p (must_end_by i p)
    last-allowed =
        let last = must_end_by i p in
        let horizon : last ≤ i.cluster.horizon = omega arith in
        record {
          last = omega arith;
          processes = λ q lt. process-allows i plan p last horizon q (λ same before. absurd (omega (arith, before, nothing.processes q lt same)));
          links = λ l lt. link-allows i plan p last horizon l (λ leads. absurd (nothing.links l lt leads));
          messages = λ m lt. message-allows i plan p last horizon m (λ sends. absurd (nothing.messages m lt sends));
        }

    pub to-last : time ≡ must_end_by i p
    to-last = omega (arith, all.last, latest-allowed i plan p (must_end_by i p) last-allowed, end-le-latest i plan w p inside)

-- A process that starts earlier, when all is over that it waits for: the plan stays valid.
use Rattle.std.proofs.Common.{◌≡◌, ◌≢◌, ℕ, ◌<◌, ◌≤◌, length, slice_index, arith, inl, inr, subst, ◌∙◌, sym, ap, Contains, get_or-set_other, get_or-set_same, length-set}
use Rattle.std.proofs.lemmas.Bool.{cases_eq}
use Rattle.std.proofs.lemmas.List.Elements.{Contains-get_or}
use Rattle.ttp_model.specs.declared.plan.Plan.{Plan}
use Rattle.ttp_model.specs.declared.error.Place.TheVariants.{AtLink}
use Rattle.ttp_model.specs.Instance.{Instance, process_at, message_at, link_at, node_of}
use Rattle.ttp_model.specs.Rules.{IsInstance}
use Rattle.ttp_model.specs.Plans.{IsValid, IsReleased, IsApartFromLater, KeepsLink, HasArrivedEverywhere, start_of, end_of}
use Rattle.ttp_model.specs.Moves.{started}
use Rattle.ttp_model.proofs.Delays.{set_lower}
use Rattle.tt_moves.specs.Earlier.{CanStart}

module _ (i : Instance) (plan : Plan) (p time : ℕ) (w : IsInstance i) (v : IsValid i plan) (hp : p < length i.processes) (sooner : time ≤ start_of plan p) (can : CanStart i plan p time) where
  here : start_of (started plan p time) p ≡ time
  here = get_or-set_same plan.starts p time 0 (omega (arith, v.lengths.starts, hp))

  there : (q : ℕ) → q ≢ p → start_of (started plan p time) q ≡ start_of plan q
  there q other = get_or-set_other plan.starts p q time 0 other

  pub starts_le : (q : ℕ) → start_of (started plan p time) q ≤ start_of plan q
  starts_le q = set_lower plan.starts p time q (omega (arith, v.lengths.starts, hp)) sooner

  released : (q : ℕ) → q < length i.processes → IsReleased i (started plan p time) q
  released q h = elim (cases_eq q p) [
    | inl same ↦ omega (arith, here, can.released, ap (start_of (started plan p time)) same, ap (λ (k : ℕ). (process_at i k).release) same)
    | inr other ↦ omega (arith, there q other, v.released q h)
  ]

  -- two processes of the node that stand one after the other still do
  kept : (x y : ℕ) → x < length i.processes → node_of i x ≡ node_of i y → end_of i plan x ≤ start_of plan y → end_of i (started plan p time) x ≤ start_of (started plan p time) y
  kept x y hx node first = elim (cases_eq y p) [
    | inl same ↦
        let ends = can.others x hx (node ∙ ap (node_of i) same) (omega (arith, first, ap (start_of plan) same)) in
        omega (arith, ends, starts_le x, here, ap (start_of (started plan p time)) same)
    | inr other ↦ omega (arith, first, there y other, starts_le x)
  ]

  apart : (x : ℕ) → x < length i.processes → IsApartFromLater i (started plan p time) x
  apart x hx y lt hy node = elim (v.apart x hx y lt hy node) [
    | inl first ↦ inl (kept x y hx node first)
    | inr second ↦ inr (kept y x hy (sym node) second)
  ]

  links : (l : ℕ) → l < length i.links → KeepsLink i (started plan p time) l
  links l h = kept (link_at i l).before (link_at i l).after (w.indices (AtLink l) h).0 (w.links l h).one_node (v.links l h)

  arrived : (m : ℕ) → m < length i.messages → HasArrivedEverywhere i (started plan p time) m
  arrived m h k lt = elim (cases_eq (slice_index (message_at i m).receivers k) p) [
    | inl same ↦
        let is_receiver = subst (λ (q : ℕ). Contains (message_at i m).receivers q) same (Contains-get_or (message_at i m).receivers k 0 lt) in
        omega (arith, can.messages m h is_receiver, here, ap (start_of (started plan p time)) same)
    | inr other ↦ omega (arith, v.arrived m h k lt, there (slice_index (message_at i m).receivers k) other)
  ]

  pub started_valid : IsValid i (started plan p time)
  started_valid = record {
    lengths = record {
      order = v.lengths.order;
      capacities = v.lengths.capacities;
      starts = length-set plan.starts p time ∙ v.lengths.starts;
      rounds = v.lengths.rounds;
      channels = v.lengths.channels;
    };
    order = v.order;
    capacities = v.capacities;
    released = released;
    in_time = λ q h. (omega (arith, starts_le q, (v.in_time q h).0), omega (arith, starts_le q, (v.in_time q h).1));
    apart = apart;
    links = links;
    ready = λ m h. omega (arith, v.ready m h, starts_le (message_at i m).sender);
    arrived = arrived;
    frames = v.frames;
    on_own = v.on_own;
  }

-- A cut instance keeps all rules, where these processes can still end in time.
use Rattle.std.proofs.Common.{◌≡◌, ℕ, ◌+◌, ◌<◌, ◌≤◌, if◌then◌else◌, Bool, true, false, List, length, min, slice_index_or, arith, refl, sym, ap}
use Rattle.std.proofs.lemmas.List.FromFn.{fill_by_all}
use Rattle.ttp_model.specs.declared.parts.Cluster.{Cluster}
use Rattle.ttp_model.specs.declared.parts.Node.{Node}
use Rattle.ttp_model.specs.declared.parts.Process.{Process}
use Rattle.ttp_model.specs.declared.parts.Link.{Link}
use Rattle.ttp_model.specs.declared.parts.Message.{Message}
use Rattle.ttp_model.specs.declared.error.Place.TheVariants.{AtCluster, AtProcess}
use Rattle.ttp_model.specs.Limits.{most_ticks}
use Rattle.ttp_model.specs.Instance.{Instance, instance_with, no_process, process_at}
use Rattle.ttp_model.specs.Rules.{IsInstance}
use Rattle.instance_variants.specs.Variants.{HasWindows, timed}
use Rattle.instance_variants.specs.Cut.{CanEndBy, cut, cut_deadline, cut_process, is_one_of}
use Rattle.instance_variants.specs.Ends.{AreThere}
use Rattle.instance_variants.proofs.VariedRules.{rules_varied}
use Rattle.instance_variants.proofs.VariedPlans.{timed_variant}
use Rattle.instance_variants.proofs.OneOf.{of_each, one_of_place}
use Rattle.instance_variants.proofs.CutProcesses.{cut-le, cut-true, deadline_is, differ, le-cut, release_kept, wcet_kept}

module _ (i : Instance) (ps : List ℕ) (d : ℕ) (w : IsInstance i) (can : CanEndBy i ps d) where
  in_time : (p : ℕ) → p < length i.processes → (process_at i p).release + (process_at i p).wcet ≤ cut_deadline i ps d p
  in_time p is =
      le-cut (is_one_of ps p) _ (process_at i p).deadline d (w.deadlines p is) (of_each (λ q. (process_at i q).release + (process_at i q).wcet ≤ d) ps p can)

  inside_old : (p : ℕ) → p < length (cut i ps d).processes → p < length i.processes
  inside_old p there = omega (arith, there, (differ i ps d).all)

  windows : HasWindows (cut i ps d)
  windows = record {
    horizon_least = (w.ranges AtCluster).horizon_least;
    horizon = (w.ranges AtCluster).horizon;
    wcet_least = λ p there. let is = inside_old p there in omega (arith, (w.ranges (AtProcess p) is).wcet_least, wcet_kept i ps d p is);
    windows = λ p there.
        let is = inside_old p there in
        omega (arith, in_time p is, deadline_is i ps d p is, release_kept i ps d p is, wcet_kept i ps d p is);
    deadlines = λ p there.
        let is = inside_old p there in
        omega (arith, (w.ranges (AtProcess p) is).deadline, deadline_is i ps d p is, cut-le (is_one_of ps p) (process_at i p).deadline d);
  }

  pub keeps_rules : IsInstance (cut i ps d)
  keeps_rules =
      let variant = timed_variant i i.cluster.horizon (cut i ps d).processes (differ i ps d) in
      rules_varied i (timed i i.cluster.horizon (cut i ps d).processes) variant w windows

-- and where it does, these processes can end in time
pub can_end_by : (i : Instance) (ps : List ℕ) (d : ℕ) → AreThere i ps → IsInstance (cut i ps d) → CanEndBy i ps d
can_end_by i ps d are w k e h =
    let p = slice_index_or ps k e in
    let inside : p < length i.processes = are k e h in
    let window = w.deadlines p (omega (arith, inside, (differ i ps d).all)) in
    let cut_off = cut-true (is_one_of ps p) (process_at i p).deadline d (one_of_place ps k e h) in
    omega (arith, window, deadline_is i ps d p inside, release_kept i ps d p inside, wcet_kept i ps d p inside, cut_off)

-- what is cut to the latest that can be said is as it was
cut-most : (b : Bool) (x : ℕ) → x ≤ most_ticks → (if b then min x most_ticks else x) ≡ x
cut-most true x small = omega (arith, small)
cut-most false x small = refl

pub cut_at_most : (i : Instance) (ps : List ℕ) → IsInstance i → cut i ps most_ticks ≡ i
cut_at_most i ps w =
    let same : i.processes ≡ (cut i ps most_ticks).processes = fill_by_all (cut_process i ps most_ticks) i.processes (length i.processes) no_process refl (λ p inside.
    let small = cut-most (is_one_of ps p) (process_at i p).deadline (w.ranges (AtProcess p) inside).deadline in
    sym (ap (λ (deadline : ℕ). record (process_at i p) { deadline = deadline }) small)) in
    ap (λ (processes : List Process). record i { processes = processes }) (sym same)

-- so do tables that are its own
pub tables_keep_rules : (i : Instance) (ps : List ℕ) (d : ℕ)
    → (cluster : Cluster) (nodes : List Node) (processes : List Process) (links : List Link) (messages : List Message)
    → IsInstance i → CanEndBy i ps d → cluster ≡ i.cluster → nodes ≡ i.nodes → processes ≡ (cut i ps d).processes → links ≡ i.links → messages ≡ i.messages
    → IsInstance (instance_with cluster nodes processes links messages)
tables_keep_rules i ps d cluster nodes processes links messages w can a b c e f = rw (a, b, c, e, f) (keeps_rules i ps d w can)

-- Where processes run longer with a number: what their windows have room for, and what the slack of a plan allows.
use Rattle.std.proofs.Common.{◌≡◌, ℕ, ◌+◌, ◌-◌, ◌<◌, ◌≤◌, true, List, length, slice_index_or, arith, refl}
use Rattle.ttp_model.specs.declared.parts.Cluster.{Cluster}
use Rattle.ttp_model.specs.declared.parts.Node.{Node}
use Rattle.ttp_model.specs.declared.parts.Process.{Process}
use Rattle.ttp_model.specs.declared.parts.Link.{Link}
use Rattle.ttp_model.specs.declared.parts.Message.{Message}
use Rattle.ttp_model.specs.declared.plan.Plan.{Plan}
use Rattle.ttp_model.specs.declared.error.Place.TheVariants.{AtProcess}
use Rattle.ttp_model.specs.Limits.{most_ticks}
use Rattle.ttp_model.specs.Lists.{EachBelow}
use Rattle.ttp_model.specs.Instance.{Instance, instance_with, process_at}
use Rattle.ttp_model.specs.Rules.{IsInstance}
use Rattle.ttp_model.specs.Plans.{IsValid}
use Rattle.ttp_model.specs.Delays.{HasNoPlan}
use Rattle.plan_facts.specs.Ends.{must_end_by}
use Rattle.instance_variants.specs.declared.scale.Scale.{Scale}
use Rattle.instance_variants.specs.Cut.{is_one_of}
use Rattle.instance_variants.specs.Ends.{AreThere}
use Rattle.instance_variants.specs.Grown.{LeavesWindows}
use Rattle.instance_variants.specs.Slack.{latest_end, slack}
use Rattle.instance_variants.specs.Longer.{HasRoom, allowed, allowed_of, longer, longer_by, most_number, number_of, own_margin, room, ticks_of, window_margin}
use Rattle.instance_variants.proofs.OneOf.{one_of_place}
use Rattle.instance_variants.proofs.Least.{le-least, least-le}
use Rattle.instance_variants.proofs.Allowed.{allowed-latest}
use Rattle.instance_variants.proofs.GrownProcesses.{count, deadline_kept, end_is, release_kept, wcet_is}
use Rattle.instance_variants.proofs.GrownPlans.{grown_lawful, valid_allows, within_valid}
use Rattle.instance_variants.proofs.Scales.{longer-within, number-most, number-within, within-longer}

-- no slack is more than the latest tick that can be said
pub slack_small : (i : Instance) (plan : Plan) (p : ℕ) → IsInstance i → p < length i.processes → slack i plan p ≤ most_ticks
slack_small i plan p wi inside =
    let last = (allowed-latest i plan p (latest_end i plan p) (omega arith)).last in
    omega (arith, last, (wi.ranges (AtProcess p) inside).deadline)

-- where all rules are kept the longer times can be said
pub longer_small : (i : Instance) (ps : List ℕ) (scale : Scale) (x : ℕ) → IsInstance (longer i ps scale x)
    → (p : ℕ) → p < length i.processes → (process_at i p).wcet + longer_by i ps scale x p ≤ most_ticks
longer_small i ps scale x w p inside =
    let there : p < length (longer i ps scale x).processes = omega (arith, inside, count i (longer_by i ps scale x)) in
    omega (arith, (w.ranges (AtProcess p) there).wcet, wcet_is i (longer_by i ps scale x) p inside)

module _ (i : Instance) (ps : List ℕ) (scale : Scale) (wi : IsInstance i) where
  runs : (p : ℕ) → p < length i.processes → 1 ≤ (process_at i p).wcet
  runs p inside = (wi.ranges (AtProcess p) inside).wcet_least

  -- ticks by process, and the number that they allow
  module _ (ticks : ℕ → ℕ) (top x : ℕ) where
    allowed-each : x ≤ allowed i ps scale ticks top → (p : ℕ) → p < length i.processes → longer_by i ps scale x p ≤ ticks p
    allowed-each le p inside =
        let one = least-le (allowed_of i ps scale ticks top) top (length i.processes) p inside in
        longer-within (is_one_of ps p) scale x (ticks p) top (process_at i p).wcet (runs p inside) (omega (arith, le, one))

    each-allowed : x ≤ top → ((p : ℕ) → p < length i.processes → longer_by i ps scale x p ≤ ticks p) → x ≤ allowed i ps scale ticks top
    each-allowed low each =
        le-least (allowed_of i ps scale ticks top) top (length i.processes) x low
        (λ p inside. within-longer (is_one_of ps p) scale x (ticks p) top (process_at i p).wcet (runs p inside) low (each p inside))

  -- a plan stays valid with a number exactly where its slack allows it
  module _ (plan : Plan) (v : IsValid i plan) (top x : ℕ) where
    pub own_allows : x ≤ top → IsValid (longer i ps scale x) plan → x ≤ own_margin i ps scale plan top
    own_allows low more = each-allowed (slack i plan) top x low (valid_allows i (longer_by i ps scale x) wi plan v more)

    pub allowed_own : x ≤ own_margin i ps scale plan top → IsValid (longer i ps scale x) plan
    allowed_own le = within_valid i (longer_by i ps scale x) wi plan v (allowed-each (slack i plan) top x le)

  -- where windows have room all rules are kept
  module _ (x : ℕ) where
    leaves_windows : x ≤ window_margin i ps scale → LeavesWindows i (longer_by i ps scale x)
    leaves_windows le p inside = omega (arith, allowed-each (room i) most_number x le p inside, wi.deadlines p inside)

    pub longer_lawful : x ≤ window_margin i ps scale → IsInstance (longer i ps scale x)
    longer_lawful le = grown_lawful i (longer_by i ps scale x) wi (leaves_windows le)

    -- in a plan each process has room
    room_of_plan : (plan : Plan) → IsValid (longer i ps scale x) plan → (p : ℕ) → p < length i.processes → HasRoom i ps scale x p
    room_of_plan plan v p inside =
        let growth : ℕ → ℕ = longer_by i ps scale x in
        let there : p < length (longer i ps scale x).processes = omega (arith, inside, count i growth) in
        let ends = v.in_time p there in
        let begins = v.released p there in
        let end = end_is i growth plan p inside in
        let release = release_kept i growth p inside in
        let by_deadline = deadline_kept i growth p inside in
        omega (arith, ends.0, ends.1, begins, end, release, by_deadline)

    module _ (are : AreThere i ps) (some : 1 ≤ length ps) where
      abbrev one : ℕ
      one = slice_index_or ps 0 0

      one_inside : one < length i.processes
      one_inside = are 0 0 (omega (arith, some))

      -- one of these has room, so the number can be said
      number_small : HasRoom i ps scale x one → x ≤ most_number
      number_small has =
          let named : is_one_of ps one ≡ true = one_of_place ps 0 0 (omega (arith, some)) in
          let wcet = (process_at i one).wcet in
          let longer_is : longer_by i ps scale x one ≡ ticks_of scale x wcet = rw named refl in
          let ticks : ticks_of scale x wcet ≤ room i one = omega (arith, has, longer_is) in
          let few : room i one ≤ most_ticks = omega (arith, (wi.ranges (AtProcess one) one_inside).deadline) in
          let number = number-within scale x (room i one) wcet (runs one one_inside) ticks in
          omega (arith, number, number-most scale (room i one) wcet (runs one one_inside) few)

      pub room_within : EachBelow (length i.processes) (HasRoom i ps scale x) → x ≤ window_margin i ps scale
      room_within each =
          each-allowed (room i) most_number x (number_small (each one one_inside)) (λ p inside. omega (arith, each p inside))

      module _ (beyond : window_margin i ps scale < x) where
        pub lacks_room : ¬ EachBelow (length i.processes) (HasRoom i ps scale x)
        lacks_room each = absurd (omega (arith, room_within each, beyond))

        pub none_beyond : HasNoPlan (longer i ps scale x)
        none_beyond plan v = lacks_room (room_of_plan plan v)

-- tables that are its own keep all rules
pub tables_keep_rules : (i : Instance) (ps : List ℕ) (scale : Scale) (x : ℕ)
    → (cluster : Cluster) (nodes : List Node) (processes : List Process) (links : List Link) (messages : List Message)
    → IsInstance (longer i ps scale x) → cluster ≡ i.cluster → nodes ≡ i.nodes → processes ≡ (longer i ps scale x).processes → links ≡ i.links
    → messages ≡ i.messages → IsInstance (instance_with cluster nodes processes links messages)
tables_keep_rules i ps scale x cluster nodes processes links messages w a b c e f = rw (a, b, c, e, f) w

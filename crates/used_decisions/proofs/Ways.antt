-- What is known of a way, as a decision comes behind the others or the last one goes.
use Rattle.std.proofs.Common.{◌≡◌, ℕ, zero, suc, ◌+◌, ◌-◌, ◌<◌, ◌≤◌, ◌^◌, List, [], ◌∷◌, ◌++◌, length, take, get_or, Option, None, Some}
use Rattle.std.proofs.Common.{IfSome, arith, refl, ap, sym, subst, ◌∙◌, append_assoc, length-append}
use Rattle.std.specs.Global.{Vec}
use Rattle.std.proofs.lemmas.List.{map-append, append-nil, length-map, get_or-map, take_more, length-take-le}
use Rattle.ttp_model.specs.Instance.{Instance}
use Rattle.tt_choice.specs.declared.decision.Decision.{Decision}
use Rattle.used_decisions.specs.declared.turn.Turn.{Turn}
use Rattle.used_decisions.specs.Turns.{Path, path_after, path_above}
use Rattle.used_decisions.proofs.Told.{without_last}
use Rattle.tt_infer.specs.RuledOut.{IsRuledOut}
use Rattle.used_decisions.specs.Proved.{all_kept, levelled}
use Rattle.used_decisions.specs.Ways.{decisions_of, IsOpenBranch, AreBranches, AreKnown, IsWay}
use Rattle.used_decisions.specs.declared.branch.OpenBranch.{OpenBranch}
use Rattle.used_decisions.specs.declared.way.Taken.{Taken}

pub levelled_more : (level : ℕ) (ds : List Decision) (d : Decision) (at : ℕ) → at ≡ level + length ds
    → levelled level (ds ++ d ∷ []) ≡ levelled level ds ++ record { decision = d; level = at } ∷ []
levelled_more level [] d at is =
    let here : at ≡ level = omega (arith, is) in
    ap (λ (k : ℕ). record { decision = d; level = k } ∷ []) (sym here)
levelled_more level (x ∷ ds) d at is =
    ap (λ (turns : List Turn). record { decision = x; level = level } ∷ turns) (levelled_more (level + 1) ds d at (omega (arith, is)))

pub decisions_more : (taken : List Taken) (one : Taken) → decisions_of (taken ++ one ∷ []) ≡ decisions_of taken ++ one.decision ∷ []
decisions_more taken one = map-append (λ (t : Taken). t.decision) taken (one ∷ [])

pub decisions_room : (taken : List Taken) → length (decisions_of taken) ≡ length taken
decisions_room taken = length-map taken (λ (t : Taken). t.decision)

module _ (i : Instance) (low : ℕ) where
  branches_more : (front : List Decision) (taken : List Taken) (one : Taken) → AreBranches i low front taken
      → IfSome one.branch (IsOpenBranch i low (front ++ decisions_of taken)) → AreBranches i low front (taken ++ one ∷ [])
  branches_more front [] one are is = (subst (λ (ds : List Decision). IfSome one.branch (IsOpenBranch i low ds)) (append-nil front) is, tt)
  branches_more front (first ∷ taken) one are is = (
    are.0,
    branches_more (front ++ first.decision ∷ []) taken one are.1
        (subst (λ (ds : List Decision). IfSome one.branch (IsOpenBranch i low ds)) (sym (append_assoc front (first.decision ∷ []) (decisions_of taken))) is),
  )

  branches_last : (front : List Decision) (taken : List Taken) (one : Taken) → AreBranches i low front (taken ++ one ∷ [])
      → AreBranches i low front taken × IfSome one.branch (IsOpenBranch i low (front ++ decisions_of taken))
  branches_last front [] one are = (tt, subst (λ (ds : List Decision). IfSome one.branch (IsOpenBranch i low ds)) (sym (append-nil front)) are.0)
  branches_last front (first ∷ taken) one are =
      let rest = branches_last (front ++ first.decision ∷ []) taken one are.1 in (
        (are.0, rest.0),
        subst (λ (ds : List Decision). IfSome one.branch (IsOpenBranch i low ds)) (append_assoc front (first.decision ∷ []) (decisions_of taken)) rest.1,
      )

  known_down : (taken : List Taken) (d : Decision) (ending : Option OpenBranch) (proved : Option (Vec Decision)) → AreKnown i low taken ending proved
      → AreKnown i low (taken ++ record { decision = d; branch = ending } ∷ []) None proved
  known_down taken d ending proved known = record {
    branches = branches_more [] taken (record { decision = d; branch = ending }) known.branches known.ending_so;
    ending_so = tt;
    proved_so = known.proved_so;
  }

  known_up : (taken : List Taken) (one : Taken) (ending : Option OpenBranch) (proved : Option (Vec Decision)) → AreKnown i low (taken ++ one ∷ []) ending proved
      → AreKnown i low taken one.branch proved
  known_up taken one ending proved known =
      let parts = branches_last [] taken one known.branches in
      record { branches = parts.0; ending_so = parts.1; proved_so = known.proved_so }

  pub known_without : (taken : List Taken) (ending : Option OpenBranch) (proved : Option (Vec Decision)) → AreKnown i low taken ending proved
      → AreKnown i low taken None proved
  known_without taken ending proved known = record { branches = known.branches; ending_so = tt; proved_so = known.proved_so }

-- a decision more
pub way_down : (path : Path) (reader : Instance) (taken : List Taken) (ending : Option OpenBranch) (proved : Option (Vec Decision)) (goal : ℕ) (d : Decision)
    → length taken + 1 < 2 ^ 32 → IsWay path reader taken ending proved goal
    → IsWay (path_after path (record { decision = d; level = length taken })) reader (taken ++ record { decision = d; branch = ending } ∷ []) None proved goal
way_down path reader taken ending proved goal d few way =
    let one : Taken = record { decision = d; branch = ending } in
    let turn : Turn = record { decision = d; level = length taken } in
    record {
      same = way.same;
      turns =
          ap (λ (turns : List Turn). turns ++ turn ∷ []) way.turns
          ∙ sym (levelled_more 0 (decisions_of taken) d (length taken) (omega (arith, decisions_room taken)))
          ∙ ap (levelled 0) (sym (decisions_more taken one));
      few = omega (arith, few, length-append taken (one ∷ []));
      known = λ low within. known_down path.instance low taken d ending proved (way.known low within);
    }

-- and one less: then its branch is at hand
pub way_up : (path : Path) (reader : Instance) (taken : List Taken) (one : Taken) (ending : Option OpenBranch) (proved : Option (Vec Decision)) (goal : ℕ)
    → IsWay path reader (taken ++ one ∷ []) ending proved goal → IsWay (path_above path) reader taken one.branch proved goal
way_up path reader taken one ending proved goal way =
    let turn : Turn = record { decision = one.decision; level = length taken } in
    let turns : path.turns ≡ levelled 0 (decisions_of taken) ++ turn ∷ [] =
    way.turns ∙ ap (levelled 0) (decisions_more taken one)
    ∙ levelled_more 0 (decisions_of taken) one.decision (length taken) (omega (arith, decisions_room taken)) in
    record {
      same = way.same;
      turns = ap (λ (xs : List Turn). take (length xs - 1) xs) turns ∙ without_last (levelled 0 (decisions_of taken)) turn;
      few = omega (arith, way.few, length-append taken (one ∷ []));
      known = λ low within. known_up path.instance low taken one ending proved (way.known low within);
    }

-- whatever was known of the branch at hand, or of another bound, the rest is known
pub way_without : (path : Path) (reader : Instance) (taken : List Taken) (ending : Option OpenBranch) (proved : Option (Vec Decision)) (goal least : ℕ)
    → least ≤ goal → IsWay path reader taken ending proved goal → IsWay path reader taken None proved least
way_without path reader taken ending proved goal least within way = record {
  same = way.same;
  turns = way.turns;
  few = way.few;
  known = λ low below. known_without path.instance low taken ending proved (way.known low (omega (arith, below, within)));
}

-- what holds at each bound of what may be there
pub each_bound : (o : Option OpenBranch) (P : ℕ → OpenBranch → Type 0) (goal : ℕ) → ((low : ℕ) → low ≤ goal → IfSome o (P low))
    → IfSome o (λ branch. (low : ℕ) → low ≤ goal → P low branch)
each_bound None P goal each = tt
each_bound (Some branch) P goal each = each

bound_of_each : (o : Option OpenBranch) (P : ℕ → OpenBranch → Type 0) (goal low : ℕ) → IfSome o (λ branch. (least : ℕ) → least ≤ goal → P least branch)
    → low ≤ goal → IfSome o (P low)
bound_of_each None P goal low each within = tt
bound_of_each (Some branch) P goal low each within = each low within

-- at a lower goal
pub way_lower : (path : Path) (reader : Instance) (taken : List Taken) (ending : Option OpenBranch) (proved : Option (Vec Decision)) (goal least : ℕ)
    → least ≤ goal → IsWay path reader taken ending proved goal → IsWay path reader taken ending proved least
way_lower path reader taken ending proved goal least within way =
    record { same = way.same; turns = way.turns; few = way.few; known = λ low below. way.known low (omega (arith, below, within)) }

-- another branch is at hand
pub way_with : (path : Path) (reader : Instance) (taken : List Taken) (ending branch : Option OpenBranch) (proved : Option (Vec Decision)) (goal : ℕ)
    → IfSome branch (λ (b : OpenBranch). (low : ℕ) → low ≤ goal → IsOpenBranch path.instance low (decisions_of taken) b)
    → IsWay path reader taken ending proved goal → IsWay path reader taken branch proved goal
way_with path reader taken ending branch proved goal is way = record {
  same = way.same;
  turns = way.turns;
  few = way.few;
  known = λ low within. record {
    branches = (way.known low within).branches;
    ending_so = bound_of_each branch (λ least b. IsOpenBranch path.instance least (decisions_of taken) b) goal low is within;
    proved_so = (way.known low within).proved_so;
  };
}

-- it is proved
pub way_proved : (path : Path) (reader : Instance) (taken : List Taken) (ending : Option OpenBranch)
    (old : Option (Vec Decision)) (front : Vec Decision) (goal : ℕ)
    → front.items ≡ decisions_of taken → ((low : ℕ) → low ≤ goal → IsRuledOut path.instance low (all_kept (decisions_of taken)))
    → IsWay path reader taken ending old goal → IsWay path reader taken ending (Some front) goal
way_proved path reader taken ending old front goal is ruled way = record {
  same = way.same;
  turns = way.turns;
  few = way.few;
  known = λ low within. record {
    branches = (way.known low within).branches;
    ending_so = (way.known low within).ending_so;
    proved_so = subst (λ (ds : List Decision). IsRuledOut path.instance low (all_kept ds)) (sym is) (ruled low within);
  };
}

-- nothing is proved yet
pub way_unproved : (path : Path) (reader : Instance) (taken : List Taken) (ending : Option OpenBranch) (proved : Option (Vec Decision)) (goal : ℕ)
    → IsWay path reader taken ending proved goal → IsWay path reader taken ending None goal
way_unproved path reader taken ending proved goal way = record {
  same = way.same;
  turns = way.turns;
  few = way.few;
  known = λ low within. record {
    branches = (way.known low within).branches;
    ending_so = (way.known low within).ending_so;
    proved_so = tt;
  };
}

-- the decisions of one more that was taken
pub decisions_first : (taken : List Taken) (k : ℕ) (one : Taken) → k < length taken → one ≡ get_or taken k one
    → take (k + 1) (decisions_of taken) ≡ take k (decisions_of taken) ++ one.decision ∷ []
decisions_first taken k one inside is =
    let there : k < length (decisions_of taken) = omega (arith, inside, decisions_room taken) in
    let here : get_or (decisions_of taken) k one.decision ≡ one.decision =
    get_or-map (λ (t : Taken). t.decision) taken k one one.decision inside ∙ sym (ap (λ (t : Taken). t.decision) is) in
    take_more (decisions_of taken) k one.decision there ∙ ap (λ (d : Decision). take k (decisions_of taken) ++ d ∷ []) here

pub same_one_more : (taken : List Taken) (decisions : List Decision) (k : ℕ) (one : Taken) → k < length taken → k < length decisions
    → one ≡ get_or taken k one → one.decision ≡ get_or decisions k one.decision → take k (decisions_of taken) ≡ take k decisions
    → take (k + 1) (decisions_of taken) ≡ take (k + 1) decisions
same_one_more taken decisions k one inside there is same so_far =
    decisions_first taken k one inside is
    ∙ (ap (λ (ds : List Decision). ds ++ one.decision ∷ []) so_far ∙ ap (λ (d : Decision). take k decisions ++ d ∷ []) same)
    ∙ sym (take_more decisions k one.decision there)

-- the first of the first
take_fewer : (xs : List Decision) (fewer more : ℕ) → fewer ≤ more → take fewer (take more xs) ≡ take fewer xs
take_fewer xs zero more within = refl
take_fewer [] (suc fewer) zero within = refl
take_fewer [] (suc fewer) (suc more) within = refl
take_fewer (x ∷ xs) (suc fewer) zero within = absurd (omega (arith, within))
take_fewer (x ∷ xs) (suc fewer) (suc more) within = ap (λ (ds : List Decision). x ∷ ds) (take_fewer xs fewer more (omega (arith, within)))

pub first_of_first : (xs ys next : List Decision) → ys ≡ take (length ys) xs → next ≡ take (length ys - 1) ys → next ≡ take (length next) xs
first_of_first xs ys next is less =
    let count : length next ≡ length ys - 1 = ap length less ∙ length-take-le (length ys - 1) ys (omega arith) in
    rw count (less ∙ (ap (take (length ys - 1)) is ∙ take_fewer xs (length ys - 1) (length ys) (omega arith)))

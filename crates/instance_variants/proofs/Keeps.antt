-- Which constraints are kept: those that are listed, none that was left out, and each that is kept among fewer.
use Rattle.std.proofs.Common.{◌≡◌, ℕ, ◌<◌, Bool, true, false, IsTrue, All, Contains, List, [], ◌∷◌, ◌++◌, length, map, slice_set, arith, inl, inr, refl, rules, sym, ap, ◌∙◌}
use Rattle.std.proofs.lemmas.Bool.{cases_lt, true≢false, false_from_ne_true}
use Rattle.std.specs.List.{range_with_len}
use Rattle.std.proofs.lemmas.List.{get_or-map, get_or-set_same, get_or_past, length-map, set_past}
use Rattle.std.proofs.lemmas.List.Elements.{All-append, All-cons, All-map, All-nil, All-weaker, Contains-append_left, Contains-append_right, filter_passes}
use Rattle.ttp_model.specs.Network.{indices}
use Rattle.ttp_model.proofs.Indices.{in_indices}
use Rattle.instance_variants.specs.declared.kept.constraints.Constraint.{Constraint}
use Rattle.instance_variants.specs.declared.kept.constraints.Constraint.TheVariants as one
use Rattle.instance_variants.specs.declared.kept.constraints.Kind.{Kind}
use Rattle.instance_variants.specs.declared.kept.constraints.Kind.TheVariants as kind
use Rattle.instance_variants.specs.declared.kept.constraints.Constraints.{Constraints}
use Rattle.instance_variants.specs.Constraints.{keeps, listed, listed_of, of_kind, horizon_of, without, without_all}
use Rattle.ttp_model.specs.Lists.{is_set}
use Rattle.instance_variants.specs.Fewer.{AreAmong}
use Rattle.instance_variants.proofs.Leaving.{all_left_out}

pub kept_among : (fewer more : Constraints) (c : Constraint) → AreAmong fewer more → IsTrue (keeps fewer c) → IsTrue (keeps more c)
kept_among fewer more one.Horizon among is = among.horizon is
kept_among fewer more (one.Deadline p) among is = among.deadlines p is
kept_among fewer more (one.Release p) among is = among.releases p is
kept_among fewer more (one.Link l) among is = among.links l is
kept_among fewer more (one.Message m) among is = among.messages m is
kept_among fewer more (one.Both m) among is = among.both m is

flag_gone : (flags : List Bool) (at : ℕ) → is_set (slice_set flags at false) at ≡ false
flag_gone flags at = elim (cases_lt at (length flags)) [
  | inl inside ↦ get_or-set_same flags at false false inside
  | inr past ↦ rw (set_past flags at false past) (get_or_past flags at false past)
]

gone : (K : Constraints) (c : Constraint) → keeps (without K c) c ≡ false
gone K one.Horizon = refl
gone K (one.Deadline p) = flag_gone K.deadlines p
gone K (one.Release p) = flag_gone K.releases p
gone K (one.Link l) = flag_gone K.links l
gone K (one.Message m) = flag_gone K.messages m
gone K (one.Both m) = flag_gone K.both m

-- what was left out isn't kept, however much more is left out behind it
pub all_gone : (K : Constraints) (cs : List Constraint) → All (λ c. keeps (without_all K cs) c ≡ false) cs
all_gone K [] = All-nil (λ c. keeps (without_all K []) c ≡ false)
all_gone K (c ∷ cs) =
    let left = without K c in
    let still = λ (is : IsTrue (keeps (without_all left cs) c)). kept_among (without_all left cs) left c (all_left_out left cs) is in
    let here = false_from_ne_true (keeps (without_all left cs) c) (λ is. true≢false (sym (still is) ∙ gone K c)) in
    All-cons (λ one. keeps (without_all left cs) one ≡ false) c cs here (all_gone left cs)

contains_map : {X Y : Type 0} (f : X → Y) (xs : List X) (x : X) → Contains xs x → Contains (map f xs) (f x)
contains_map f xs x at = (at.0, omega (arith, at.1, length-map xs f), get_or-map f xs at.0 x (f x) at.1 ∙ ap f at.2)

set_inside : (flags : List Bool) (k : ℕ) → is_set flags k ≡ true → k < length flags
set_inside flags k is = elim (cases_lt k (length flags)) [
  | inl inside ↦ inside
  | inr past ↦ absurd (true≢false (sym is ∙ get_or_past flags k false past))
]

-- each flag that is set is listed
in_kind : (of : Kind) (flags : List Bool) (k : ℕ) → is_set flags k ≡ true → Contains (listed_of of flags) (of_kind of k)
in_kind of flags k is = contains_map (of_kind of) (indices (is_set flags) (length flags)) k (in_indices (is_set flags) (length flags) k (set_inside flags k is) is)

-- and none that isn't
kind_kept : (K : Constraints) (of : Kind) (flags : List Bool) → ((k : ℕ) → is_set flags k ≡ true → keeps K (of_kind of k) ≡ true) → All (λ c. keeps K c ≡ true) (listed_of of flags)
kind_kept K of flags each = All-map (λ c. keeps K c ≡ true) (of_kind of) (indices (is_set flags) (length flags))
    (All-weaker (λ (k : ℕ). is_set flags k ≡ true) (λ (k : ℕ). keeps K (of_kind of k) ≡ true) each (indices (is_set flags) (length flags))
    (filter_passes (is_set flags) (range_with_len 0 (length flags))))

horizon_kept : (K : Constraints) (is : Bool) → K.horizon ≡ is → All (λ c. keeps K c ≡ true) (horizon_of is)
horizon_kept K true is = All-cons (λ c. keeps K c ≡ true) one.Horizon [] is (All-nil (λ c. keeps K c ≡ true))
horizon_kept K false is = All-nil (λ c. keeps K c ≡ true)

-- each constraint that is listed is kept
pub listed_kept : (K : Constraints) → All (λ c. keeps K c ≡ true) (listed K)
listed_kept K =
    let P : Constraint → Type 0 = λ c. keeps K c ≡ true in
    let deadlines = listed_of kind.Deadline K.deadlines in
    let releases = listed_of kind.Release K.releases in
    let messages = listed_of kind.Message K.messages in
    let both = listed_of kind.Both K.both in
    let one = All-append P (horizon_of K.horizon) deadlines (horizon_kept K K.horizon refl) (kind_kept K kind.Deadline K.deadlines (λ p is. is)) in
    let two = All-append P (horizon_of K.horizon ++ deadlines) releases one (kind_kept K kind.Release K.releases (λ p is. is)) in
    let three = All-append P (horizon_of K.horizon ++ deadlines ++ releases) messages two (kind_kept K kind.Message K.messages (λ m is. is)) in
    let four = All-append P (horizon_of K.horizon ++ deadlines ++ releases ++ messages) both three (kind_kept K kind.Both K.both (λ m is. is)) in
    All-append P (horizon_of K.horizon ++ deadlines ++ releases ++ messages ++ both) (listed_of kind.Link K.links) four
    (kind_kept K kind.Link K.links (λ l is. is))

horizon_listed : (is : Bool) → is ≡ true → Contains (horizon_of is) one.Horizon
horizon_listed true is = (0, omega arith, refl)
horizon_listed false is = absurd (true≢false (sym is))

-- each constraint that is kept is listed
pub kept_listed : (K : Constraints) (c : Constraint) → keeps K c ≡ true → Contains (listed K) c
kept_listed K one.Horizon is =
    let here = horizon_listed K.horizon is in
    search (rules, Contains-append_left {X = Constraint}, Contains-append_right {X = Constraint}) depth 9
kept_listed K (one.Deadline p) is =
    let here = in_kind kind.Deadline K.deadlines p is in
    search (rules, Contains-append_left {X = Constraint}, Contains-append_right {X = Constraint}) depth 9
kept_listed K (one.Release p) is =
    let here = in_kind kind.Release K.releases p is in
    search (rules, Contains-append_left {X = Constraint}, Contains-append_right {X = Constraint}) depth 9
kept_listed K (one.Link l) is =
    let here = in_kind kind.Link K.links l is in
    search (rules, Contains-append_left {X = Constraint}, Contains-append_right {X = Constraint}) depth 9
kept_listed K (one.Message m) is =
    let here = in_kind kind.Message K.messages m is in
    search (rules, Contains-append_left {X = Constraint}, Contains-append_right {X = Constraint}) depth 9
kept_listed K (one.Both m) is =
    let here = in_kind kind.Both K.both m is in
    search (rules, Contains-append_left {X = Constraint}, Contains-append_right {X = Constraint}) depth 9

-- Constraints that are left out: what is left is among what was there, and fewer leave fewer.
use Rattle.std.proofs.Common.{◌≢◌, ℕ, Bool, false, IsTrue, List, [], ◌∷◌, length, slice_set, inl, inr, sym, ◌∙◌}
use Rattle.std.proofs.lemmas.Bool.{cases_eq, cases_lt, true≢false}
use Rattle.std.proofs.lemmas.List.{get_or-set_same, get_or-set_other, get_or_past, set_past}
use Rattle.instance_variants.specs.declared.kept.constraints.Constraint.{Constraint}
use Rattle.instance_variants.specs.declared.kept.constraints.Constraint.TheVariants as one
use Rattle.instance_variants.specs.declared.kept.constraints.Constraints.{Constraints}
use Rattle.instance_variants.specs.Constraints.{without, without_all}
use Rattle.ttp_model.specs.Lists.{is_set}
use Rattle.instance_variants.specs.Fewer.{AreSetAmong, AreAmong}

pub among_same : (K : Constraints) → AreAmong K K
among_same K = record {
  horizon = λ is. is;
  deadlines = λ p is. is;
  releases = λ p is. is;
  links = λ l is. is;
  messages = λ m is. is;
  both = λ m is. is;
}

pub among_trans : (few some many : Constraints) → AreAmong few some → AreAmong some many → AreAmong few many
among_trans few some many a b = record {
  horizon = λ is. b.horizon (a.horizon is);
  deadlines = λ p is. b.deadlines p (a.deadlines p is);
  releases = λ p is. b.releases p (a.releases p is);
  links = λ l is. b.links l (a.links l is);
  messages = λ m is. b.messages m (a.messages m is);
  both = λ m is. b.both m (a.both m is);
}

-- a flag that is set after another was taken back is another, and was set before
still_set : (flags : List Bool) (at place : ℕ) → IsTrue (is_set (slice_set flags at false) place) → (place ≢ at) × IsTrue (is_set flags place)
still_set flags at place is = elim (cases_eq place at) [
  | inl same ↦ elim (cases_lt at (length flags)) [
    | inl inside ↦ absurd (true≢false (sym is ∙ rw same (get_or-set_same flags at false false inside)))
    | inr past ↦ absurd (true≢false (sym (rw (same, set_past flags at false past) at is) ∙ get_or_past flags at false past))
  ]
  | inr other ↦ (other, sym (get_or-set_other flags at place false false other) ∙ is)
]

flags_left : (flags : List Bool) (at : ℕ) → AreSetAmong (slice_set flags at false) flags
flags_left flags at place is = (still_set flags at place is).1

flags_fewer : (fewer more : List Bool) (at : ℕ) → AreSetAmong fewer more → AreSetAmong (slice_set fewer at false) (slice_set more at false)
flags_fewer fewer more at among place is =
    let was = still_set fewer at place is in
    get_or-set_other more at place false false was.0 ∙ among place was.1

same : (flags : List Bool) → AreSetAmong flags flags
same flags place is = is

pub left_out : (K : Constraints) (c : Constraint) → AreAmong (without K c) K
left_out K one.Horizon = record {
  horizon = λ is. absurd (true≢false (sym is));
  deadlines = same K.deadlines;
  releases = same K.releases;
  links = same K.links;
  messages = same K.messages;
  both = same K.both;
}
left_out K (one.Deadline p) = record {
  horizon = λ is. is;
  deadlines = flags_left K.deadlines p;
  releases = same K.releases;
  links = same K.links;
  messages = same K.messages;
  both = same K.both;
}
left_out K (one.Release p) = record {
  horizon = λ is. is;
  deadlines = same K.deadlines;
  releases = flags_left K.releases p;
  links = same K.links;
  messages = same K.messages;
  both = same K.both;
}
left_out K (one.Link l) = record {
  horizon = λ is. is;
  deadlines = same K.deadlines;
  releases = same K.releases;
  links = flags_left K.links l;
  messages = same K.messages;
  both = same K.both;
}
left_out K (one.Message m) = record {
  horizon = λ is. is;
  deadlines = same K.deadlines;
  releases = same K.releases;
  links = same K.links;
  messages = flags_left K.messages m;
  both = flags_left K.both m;
}
left_out K (one.Both m) = record {
  horizon = λ is. is;
  deadlines = same K.deadlines;
  releases = same K.releases;
  links = same K.links;
  messages = same K.messages;
  both = flags_left K.both m;
}

pub all_left_out : (K : Constraints) (cs : List Constraint) → AreAmong (without_all K cs) K
all_left_out K [] = among_same K
all_left_out K (c ∷ cs) = among_trans (without_all (without K c) cs) (without K c) K (all_left_out (without K c) cs) (left_out K c)

pub fewer_left : (fewer more : Constraints) (c : Constraint) → AreAmong fewer more → AreAmong (without fewer c) (without more c)
fewer_left fewer more one.Horizon a = record {
  horizon = λ is. is;
  deadlines = a.deadlines;
  releases = a.releases;
  links = a.links;
  messages = a.messages;
  both = a.both;
}
fewer_left fewer more (one.Deadline p) a = record {
  horizon = a.horizon;
  deadlines = flags_fewer fewer.deadlines more.deadlines p a.deadlines;
  releases = a.releases;
  links = a.links;
  messages = a.messages;
  both = a.both;
}
fewer_left fewer more (one.Release p) a = record {
  horizon = a.horizon;
  deadlines = a.deadlines;
  releases = flags_fewer fewer.releases more.releases p a.releases;
  links = a.links;
  messages = a.messages;
  both = a.both;
}
fewer_left fewer more (one.Link l) a = record {
  horizon = a.horizon;
  deadlines = a.deadlines;
  releases = a.releases;
  links = flags_fewer fewer.links more.links l a.links;
  messages = a.messages;
  both = a.both;
}
fewer_left fewer more (one.Message m) a = record {
  horizon = a.horizon;
  deadlines = a.deadlines;
  releases = a.releases;
  links = a.links;
  messages = flags_fewer fewer.messages more.messages m a.messages;
  both = flags_fewer fewer.both more.both m a.both;
}
fewer_left fewer more (one.Both m) a = record {
  horizon = a.horizon;
  deadlines = a.deadlines;
  releases = a.releases;
  links = a.links;
  messages = a.messages;
  both = flags_fewer fewer.both more.both m a.both;
}

-- The constraints of an instance, by flags, and what it is to leave one out. Own profile.
use Rattle.std.specs.Prelude.{ℕ, ◌++◌, List, [], ◌∷◌, length, map, replicate, slice_set, Bool, true, false, nat_lt, if◌then◌else◌}
use Rattle.ttp_model.specs.declared.parts.Process.{Process}
use Rattle.ttp_model.specs.declared.parts.Message.{Message}
use Rattle.ttp_model.specs.Limits.{most_ticks}
use Rattle.ttp_model.specs.Lists.{is_set}
use Rattle.ttp_model.specs.Instance.{Instance}
use Rattle.ttp_model.specs.Network.{indices}
use Rattle.instance_variants.specs.declared.kept.constraints.Constraint.{Constraint}
use Rattle.instance_variants.specs.declared.kept.constraints.Constraint.TheVariants as one
use Rattle.instance_variants.specs.declared.kept.constraints.Kind.{Kind}
use Rattle.instance_variants.specs.declared.kept.constraints.Kind.TheVariants as kind
use Rattle.instance_variants.specs.declared.kept.constraints.Constraints.{Constraints}

-- a deadline of the most ticks is none
abbrev pub has_deadline : Process → Bool
has_deadline p = nat_lt p.deadline most_ticks

-- nor is a release at 0
abbrev pub has_release : Process → Bool
has_release p = nat_lt 0 p.release

-- a message is to be on both channels
abbrev pub is_on_both : Message → Bool
is_on_both m = m.both

-- the constraints that an instance has; a horizon of the most ticks is none
abbrev pub all_of : Instance → Constraints
all_of i = record {
  horizon = nat_lt i.cluster.horizon most_ticks;
  deadlines = map has_deadline i.processes;
  releases = map has_release i.processes;
  links = replicate (length i.links) true;
  messages = replicate (length i.messages) true;
  both = map is_on_both i.messages;
}

-- a constraint is kept
abbrev pub keeps : Constraints → Constraint → Bool
keeps K one.Horizon = K.horizon
keeps K (one.Deadline p) = is_set K.deadlines p
keeps K (one.Release p) = is_set K.releases p
keeps K (one.Link l) = is_set K.links l
keeps K (one.Message m) = is_set K.messages m
keeps K (one.Both m) = is_set K.both m

-- all but one; a message that is left out needn't be on both channels either
abbrev pub without : Constraints → Constraint → Constraints
without K one.Horizon = record K { horizon = false }
without K (one.Deadline p) = record K { deadlines = slice_set K.deadlines p false }
without K (one.Release p) = record K { releases = slice_set K.releases p false }
without K (one.Link l) = record K { links = slice_set K.links l false }
without K (one.Message m) = record K { messages = slice_set K.messages m false; both = slice_set K.both m false }
without K (one.Both m) = record K { both = slice_set K.both m false }

-- all but these
abbrev pub without_all : Constraints → List Constraint → Constraints
without_all K [] = K
without_all K (c ∷ cs) = without_all (without K c) cs

-- the constraint of a kind on what has this index
abbrev pub of_kind : Kind → ℕ → Constraint
of_kind kind.Deadline p = one.Deadline p
of_kind kind.Release p = one.Release p
of_kind kind.Link l = one.Link l
of_kind kind.Message m = one.Message m
of_kind kind.Both m = one.Both m

-- the constraints of one kind whose flags are set, in the instance's order
abbrev pub listed_of : Kind → List Bool → List Constraint
listed_of kind flags = map (of_kind kind) (indices (is_set flags) (length flags))

-- the horizon, if it is kept
abbrev pub horizon_of : Bool → List Constraint
horizon_of kept = if kept then one.Horizon ∷ [] else []

-- all that are kept: the horizon, deadlines, releases, messages, those on both channels, and links
abbrev pub listed : Constraints → List Constraint
listed K = horizon_of K.horizon ++ listed_of kind.Deadline K.deadlines ++ listed_of kind.Release K.releases
    ++ listed_of kind.Message K.messages ++ listed_of kind.Both K.both ++ listed_of kind.Link K.links

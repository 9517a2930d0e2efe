-- How many children a branch has, by its kind. Own profile.
use Rattle.std.specs.Prelude.{◌≡◌, ℕ, refl}
use Rattle.ttp_model.specs.declared.step.Kind.{Kind}
use Rattle.ttp_model.specs.declared.step.Kind.TheVariants.{Place, Cap, Pair, Round, Chan}

-- one for each of so many options where a node or a capacity is taken, and else as many as the kind
-- always has
abbrev pub children_of : Kind → ℕ → ℕ
children_of Place options = options
children_of (Cap n) options = options
children_of (Pair p q) options = 2
children_of (Round m r) options = 2
children_of (Chan m) options = 3

-- a branch of the kind may have so many: its kind's own count, where it has one
abbrev pub HasOwnCount : Kind → ℕ → Type 0
HasOwnCount kind count = count ≡ children_of kind count

pub HasOwnCount-children_of : (kind : Kind) (options : ℕ) → HasOwnCount kind (children_of kind options)
HasOwnCount-children_of Place options = refl
HasOwnCount-children_of (Cap n) options = refl
HasOwnCount-children_of (Pair p q) options = refl
HasOwnCount-children_of (Round m r) options = refl
HasOwnCount-children_of (Chan m) options = refl

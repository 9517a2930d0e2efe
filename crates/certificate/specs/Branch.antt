-- Branches of a certificate's tree. Own profile.
use Rattle.std.specs.Prelude.{ℕ}
use Rattle.ttp_model.specs.declared.step.Kind.{Kind}
use Rattle.ttp_model.specs.Kinds.{children_of, HasOwnCount-children_of}
use Rattle.certificate.specs.declared.branch.Branch.{Branch}

-- the branch of a kind, with a child for each of so many options where a node or a capacity is taken
abbrev pub branch_of : Kind → ℕ → Branch
branch_of kind options = record { kind = kind; children = children_of kind options; own = HasOwnCount-children_of kind options }

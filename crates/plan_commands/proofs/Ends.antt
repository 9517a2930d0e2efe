-- How a join ends, by what is read, joined and written.
use Rattle.std.proofs.Common.{ℕ, List, Option, None, Some, IfSome, inl, inr, refl}
use Rattle.std.specs.Io.KnownBytes.{Keeps}
use Rattle.ttp_model.specs.Instance.{Instance}
use Rattle.certificate.specs.Cert.{Cert}
use Rattle.side_by_side.specs.Faults.{IsJoinFault}
use Rattle.side_by_side.specs.declared.fault.JoinFault.{JoinFault}
use Rattle.side_by_side.specs.declared.fault.JoinFault.TheVariants.{At, OutOfMemory}
use Rattle.command_streams.specs.Instances.{HasInstance, IsInstanceFault}
use Rattle.command_streams.specs.declared.ending.Sink.TheVariants as sink
use Rattle.command_streams.specs.declared.ending.Fault.{Fault}
use Rattle.command_streams.specs.declared.ending.Fault.TheVariants.{Memory, Unwritten}
use Rattle.command_streams.specs.declared.ending.End.{End}
use Rattle.command_streams.specs.declared.ending.End.TheVariants.{Done, Refused}
use Rattle.plan_commands.specs.Given.{AreCertificates, IsUnread}
use Rattle.plan_commands.specs.Joins.{HasJoin, HasNoJoin, IsJoinAnswer, IsTelling, end_of}
use Rattle.plan_commands.specs.declared.join.ending.JoinEnd.{JoinEnd}
use Rattle.plan_commands.specs.declared.join.ending.JoinEnd.TheVariants.{Ended, RefusedAt}

-- texts that give no certificates make none together
pub unread_not_joined : (i : Instance) (texts : List (List ℕ)) (end : JoinEnd) → IsUnread texts end → HasNoJoin i texts end
unread_not_joined i texts (RefusedAt certificate fault) unread = inl unread
unread_not_joined i texts (Ended (Refused Memory)) unread = tt
unread_not_joined i texts (Ended end) unread = absurd unread

-- nor do certificates of which one is wrong
pub wrong_not_joined : (i : Instance) (texts : List (List ℕ)) (certs : List Cert) (fault : JoinFault) → AreCertificates texts certs
    → IsJoinFault i certs fault → HasNoJoin i texts (end_of fault)
wrong_not_joined i texts certs (At certificate line fault) are wrong = inr record { certs = certs; are = are; wrong = wrong }
wrong_not_joined i texts certs OutOfMemory are wrong = tt

-- what is told of a joined certificate is an answer
told : (instance : List ℕ) (i : Instance) (texts : List (List ℕ)) (cert : Cert) (from to old new : Option (List ℕ)) (end : End)
    → HasInstance instance i → HasJoin i texts cert → IsTelling cert from to old new end → IsJoinAnswer instance texts from to old new (Ended end)
told instance i texts cert from to old new Done has join telling =
    record { problem = i; has_instance = has; certs = join.certs; are = join.are; cert = cert; joins = join.joins; telling = telling }
told instance i texts cert from to old new (Refused Memory) has join telling = (tt, telling)
told instance i texts cert from to old new (Refused (Unwritten sink.Certificate)) has join telling =
    record { problem = i; has_instance = has; certs = join.certs; are = join.are; cert = cert; joins = join.joins; telling = telling }
told instance i texts cert from to old new (Refused (Unwritten sink.Out)) has join telling =
    record { problem = i; has_instance = has; certs = join.certs; are = join.are; cert = cert; joins = join.joins; telling = telling }
told instance i texts cert from to old new end has join telling = absurd telling

-- so is why there is none, where nothing is written
refused : (instance : List ℕ) (i : Instance) (texts : List (List ℕ)) (from old : Option (List ℕ)) (end : JoinEnd)
    → HasInstance instance i → HasNoJoin i texts end → Keeps from from × Keeps old old → IsJoinAnswer instance texts from from old old end
refused instance i texts from old (RefusedAt certificate fault) has why kept = (record { problem = i; has_instance = has; refused = why }, kept)
refused instance i texts from old (Ended (Refused Memory)) has why kept = (tt, kept)
refused instance i texts from old (Ended end) has why kept = absurd why

-- and why there is no instance
no_instance : (instance : List ℕ) (texts : List (List ℕ)) (from old : Option (List ℕ)) (fault : Fault)
    → IsInstanceFault instance fault → Keeps from from × Keeps old old → IsJoinAnswer instance texts from from old old (Ended (Refused fault))
no_instance instance texts from old (Unwritten sink) why kept = absurd why
no_instance instance texts from old fault why kept = (why, kept)

kept : (known : Option (List ℕ)) → Keeps known known
kept None = tt
kept (Some bytes) = refl

-- the same of what readers have, where that is known
module _ (Have : List (List ℕ) → Type 0) where
  pub told_of_readers : (known from to old new : Option (List ℕ)) (i : Instance) (cert : Cert) (end : End) → IfSome known (λ bytes. HasInstance bytes i)
      → ((texts : List (List ℕ)) → Have texts → HasJoin i texts cert) → IsTelling cert from to old new end
      → IfSome known (λ bytes. (texts : List (List ℕ)) → Have texts → IsJoinAnswer bytes texts from to old new (Ended end))
  told_of_readers None from to old new i cert end has join telling = tt
  told_of_readers (Some bytes) from to old new i cert end has join telling = λ texts have. told bytes i texts cert from to old new end has (join texts have) telling

  pub refused_of_readers : (known from old : Option (List ℕ)) (i : Instance) (end : JoinEnd) → IfSome known (λ bytes. HasInstance bytes i)
      → ((texts : List (List ℕ)) → Have texts → HasNoJoin i texts end)
      → IfSome known (λ bytes. (texts : List (List ℕ)) → Have texts → IsJoinAnswer bytes texts from from old old end)
  refused_of_readers None from old i end has why = tt
  refused_of_readers (Some bytes) from old i end has why = λ texts have. refused bytes i texts from old end has (why texts have) (kept from, kept old)

  pub no_instance_of_reader : (known from old : Option (List ℕ)) (fault : Fault) → IfSome known (λ bytes. IsInstanceFault bytes fault)
      → IfSome known (λ bytes. (texts : List (List ℕ)) → Have texts → IsJoinAnswer bytes texts from from old old (Ended (Refused fault)))
  no_instance_of_reader None from old fault why = tt
  no_instance_of_reader (Some bytes) from old fault why = λ texts have. no_instance bytes texts from old fault why (kept from, kept old)

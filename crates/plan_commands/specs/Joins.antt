-- What `join` answers of the bytes of an instance and of certificates, and what it writes.
use Rattle.std.specs.Prelude.{◌≡◌, ◌⊎◌, ℕ, List, [], ◌∷◌, ◌++◌, codes, decimal, Option}
use Rattle.std.specs.Io.KnownBytes.{Appends, Keeps}
use Rattle.ttp_model.specs.Instance.{Instance}
use Rattle.ttp_model.specs.Delays.{IsLowerBound}
use Rattle.certificate.specs.Cert.{Cert}
use Rattle.certificate.specs.Spelling.{SpellsCert}
use Rattle.tree_check.specs.declared.fault.CertFault.TheVariants.{At}
use Rattle.side_by_side.specs.Joined.{IsJoinedTree}
use Rattle.side_by_side.specs.Bounds.{IsGreatestBound}
use Rattle.certificate.specs.Versions.{answer_version}
use Rattle.side_by_side.specs.Faults as joining
use Rattle.side_by_side.specs.declared.fault.JoinFault.{JoinFault}
use Rattle.side_by_side.specs.declared.fault.JoinFault.TheVariants as fault
use Rattle.command_streams.specs.declared.ending.Sink.TheVariants as sink
use Rattle.command_streams.specs.declared.ending.Fault.{Fault}
use Rattle.command_streams.specs.declared.ending.Fault.TheVariants.{Certificate, Memory, Unwritten}
use Rattle.command_streams.specs.declared.ending.End.{End}
use Rattle.command_streams.specs.declared.ending.End.TheVariants.{Done, Refused}
use Rattle.command_streams.specs.Instances.{HasInstance, IsInstanceFault}
use Rattle.command_streams.specs.Streams.{AppendsPart}
use Rattle.plan_commands.specs.Given.{AreCertificates, IsFirstUnread}
use Rattle.plan_commands.specs.declared.join.ending.JoinEnd.{JoinEnd}
use Rattle.plan_commands.specs.declared.join.ending.JoinEnd.TheVariants.{Ended, RefusedAt}

-- the certificate that certificates of an instance make together
pub record IsJoinOf (i : Instance) (certs : List Cert) (cert : Cert) : Type 0 where
  pub tree : IsJoinedTree i certs cert.tree
  pub low : IsGreatestBound i cert.tree cert.low
  pub version : cert.version ≡ answer_version i
  pub bound : IsLowerBound i cert.low

-- the line of a bound
abbrev pub bound_line : ℕ → List ℕ
bound_line low = codes "bound " ++ (decimal low ++ 10 ∷ [])

-- how a certificate is written, and then its bound: both are, or the first of two writers that failed gained a part, or memory was refused
abbrev pub IsTelling : Cert → (from to old new : Option (List ℕ)) → End → Type 0
IsTelling cert from to old new Done = (text : List ℕ) × SpellsCert text cert × Appends from to text × Appends old new (bound_line cert.low)
IsTelling cert from to old new (Refused Memory) = Keeps from to × Keeps old new
IsTelling cert from to old new (Refused (Unwritten sink.Certificate)) = (text : List ℕ) × SpellsCert text cert × AppendsPart from to text × Keeps old new
IsTelling cert from to old new (Refused (Unwritten sink.Out)) =
    (text : List ℕ) × SpellsCert text cert × Appends from to text × AppendsPart old new (bound_line cert.low)
IsTelling cert from to old new _ = ⊥

-- what is told of an instance and certificates whose bytes are these
pub record IsTold (instance : List ℕ) (texts : List (List ℕ)) (from to old new : Option (List ℕ)) (end : End) : Type 0 where
  pub problem : Instance
  pub has_instance : HasInstance instance problem
  pub certs : List Cert
  pub are : AreCertificates texts certs
  pub cert : Cert
  pub joins : IsJoinOf problem certs cert
  pub telling : IsTelling cert from to old new end

-- what is wrong with the certificate of this number, where it would stand in the joined tree
abbrev pub IsWrong : Instance → List Cert → ℕ → Fault → Type 0
IsWrong i certs certificate (Certificate (At line fault)) = joining.IsAtFault i certs certificate line fault
IsWrong i certs certificate _ = ⊥

-- all certificates are read, and something is wrong with this one
pub record IsUnjoined (i : Instance) (texts : List (List ℕ)) (certificate : ℕ) (fault : Fault) : Type 0 where
  pub certs : List Cert
  pub are : AreCertificates texts certs
  pub wrong : IsWrong i certs certificate fault

-- why a certificate is refused: its text is the first that gives none, or all are read and it is wrong
abbrev pub IsRefusedOf : Instance → (texts : List (List ℕ)) → ℕ → Fault → Type 0
IsRefusedOf i texts certificate fault = IsFirstUnread texts certificate fault ⊎ IsUnjoined i texts certificate fault

-- certificates whose bytes are these make this one together
pub record HasJoin (i : Instance) (texts : List (List ℕ)) (cert : Cert) : Type 0 where
  pub certs : List Cert
  pub are : AreCertificates texts certs
  pub joins : IsJoinOf i certs cert

-- the end at a fault of certificates that are joined
abbrev pub end_of : JoinFault → JoinEnd
end_of (fault.At certificate line fault) = RefusedAt certificate (Certificate (At line fault))
end_of fault.OutOfMemory = Ended (Refused Memory)

-- why certificates whose bytes are these make none
abbrev pub HasNoJoin : Instance → (texts : List (List ℕ)) → JoinEnd → Type 0
HasNoJoin i texts (Ended (Refused Memory)) = Unit {0}
HasNoJoin i texts (Ended _) = ⊥
HasNoJoin i texts (RefusedAt certificate fault) = IsRefusedOf i texts certificate fault

-- the instance is stated, and a certificate is refused
pub record IsRefusedAt (instance : List ℕ) (texts : List (List ℕ)) (certificate : ℕ) (fault : Fault) : Type 0 where
  pub problem : Instance
  pub has_instance : HasInstance instance problem
  pub refused : IsRefusedOf problem texts certificate fault

-- what `join` answers, and what it writes: the joined text to a file that held `from`, and then the bound
abbrev pub IsJoinAnswer : (instance : List ℕ) (texts : List (List ℕ)) (from to old new : Option (List ℕ)) → JoinEnd → Type 0
IsJoinAnswer instance texts from to old new (Ended Done) = IsTold instance texts from to old new Done
IsJoinAnswer instance texts from to old new (Ended (Refused (Unwritten sink))) = IsTold instance texts from to old new (Refused (Unwritten sink))
IsJoinAnswer instance texts from to old new (Ended (Refused fault)) = IsInstanceFault instance fault × (Keeps from to × Keeps old new)
IsJoinAnswer instance texts from to old new (Ended _) = ⊥
IsJoinAnswer instance texts from to old new (RefusedAt certificate fault) =
    IsRefusedAt instance texts certificate fault × (Keeps from to × Keeps old new)

-- Which certificates texts spell, one after another, and why they spell none.
use Rattle.std.specs.Prelude.{ℕ, ◌<◌, ◌≤◌, List, [], ◌∷◌, length, take, slice_index_or}
use Rattle.certificate.specs.Cert.{Cert}
use Rattle.certificate.specs.Spelling.{SpellsCert}
use Rattle.certificate.specs.Reading.{HasLow, IsFaultIn, Reads}
use Rattle.command_streams.specs.declared.limits.TheConstants.{LONG_CERTIFICATE_LIMIT}
use Rattle.command_streams.specs.declared.ending.Source.TheVariants as source
use Rattle.command_streams.specs.declared.ending.Fault.{Fault}
use Rattle.command_streams.specs.declared.ending.Fault.TheVariants.{CertificateText, Memory, TooLong, Unread}
use Rattle.command_streams.specs.declared.ending.End.TheVariants.{Refused}
use Rattle.plan_commands.specs.declared.join.ending.JoinEnd.{JoinEnd}
use Rattle.plan_commands.specs.declared.join.ending.JoinEnd.TheVariants.{Ended, RefusedAt}

-- bytes are within their limit, and spell this certificate
pub record SpellsWithin (bytes : List ℕ) (cert : Cert) : Type 0 where
  pub within : length bytes ≤ LONG_CERTIFICATE_LIMIT
  pub spelled : SpellsCert bytes cert

-- texts spell certificates, each its own
abbrev pub AreCertificates : List (List ℕ) → List Cert → Type 0
AreCertificates [] [] = Unit {0}
AreCertificates [] (cert ∷ certs) = ⊥
AreCertificates (text ∷ texts) [] = ⊥
AreCertificates (text ∷ texts) (cert ∷ certs) = SpellsWithin text cert × AreCertificates texts certs

-- why bytes give no certificate
abbrev pub IsUnreadText : List ℕ → Fault → Type 0
IsUnreadText bytes Memory = Unit {0}
IsUnreadText bytes (Unread source.Certificate) = Unit {0}
IsUnreadText bytes (TooLong source.Certificate) = LONG_CERTIFICATE_LIMIT < length bytes
IsUnreadText bytes (CertificateText error) = (length bytes ≤ LONG_CERTIFICATE_LIMIT) × IsFaultIn (HasLow bytes) error (Reads bytes)
IsUnreadText bytes _ = ⊥

-- the end at a fault of the certificate of this number: want of memory is of none
abbrev pub end_at : ℕ → Fault → JoinEnd
end_at certificate Memory = Ended (Refused Memory)
end_at certificate fault = RefusedAt certificate fault

-- the text of this number is the first that gives no certificate
pub record IsFirstUnread (texts : List (List ℕ)) (certificate : ℕ) (fault : Fault) : Type 0 where
  pub inside : certificate < length texts
  pub certs : List Cert
  pub before : AreCertificates (take certificate texts) certs
  pub unread : IsUnreadText (slice_index_or texts certificate []) fault

-- why texts give no certificates
abbrev pub IsUnread : List (List ℕ) → JoinEnd → Type 0
IsUnread texts (Ended (Refused Memory)) = Unit {0}
IsUnread texts (Ended _) = ⊥
IsUnread texts (RefusedAt certificate fault) = IsFirstUnread texts certificate fault

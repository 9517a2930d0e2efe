-- What contracts see of a certificate. Own profile.
use Rattle.std.specs.Prelude.{ℕ, refl}
use Rattle.std.specs.Coded.{Coded, code_by, coded×, coded_ℕ}
use Rattle.certificate.specs.contracts.version.Version.{the_row}
use Rattle.certificate.specs.declared.version.Version.{Version}
use Rattle.certificate.specs.Trees.{Trees}
use Rattle.certificate.specs.TreeCode.{trees_code}

-- the version of its text, a bound in ticks, and a tree that is to show that no plan has a delay below it
pub record Cert : Type 0 where
  pub version : Version
  pub low : ℕ
  pub tree : Trees

-- a certificate is stored as the triple of its parts
abbrev pub certificate_code : Coded Cert
certificate_code =
    code_by (Version × (ℕ × Trees)) (coded× the_row.coded (coded× coded_ℕ trees_code)) (λ c. (c.version, (c.low, c.tree)))
    (λ p. record { version = p.0; low = p.1.0; tree = p.1.1 }) (λ _. refl)

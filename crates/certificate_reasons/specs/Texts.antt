-- Why a text spells no certificate: the line at fault, what is wrong with it, and what has to stand there. Own profile.
use Rattle.std.specs.Prelude.{◌≡◌, ℕ, List}
use Rattle.certificate.specs.declared.fault.LineFault.{LineFault}
use Rattle.certificate_reasons.specs.declared.texts.TextReason.{TextReason}
use Rattle.certificate_reasons.specs.Lines.{IsCertLine}
use Rattle.certificate_reasons.specs.Places.{awaited_at}

pub record IsTextReason (text : List ℕ) (line : ℕ) (fault : LineFault) (r : TextReason) : Type 0 where
  pub line_is : IsCertLine text line r.line
  pub fault_is : r.fault ≡ fault
  pub place_is : r.place ≡ awaited_at text line

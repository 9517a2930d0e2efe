-- What stands in a line of a certificate's text. Own profile.
use Rattle.std.specs.Prelude.{◌≡◌, ℕ, List}
use Rattle.line_text.specs.TextLines.{numbered_line}
use Rattle.certificate_reasons.specs.declared.lines.CertLine.{CertLine}

pub record IsCertLine (text : List ℕ) (number : ℕ) (x : CertLine) : Type 0 where
  pub number_is : x.number ≡ number
  pub text_is : x.text.now ≡ numbered_line text number

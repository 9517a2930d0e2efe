-- The first lines of a text.
use Rattle.std.proofs.Common.{◌≡◌, ℕ, Bool, true, false, cond, List, ◌∷◌, ◌++◌, Some, None, Ok, ap, subst, ◌∙◌, refl}
use Rattle.std.specs.Prelude.{bytes_eq, codes}
use Rattle.std.proofs.lemmas.Slice.Eq.{bytes_eq-Decides}
use Rattle.line_text.specs.Parts.{Lacks, cut}
use Rattle.line_text.proofs.Cuts.{cut_takes, cut_again, Lacks-from_test}
use Rattle.line_text.proofs.Results.{or_fault_ok}
use Rattle.certificate.specs.declared.fault.LineFault.TheVariants.{EarlyEnd}
use Rattle.certificate.specs.declared.fault.CertTextError.TheVariants.{At}
use Rattle.certificate.specs.declared.version.Version.{Version}
use Rattle.certificate.specs.declared.version.Version.TheVariants.{One, Two}
use Rattle.certificate.specs.Versions.{version_line, version_of}
use Rattle.certificate.specs.Reading.{line_at}

pub line_takes : (line : ℕ) (text first rest : List ℕ) → line_at line text ≡ Ok (first, rest) → text ≡ first ++ 10 ∷ rest
line_takes line text first rest e = (cut_takes 10 text first rest (or_fault_ok (At line EarlyEnd) (cut 10 text) (first, rest) e)).0

pub line_again : (line : ℕ) (first rest : List ℕ) → Lacks 10 first → line_at line (first ++ 10 ∷ rest) ≡ Ok (first, rest)
line_again line first rest lacks = rw (cut_again 10 first rest lacks) refl

found_line : (line : List ℕ) (one two : Bool) → bytes_eq line (version_line One) ≡ one → bytes_eq line (version_line Two) ≡ two
    → (version : Version) → cond one (Some One) (cond two (Some Two) None) ≡ Some version → line ≡ version_line version
found_line line true two a b version e =
    let is : One ≡ version = cc in
    subst (λ (v : Version). line ≡ version_line v) is ((bytes_eq-Decides line (version_line One)).0 a)
found_line line false true a b version e =
    let is : Two ≡ version = cc in
    subst (λ (v : Version). line ≡ version_line v) is ((bytes_eq-Decides line (version_line Two)).0 b)
found_line line false false a b version e = absurd cc

-- a line that names a version is that version's
pub version_said : (line : List ℕ) (version : Version) → version_of line ≡ Some version → line ≡ version_line version
version_said line version e = found_line line (bytes_eq line (version_line One)) (bytes_eq line (version_line Two)) refl refl version e

pub version_again : (version : Version) → version_of (version_line version) ≡ Some version
version_again One = refl
version_again Two = refl

pub version_lacks : (version : Version) → Lacks 10 (version_line version)
version_lacks One = Lacks-from_test 10 (codes "ttcert 1") refl
version_lacks Two = Lacks-from_test 10 (codes "ttcert 2") refl

pub version_takes : (text first rest : List ℕ) (version : Version) → line_at 1 text ≡ Ok (first, rest) → version_of first ≡ Some version → text ≡ version_line version ++ 10 ∷ rest
version_takes text first rest version e v = line_takes 1 text first rest e ∙ ap (λ (line : List ℕ). line ++ 10 ∷ rest) (version_said first version v)

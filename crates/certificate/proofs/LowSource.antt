-- What a source of lines says of the bound.
use Rattle.std.proofs.Common.{◌≡◌, ℕ, List, Some, None, Ok, Err, refl, sym, ap, ◌∙◌}
use Rattle.certificate.specs.declared.fault.LineFault.TheVariants.{FirstLine}
use Rattle.certificate.specs.declared.fault.CertTextError.{CertTextError}
use Rattle.certificate.specs.declared.fault.CertTextError.TheVariants.{At}
use Rattle.certificate.specs.declared.version.Version.{Version}
use Rattle.certificate.specs.Versions.{version_of, allows_low}
use Rattle.certificate.specs.Words.{low_words, lows_with}
use Rattle.certificate.specs.Reading.{line_at, said_in, low_at}
use Rattle.certificate.specs.Sources.{Says, Fails, HasText}

low_without_first : (text : List ℕ) (fault : CertTextError) → line_at 1 text ≡ Err fault → low_at text ≡ Err fault
unfolding low_at
low_without_first text fault a = rw a refl

low_of_no_version : (text first after : List ℕ) → line_at 1 text ≡ Ok (first, after) → version_of first ≡ None → low_at text ≡ Err (At 1 FirstLine)
unfolding low_at
low_of_no_version text first after a b = rw (a, b) refl

low_without_second : (version : Version) (text first after : List ℕ) (fault : CertTextError) → line_at 1 text ≡ Ok (first, after) → version_of first ≡ Some version → line_at 2 after ≡ Err fault → low_at text ≡ Err fault
unfolding low_at
low_without_second version text first after fault a b c = rw (a, b, c) refl

low_unsaid : (version : Version) (text first after second rest : List ℕ) (fault : CertTextError) → line_at 1 text ≡ Ok (first, after) → version_of first ≡ Some version → line_at 2 after ≡ Ok (second, rest)
    → said_in low_words lows_with allows_low 2 second ≡ Err fault → low_at text ≡ Err fault
unfolding low_at
low_unsaid version text first after second rest fault a b c d = rw (a, b, c, d) refl

low_joined : (version : Version) (text first after second rest : List ℕ) (low : ℕ) → line_at 1 text ≡ Ok (first, after) → version_of first ≡ Some version → line_at 2 after ≡ Ok (second, rest)
    → said_in low_words lows_with allows_low 2 second ≡ Ok low → low_at text ≡ Ok ((version, low), rest)
unfolding low_at
low_joined version text first after second rest low a b c d = rw (a, b, c, d) refl

at_line : (line number : ℕ) (text : List ℕ) → line ≡ number → line_at number text ≡ line_at line text
at_line line number text e = ap (λ (n : ℕ). line_at n text) (sym e)

pub first_line_fails : (Before : List ℕ → Type 0) (one : ℕ) → one ≡ 1 → (fault : CertTextError) → Fails Before (line_at one) fault → Fails Before low_at fault
first_line_fails Before one e fault f = (f.0, (f.1.0, low_without_first f.0 fault (at_line one 1 f.0 e ∙ f.1.1)))

module _ (Before Middle : List ℕ → Type 0) (one : ℕ) (is_one : one ≡ 1) (first : List ℕ) (said : Says Before Middle (line_at one) first) where
  pub version_fails : HasText Middle → version_of first ≡ None → Fails Before low_at (At 1 FirstLine)
  version_fails has other =
      let t = said has.0 has.1 in (t.0, (t.1.0, low_of_no_version t.0 first has.0 (at_line one 1 t.0 is_one ∙ t.1.1) other))

  module _ (version : Version) (names : version_of first ≡ Some version) (two : ℕ) (is_two : two ≡ 2) where
    pub second_line_fails : (fault : CertTextError) → Fails Middle (line_at two) fault → Fails Before low_at fault
    second_line_fails fault f =
        let t = said f.0 f.1.0 in
        (t.0, (t.1.0, low_without_second version t.0 first f.0 fault (at_line one 1 t.0 is_one ∙ t.1.1) names (at_line two 2 f.0 is_two ∙ f.1.1)))

    module _ (After : List ℕ → Type 0) (second : List ℕ) (says : Says Middle After (line_at two) second) where
      pub word_fails : HasText After → (fault : CertTextError) → said_in low_words lows_with allows_low 2 second ≡ Err fault → Fails Before low_at fault
      word_fails has fault e =
          let u = says has.0 has.1 in
          let t = said u.0 u.1.0 in
          (t.0, (t.1.0, low_unsaid version t.0 first u.0 second has.0 fault (at_line one 1 t.0 is_one ∙ t.1.1) names (at_line two 2 u.0 is_two ∙ u.1.1) e))

      pub low_says : (low : ℕ) → said_in low_words lows_with allows_low 2 second ≡ Ok low → Says Before After low_at (version, low)
      low_says low e rest left =
          let u = says rest left in
          let t = said u.0 u.1.0 in
          (t.0, (t.1.0, low_joined version t.0 first u.0 second rest low (at_line one 1 t.0 is_one ∙ t.1.1) names (at_line two 2 u.0 is_two ∙ u.1.1) e))

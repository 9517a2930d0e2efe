-- Reading the words of a cycle's line one after another, as a loop does.
use Rattle.std.proofs.Common.{◌≡◌, ℕ, Bool, true, false, List, [], ◌∷◌, ◌++◌, ◌&&◌, length, map, Some, Ok, refl, ◌∙◌, arith}
use Rattle.std.specs.Prelude.{codes, nat_le}
use Rattle.std.specs.List.{list_all}
use Rattle.line_text.specs.declared.number.NumberWord.{NumberWord}
use Rattle.line_text.specs.Parts.{cut}
use Rattle.line_text.specs.Results.{◌>>=◌, or_fault, check}
use Rattle.ttp_model.specs.declared.step.Step.TheVariants.{XCycle}
use Rattle.certificate.specs.declared.fault.LineFault.TheVariants.{Form, Number}
use Rattle.certificate.specs.declared.fault.CertTextError.{CertTextError}
use Rattle.certificate.specs.declared.fault.CertTextError.TheVariants.{At, OutOfMemory}
use Rattle.certificate.specs.Words.{step_words, steps_with}
use Rattle.certificate.specs.declared.version.Version.{Version}
use Rattle.certificate.specs.Versions.{allows_step}
use Rattle.certificate.specs.Reading.{numbers_of, is_number_word, fits, value_of, with_keyword, said_in, IsFaultOf}
use Rattle.certificate.specs.Numbers.{ring_with, ring_at}

-- how far the loop is
pub record IsReadSoFar (text processes : List ℕ) (fit : Bool) (rest : List ℕ) : Type 0 where
  pub numerals : list_all is_number_word (numbers_of rest) ≡ list_all is_number_word (numbers_of text)
  pub sizes : (fit && list_all fits (numbers_of rest)) ≡ list_all fits (numbers_of text)
  pub values : processes ++ map value_of (numbers_of rest) ≡ map value_of (numbers_of text)

and_one : (a b : Bool) → (a && b) ≡ (a && (b && true))
and_one true true = refl
and_one true false = refl
and_one false b = refl

pub is_done : (line : ℕ) (text processes : List ℕ) (fit : Bool) (rest : List ℕ) (word : NumberWord) → IsReadSoFar text processes fit rest → numbers_of rest ≡ word ∷ [] → is_number_word word ≡ true
    → ring_with line (processes ++ value_of word ∷ []) (fit && fits word) ≡ ring_at line text
unfolding ring_at
is_done line text processes fit rest word so_far last numeral =
    let numerals : true ≡ list_all is_number_word (numbers_of text) = rw (last, numeral) at so_far.numerals in
    let sizes : (fit && (fits word && true)) ≡ list_all fits (numbers_of text) = rw last at so_far.sizes in
    let values : processes ++ value_of word ∷ [] ≡ map value_of (numbers_of text) = rw last at so_far.values in
    rw (← numerals, ← sizes, ← values, and_one fit (fits word)) refl

-- ---- a cycle's line is one of the lines of steps

long : (a b : ℕ) (more : List ℕ) → nat_le 2 (length (a ∷ b ∷ more)) ≡ true
long a b more = grind arith

said_cycle : (version : Version) (line : ℕ) (ns : List ℕ) (form size : Bool)
    → (check (At line Form) form >>= λ _. or_fault (At line Form) (with_keyword step_words (codes "x-cycle") (steps_with ns)) >>= λ step. check (At line Form) (allows_step version step) >>= λ _. check (At line Number) size >>= λ _. Ok step)
    ≡ ((check (At line Form) form >>= λ _. ring_with line ns size) >>= λ ps. Ok (XCycle ps))
said_cycle version line ns false size = refl
said_cycle version line [] true size = refl
said_cycle version line (a ∷ []) true size = refl
said_cycle version line (a ∷ b ∷ []) true true = refl
said_cycle version line (a ∷ b ∷ []) true false = refl
said_cycle version line (a ∷ b ∷ c ∷ []) true true = refl
said_cycle version line (a ∷ b ∷ c ∷ []) true false = refl
said_cycle version line (a ∷ b ∷ c ∷ d ∷ []) true true = refl
said_cycle version line (a ∷ b ∷ c ∷ d ∷ []) true false = refl
said_cycle version line (a ∷ b ∷ c ∷ d ∷ e ∷ ns) true true = rw (long a b (c ∷ d ∷ e ∷ ns)) refl
said_cycle version line (a ∷ b ∷ c ∷ d ∷ e ∷ ns) true false = rw (long a b (c ∷ d ∷ e ∷ ns)) refl

pub cycle_in : (version : Version) (line : ℕ) (text keyword rest : List ℕ) → cut 32 text ≡ Some (keyword, rest) → keyword ≡ codes "x-cycle"
    → said_in step_words steps_with (allows_step version) line text ≡ (ring_at line rest >>= λ ps. Ok (XCycle ps))
unfolding said_in ring_at
cycle_in version line text keyword rest e k =
    rw (e, k) (said_cycle version line (map value_of (numbers_of rest)) (list_all is_number_word (numbers_of rest)) (list_all fits (numbers_of rest)))

pub cycle_is : (version : Version) (line : ℕ) (text keyword rest ps : List ℕ) → cut 32 text ≡ Some (keyword, rest) → keyword ≡ codes "x-cycle" → ring_at line rest ≡ Ok ps → said_in step_words steps_with (allows_step version) line text ≡ Ok (XCycle ps)
cycle_is version line text keyword rest ps e k r = cycle_in version line text keyword rest e k ∙ rw r refl

pub cycle_fails : (version : Version) (fault : CertTextError) (line : ℕ) (text keyword rest : List ℕ) → cut 32 text ≡ Some (keyword, rest) → keyword ≡ codes "x-cycle" → IsFaultOf (Unit {0}) fault (ring_at line rest) → IsFaultOf (Unit {0}) fault (said_in step_words steps_with (allows_step version) line text)
cycle_fails version OutOfMemory line text keyword rest e k r = tt
cycle_fails version (At at fault) line text keyword rest e k r = cycle_in version line text keyword rest e k ∙ rw r refl

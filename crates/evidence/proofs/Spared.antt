-- A request that is sound spares the instance's file.
use Rattle.std.proofs.Common.{◌≡◌, ◌++◌, ◌∙◌, ℕ, List, Option, None, Some, IfSome, Bor, codes, false, refl, ap, sym}
use Rattle.command_line.specs.declared.words.Request.{Request}
use Rattle.command_line.specs.declared.words.Request.TheVariants.{Solve, Limit as Limiting, Margin as Lengthening}
use Rattle.command_line.specs.Names.{IsOtherFile, NameOneFile, is_rooted, parts}
use Rattle.command_line.specs.declared.words.Search.{Search}
use Rattle.command_line.specs.Requests.{IsApart, IsSound}
use Rattle.evidence.specs.Words.{SparesInstance}

here_again : (name : List ℕ) → parts (codes "./" ++ name) ≡ parts name
here_again name = refl

spelled_again : (name file : List ℕ) → is_rooted name ≡ false → file ≡ codes "./" ++ name → NameOneFile file name
spelled_again name file local is = (ap is_rooted is ∙ sym local, ap parts is ∙ here_again name)

another : (search : Search) (certificate : Option (Bor (List ℕ))) → IfSome certificate (λ file. IsApart search file.now)
    → IfSome certificate (λ file. is_rooted search.instance.now ≡ false → file.now ≡ codes "./" ++ search.instance.now → ⊥)
another search None apart = tt
another search (Some file) apart = λ local is. apart.0 (spelled_again search.instance.now file.now local is)

limited : (name : List ℕ) (certificate : Option (Bor (List ℕ))) → IfSome certificate (λ file. IsOtherFile file.now name)
    → IfSome certificate (λ file. is_rooted name ≡ false → file.now ≡ codes "./" ++ name → ⊥)
limited name None apart = tt
limited name (Some file) apart = λ local is. apart (spelled_again name file.now local is)

pub spares : (request : Request) → IsSound request → SparesInstance request
spares (Solve search) sound = another search search.certificate sound.certificate
spares (Limiting limit) sound = limited limit.question.instance.now limit.question.certificate sound.question.certificate
spares (Lengthening margin) sound = limited margin.question.instance.now margin.question.certificate sound.question.certificate
spares _ sound = tt

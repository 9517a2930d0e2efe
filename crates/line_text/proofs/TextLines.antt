-- A line that was looked for in a text is that of its number.
use Rattle.std.proofs.Common.{◌≡◌, ◌-◌, ◌∙◌, ℕ, List, [], Option, None, Some, Bor, ap, refl}
use Rattle.std.specs.Option.{option_map, unwrap_or}
use Rattle.std.specs.List.{slice_get}
use Rattle.std.proofs.lemmas.Option.{unwrap_or-slice_get}
use Rattle.line_text.specs.TextLines.{numbered_line, text_lines}

-- the list that an answer holds, or that of the answer that stands for none
now_of : (found : Option (Bor (List ℕ))) (other : Bor (List ℕ)) → (unwrap_or found other).now ≡ unwrap_or (option_map (λ x. x.now) found) other.now
now_of None other = refl
now_of (Some line) other = refl

pub line_found : (text : List ℕ) (number place : ℕ) (found : Option (Bor (List ℕ))) (other line : Bor (List ℕ)) → line ≡ unwrap_or found other → other.now ≡ []
    → place ≡ number - 1 → option_map (λ x. x.now) found ≡ slice_get (text_lines text) place → line.now ≡ numbered_line text number
line_found text number place found other line is nothing place_is here =
    let seen = ap (λ (l : Bor (List ℕ)). l.now) is ∙ now_of found other in
    let got : line.now ≡ unwrap_or (slice_get (text_lines text) place) [] = rw (here, nothing) at seen in
    rw (← place_is) (got ∙ unwrap_or-slice_get (text_lines text) place [])

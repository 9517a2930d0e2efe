-- What a text begins like that stands in place of another one. Own profile.
use Rattle.std.specs.Prelude.{ℕ, ◌==◌, Bool, ◌||◌, List, [], codes, if◌then◌else◌, nat_eq}
use Rattle.std.specs.List.{starts_with}
use Rattle.line_text.specs.TextLines.{numbered_line}

-- a text begins like a plan, or like a certificate
abbrev pub is_like_plan : List ℕ → Bool
is_like_plan bytes = starts_with nat_eq bytes (codes "ttplan ")

abbrev pub is_like_certificate : List ℕ → Bool
is_like_certificate bytes = starts_with nat_eq bytes (codes "ttcert ")

-- or like an instance: with a table, or a comment
abbrev pub is_like_instance : List ℕ → Bool
is_like_instance bytes = starts_with nat_eq bytes (codes "[") || starts_with nat_eq bytes (codes "#")

-- that it begins like a certificate
abbrev pub certificate_words : List ℕ
certificate_words = codes "The text begins like a certificate, with ttcert: the words are INSTANCE first, and then --cert CERT.\n"

-- where an instance has to stand
abbrev pub in_place_of_instance : List ℕ → List ℕ
in_place_of_instance bytes =
    if is_like_plan bytes then codes "The text begins like a plan, with ttplan: the words are INSTANCE first, and then PLAN.\n"
    else (if is_like_certificate bytes then certificate_words else [])

-- where a plan has to stand
abbrev pub in_place_of_plan : List ℕ → List ℕ
in_place_of_plan bytes =
    if is_like_certificate bytes then certificate_words
    else (if is_like_instance bytes then codes "The text begins like an instance: the words are INSTANCE first, and then PLAN.\n"
    else (if is_like_plan (numbered_line bytes 2) then codes "A plan begins at line 2.\n"
    else []))

-- where its first line is at fault
abbrev pub first_line_words : List ℕ → ℕ → List ℕ
first_line_words bytes line = if line == 1 then in_place_of_plan bytes else []

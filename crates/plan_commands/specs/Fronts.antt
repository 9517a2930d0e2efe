-- How the bytes in a plan's place begin: as a plan, or as what a search printed that says more or found no plan. Own profile.
use Rattle.std.specs.Prelude.{◌≡◌, ◌≢◌, ℕ, ◌<◌, ◌^◌, ◌⊎◌, List, [], ◌∷◌, ◌++◌, codes, decimal}
use Rattle.plan_commands.specs.declared.front.Front.{Front}
use Rattle.plan_commands.specs.declared.front.Front.TheVariants.{Plan, Headed, Bare, NoPlan}

-- the word is a number that fits 32 bits
abbrev pub IsNumber : List ℕ → Type 0
IsNumber word = (n : ℕ) × (word ≡ decimal n) × (n < 2 ^ 32)

-- the word says why a search stopped
abbrev pub IsWhyWord : List ℕ → Type 0
IsWhyWord word =
    (word ≡ codes "budget") ⊎ ((word ≡ codes "memory") ⊎ ((word ≡ codes "until") ⊎ ((word ≡ codes "time")
    ⊎ ((word ≡ codes "gap") ⊎ (word ≡ codes "part")))))

-- the word for the best that is known: a number where a plan was found, or that none was
abbrev pub IsBestWord : Front → List ℕ → Type 0
IsBestWord Plan word = ⊥
IsBestWord Headed word = IsNumber word
IsBestWord Bare word = word ≡ codes "none"
IsBestWord NoPlan word = ⊥

-- the words are a bound, and the best that is known
pub record AreBounds (words : List ℕ) (front : Front) : Type 0 where
  pub low : List ℕ
  pub best : List ℕ
  pub is_low : IsNumber low
  pub is_best : IsBestWord front best
  pub are : words ≡ low ++ 32 ∷ best

-- they are why a search stopped, and those
pub record AreStopped (words : List ℕ) (front : Front) : Type 0 where
  pub why : List ℕ
  pub rest : List ℕ
  pub is_why : IsWhyWord why
  pub bounds : AreBounds rest front
  pub are : words ≡ why ++ 32 ∷ rest

-- they are a tick by which processes end, as they do in a plan
abbrev pub IsEnd : List ℕ → Front → Type 0
IsEnd word Plan = ⊥
IsEnd word Headed = IsNumber word
IsEnd word Bare = ⊥
IsEnd word NoPlan = ⊥

-- a line of a keyword and such words, without its end
pub record IsLineOf (keyword : List ℕ) (Are : List ℕ → Front → Type 0) (line : List ℕ) (front : Front) : Type 0 where
  pub words : List ℕ
  pub are : Are words front
  pub line_is : line ≡ keyword ++ words

-- The line that is printed in front of a plan: of a search that was stopped, of processes that can end by a tick, or of a search for that
-- which was stopped. Its numbers aren't judged.
abbrev pub IsAnswerLine : List ℕ → Front → Type 0
IsAnswerLine line front =
    IsLineOf (codes "stopped ") AreStopped line front
    ⊎ (IsLineOf (codes "between ") AreBounds line front ⊎ IsLineOf (codes "limit ") IsEnd line front)

-- the bytes of such a line with its end, at most: three words, two numbers of ten digits, and what parts them
abbrev pub longest_answer_line : ℕ
longest_answer_line = 37

-- the bytes are such a line with its end, and what stands behind it
pub record BeginsAnswer (bytes : List ℕ) (front : Front) (rest : List ℕ) : Type 0 where
  pub line : List ℕ
  pub is : IsAnswerLine line front
  pub bytes_are : bytes ≡ line ++ 10 ∷ rest

-- the word that no plan is valid, with its end
abbrev pub no_plan_text : List ℕ
no_plan_text = codes "none\n"

-- How the bytes begin, and what stands behind that. What is neither that word nor begins with such a line is a plan's text.
abbrev pub BeginsWith : List ℕ → Front → List ℕ → Type 0
BeginsWith bytes Plan rest =
    (rest ≡ bytes) × ((bytes ≢ no_plan_text) × ((front : Front) (behind : List ℕ) → ¬ BeginsAnswer bytes front behind))
BeginsWith bytes Headed rest = BeginsAnswer bytes Headed rest
BeginsWith bytes Bare rest = BeginsAnswer bytes Bare rest
BeginsWith bytes NoPlan rest = (bytes ≡ no_plan_text) × (rest ≡ [])

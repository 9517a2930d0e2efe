-- A word that spells a loss is cut into its three parts, so a word that isn't spells none.
use Rattle.std.proofs.Common.{◌≡◌, ◌∙◌, ℕ, ◌<◌, ◌^◌, List, [], ◌∷◌, ◌++◌, Bool, true, false, Option, None, Some, codes, decimal, refl, sym, ap, arith}
use Rattle.std.proofs.lemmas.Bool.{false≢true}
use Rattle.line_text.specs.Parts.{cut}
use Rattle.line_text.proofs.Cuts.{cut_again}
use Rattle.line_text.proofs.Digits.{decimal_lacks, number_again}
use Rattle.line_text.specs.Numbers.{number_word}
use Rattle.line_text.specs.declared.number.NumberWord.TheVariants.{Malformed, Number}
use Rattle.plan_commands.specs.declared.losses.LossWord.{LossWord}
use Rattle.plan_commands.specs.declared.losses.Receivers.{Receivers}
use Rattle.plan_commands.specs.declared.losses.Receivers.TheVariants.{One, Every}
use Rattle.plan_commands.specs.LossWords.{AreInRange, IsLossWord, Spells, receivers_text}

abbrev loss_of : ℕ → ℕ → Receivers → LossWord
loss_of r s x = record { round = r; slot = s; receivers = x }

front_of : Option (List ℕ × List ℕ) → List ℕ
front_of None = []
front_of (Some parts) = parts.0

rest_of : Option (List ℕ × List ℕ) → List ℕ
rest_of None = []
rest_of (Some parts) = parts.1

is_cut : Option (List ℕ × List ℕ) → Bool
is_cut None = false
is_cut (Some parts) = true

-- a number is cut off where the byte / follows it
number_cut : (n : ℕ) (rest : List ℕ) → n < 2 ^ 32 → cut 47 (decimal n ++ 47 ∷ rest) ≡ Some (decimal n, rest)
number_cut n rest fits = cut_again 47 (decimal n) rest (decimal_lacks 47 n (omega arith) (omega (arith, fits)))

module _ (word : List ℕ) (loss : LossWord) (spelled : Spells word loss) where
  abbrev behind : List ℕ
  behind = decimal loss.slot ++ 47 ∷ receivers_text loss.receivers

  first_cut : cut 47 word ≡ Some (decimal loss.round, behind)
  first_cut = ap (cut 47) spelled.text ∙ number_cut loss.round behind spelled.round

  second_cut : cut 47 behind ≡ Some (decimal loss.slot, receivers_text loss.receivers)
  second_cut = number_cut loss.slot (receivers_text loss.receivers) spelled.slot

pub no_first : (word : List ℕ) → None ≡ cut 47 word → ¬ IsLossWord word
unfolding is_cut
no_first word none = λ is. false≢true (ap is_cut (none ∙ first_cut word is.loss is.spelled))

module _ (word front rest : List ℕ) (first : Some (front, rest) ≡ cut 47 word) where
  module _ (loss : LossWord) (spelled : Spells word loss) where
    front_is : front ≡ decimal loss.round
    unfolding front_of
    front_is = ap front_of (first ∙ first_cut word loss spelled)

    rest_cut : cut 47 rest ≡ Some (decimal loss.slot, receivers_text loss.receivers)
    unfolding rest_of
    rest_cut = ap (cut 47) (ap rest_of (first ∙ first_cut word loss spelled)) ∙ second_cut word loss spelled

  pub no_second : None ≡ cut 47 rest → ¬ IsLossWord word
  unfolding is_cut
  no_second none = λ is. false≢true (ap is_cut (none ∙ rest_cut is.loss is.spelled))

  pub no_round : ((n : ℕ) → front ≡ decimal n → n < 2 ^ 32 → false ≡ true) → ¬ IsLossWord word
  no_round only = λ is. false≢true (only is.loss.round (front_is is.loss is.spelled) is.spelled.round)

  module _ (slot receivers : List ℕ) (second : Some (slot, receivers) ≡ cut 47 rest) where
    pub no_slot : ((n : ℕ) → slot ≡ decimal n → n < 2 ^ 32 → false ≡ true) → ¬ IsLossWord word
    unfolding front_of
    no_slot only = λ is. false≢true (only is.loss.slot (ap front_of (second ∙ rest_cut is.loss is.spelled)) is.spelled.slot)

    pub no_receivers : ((at : Receivers) → receivers ≡ receivers_text at → AreInRange at → false ≡ true) → ¬ IsLossWord word
    unfolding rest_of
    no_receivers only = λ is. false≢true (only is.loss.receivers (ap rest_of (second ∙ rest_cut is.loss is.spelled)) is.spelled.receivers)

-- a number has one spelling
number_once : (m n : ℕ) → m < 2 ^ 32 → n < 2 ^ 32 → decimal m ≡ decimal n → m ≡ n
number_once m n first second same =
    let is : Number m ≡ Number n = sym (number_again m first) ∙ ap number_word same ∙ number_again n second in
    cc

star_is_no_number : (n : ℕ) → n < 2 ^ 32 → ¬ (decimal n ≡ codes "*")
unfolding number_word
star_is_no_number n fits same =
    let is : Number n ≡ Malformed = sym (number_again n fits) ∙ ap number_word same in
    cc

receivers_once : (a b : Receivers) → AreInRange a → AreInRange b → receivers_text a ≡ receivers_text b → a ≡ b
receivers_once (One m) (One n) first second same = ap One (number_once m n first second same)
receivers_once (One m) Every first second same = absurd (star_is_no_number m first same)
receivers_once Every (One n) first second same = absurd (star_is_no_number n second (sym same))
receivers_once Every Every first second same = refl

loss_once : (r s r' s' : ℕ) (x x' : Receivers) → r ≡ r' → s ≡ s' → x ≡ x' → loss_of r s x ≡ loss_of r' s' x'
loss_once r s r' s' x x' round slot receivers = rw (round, slot, receivers) refl

-- so has a loss, and a word spells one at most
pub spelled_once : (word : List ℕ) (a b : LossWord) → Spells word a → Spells word b → a ≡ b
unfolding front_of rest_of
spelled_once word a b first second =
    let whole = sym (first_cut word a first) ∙ first_cut word b second in
    let rest = sym (second_cut word a first) ∙ ap (cut 47) (ap rest_of whole) ∙ second_cut word b second in
    loss_once a.round a.slot b.round b.slot a.receivers b.receivers (number_once a.round b.round first.round second.round (ap front_of whole))
    (number_once a.slot b.slot first.slot second.slot (ap front_of rest))
    (receivers_once a.receivers b.receivers first.receivers second.receivers (ap rest_of rest))

-- What is known, with one order more.
use Rattle.std.proofs.Common.{◌≡◌, ℕ, IsFalse, arith, refl, ap, sym, ◌∙◌}
use Rattle.ttp_model.specs.Instance.{Instance}
use Rattle.tt_choice.specs.Precedence.{put_before}
use Rattle.tt_choice.specs.Choice.{ArePair}
use Rattle.tt_infer.specs.Known.{Known, Fits, bef_of}
use Rattle.tt_infer.specs.Conclusions.{Conclusion, StartsFrom, EndsUntil, SentFrom, SentBefore, GoesFirst, NothingLeft, sharpened}
use Rattle.step_logs.proofs.one_order.Tables.{puts_commute, same_without}

-- and p goes before q
abbrev pub ordered : Known → ℕ → ℕ → Known
ordered f p q = record f { bef = put_before f.bef p q }

-- a conclusion is drawn before that or after it
pub sharpened_ordered : (i : Instance) (f : Known) (p q : ℕ) (k : Conclusion) → ordered (sharpened i f k) p q ≡ sharpened i (ordered f p q) k
sharpened_ordered i f p q (StartsFrom x time) = refl
sharpened_ordered i f p q (EndsUntil x time) = refl
sharpened_ordered i f p q (SentFrom m r) = refl
sharpened_ordered i f p q (SentBefore m r) = refl
sharpened_ordered i f p q (GoesFirst x y) = λ z. record f { bef = puts_commute f.bef x y p q z }
sharpened_ordered i f p q NothingLeft = refl

-- what is known without that order is the same where it is so with it
pub same_unordered : (i : Instance) (f g : Known) (p q : ℕ) → ArePair i p q → Fits i f → Fits i g → IsFalse (bef_of f p q) → IsFalse (bef_of g p q) → ordered g p q ≡ ordered f p q → g ≡ f
same_unordered i f g p q pair old new unknown still same =
    let bef : g.bef ≡ f.bef = same_without g.bef f.bef p q (omega (arith, new.processes, pair.first)) (omega (arith, new.processes, pair.second)) (new.processes ∙ sym old.processes) still unknown (ap (λ (k : Known). k.bef) same) in
    λ z. record { es = (same z).es; le = (same z).le; lo = (same z).lo; top = (same z).top; bef = bef z; closed = (same z).closed }

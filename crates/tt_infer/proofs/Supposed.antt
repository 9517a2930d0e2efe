-- What is known holds inside, with one order more.
use Rattle.std.proofs.Common.{ℕ}
use Rattle.tt_choice.specs.Choice.{IsChoice}
use Rattle.tt_choice.specs.Branches.{order_pair, IsUnorderedPair}
use Rattle.tt_choice.proofs.Members.{IsIn-order}
use Rattle.sought_plans.specs.Known.{Hold, IsSought}
use Rattle.sought_plans.specs.Conclusions.{GoesFirst, sharpened}
use Rattle.tt_infer.specs.Facts.{Facts, AreFacts}
use Rattle.tt_infer.proofs.Keeps.{AreTrueOf-sharpened, Fits-sharpened}

-- with the order of a pair
abbrev pub supposed : Facts → ℕ → ℕ → Facts
supposed s p q = record {
  instance = s.instance;
  choice = order_pair s.choice p q;
  goal = s.goal;
  known = sharpened s.instance s.known (GoesFirst p q);
}

pub holds_supposed : (s : Facts) (p q : ℕ) → AreFacts s → IsUnorderedPair s.instance s.choice p q → Hold s.instance (order_pair s.choice p q) s.goal (sharpened s.instance s.known (GoesFirst p q))
holds_supposed s p q h pair plan sought =
    let both = (IsIn-order s.instance s.choice plan p q h.choice pair).0 sought.chosen in
    let outside : IsSought s.instance s.choice s.goal plan = record { settled = sought.settled; chosen = both.0; better = sought.better } in
    AreTrueOf-sharpened s.instance plan s.known (GoesFirst p q) h.fits (h.holds plan outside) (pair.pair.first, pair.pair.second) both.1

pub supposed_inference : (s : Facts) (p q : ℕ) → AreFacts s → IsUnorderedPair s.instance s.choice p q → IsChoice s.instance (order_pair s.choice p q) → AreFacts (supposed s p q)
supposed_inference s p q h pair choice = record {
  instance = h.instance;
  choice = choice;
  fits = Fits-sharpened s.instance s.known (GoesFirst p q) h.fits;
  holds = holds_supposed s p q h pair;
}

use Rattle.std.proofs.Common.{◌≡◌, ◌∙◌, List, ◌∷◌, ℕ, ap, arith, drop, reverse, sym}
use Rattle.certificate_reasons.proofs.Heights.{highest_more, rest_more, turned}
use Rattle.certificate_reasons.proofs.depth.take_highest.Goals as goal

pub loop-k-preserved : goal.loop-k-preserved
loop-k-preserved c =
    let hs = reverse c.args.heights.now.items in
    let left = reverse c.pop.new.self.items in
    let is : drop c.loop-k._k hs ≡ c.in-Some.height ∷ left = sym c.loop-k.invariant.rest ∙ (ap (λ (xs : List ℕ). reverse xs) c.in-Some.ensures.items
    ∙ turned c.pop.new.self.items c.in-Some.height) in
    let more = highest_more c.loop-k._k hs c.in-Some.height left is in
    record {
      greatest = grind (arith, more, c.loop-k.invariant.greatest, c.max-greatest.ensures);
      rest = rest_more c.loop-k._k hs c.in-Some.height left is;
    }

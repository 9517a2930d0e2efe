-- What is too much in an interval for one channel closes, and where nothing is, no such closer is lawful.
use Rattle.std.proofs.Common.{◌≡◌, ℕ, refl, subst}
use Rattle.tt_choice.specs.Extremes.{cap_most}
use Rattle.load_bounds.specs.Within.{IsExcess}
use Rattle.load_bounds.proofs.Closing.{channel_is_lawful, no_lawful_channel}
use Rattle.load_bounds.proofs.loads.load_on.Goals as goal

pub returns-in-Some : goal.returns-in-Some
returns-in-Some c =
    let s = c.args.facts.now in
    let a = c.in-Some.a in
    let b = c.in-Some.b in
    let capacity : c.cap_most-capacity.result ≡ cap_most s.instance s.choice c.args.node = rw (c.cap_most-capacity.ensures.value, c.instance-instance.ensures.value, c.choice.ensures.value) refl in
    let P : ℕ → Type 0 = λ rate. IsExcess rate c.sendings_on-sendings.result a b in
    let sendings = c.sendings_on-sendings in
    let asked = c.requires in
    let excess = subst P capacity c.in-Some.ensures in
    (a, (b, (refl, channel_is_lawful s c.args.channel c.args.node a b sendings.result asked.there asked.two asked.channel sendings.ensures excess)))

pub returns-in-None : goal.returns-in-None
returns-in-None c =
    let s = c.args.facts.now in
    let capacity : c.cap_most-capacity.result ≡ cap_most s.instance s.choice c.args.node = rw (c.cap_most-capacity.ensures.value, c.instance-instance.ensures.value, c.choice.ensures.value) refl in
    let P : ℕ → Type 0 = λ rate. (a b : ℕ) → ¬ IsExcess rate c.sendings_on-sendings.result a b in
    no_lawful_channel s c.args.channel c.args.node c.sendings_on-sendings.result c.sendings_on-sendings.ensures (subst P capacity c.in-None.ensures)

use Rattle.std.proofs.Common.{◌≡◌, slice_index, arith, refl, ap, sym, ◌∙◌}
use Rattle.std.proofs.lemmas.Bool.{false≢true}
use Rattle.ttp_model.specs.Instance.{link_at}
use Rattle.ttp_model.specs.declared.parts.Link.{Link}
use Rattle.ttp_model.proofs.LinkLists.{HasLink-at, no_link_in}
use Rattle.ttp_model.proofs.links.has_link.Goals as goal

pub returns-then-link_at-q : goal.returns-then-link_at-q
returns-then-link_at-q c =
    let i = c.args.instance.now in
    let xs = c.links_from-l-items.result.now in
    let k = c.loop-l.l-index in
    let leads : (link_at i (slice_index xs k)).after ≡ c.args.q = ap (λ (l : Link). l.after) (sym c.link_at.ensures.value) ∙ c.if-link_at-q.true in
    let link = HasLink-at i c.args.p c.args.q xs k c.links_from-l-items.ensures.value c.loop-l-test.true leads in
    (λ _. link, λ _. refl)

pub returns : goal.returns
returns c =
    let i = c.args.instance.now in
    let xs = c.links_from-l-items.result.now in
    let none = no_link_in i c.args.p c.args.q xs c.links_from-l-items.ensures.value (λ k inside. c.loop-l.invariant k (omega (arith, inside, c.loop-l-test.false))) in
    (λ said. absurd (false≢true said), λ link. absurd (none link))

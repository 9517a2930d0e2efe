use Rattle.std.proofs.Common.{◌∙◌, ◌≡◌, List, ℕ, subst, ◌&&◌, ◌∷◌, [], true, refl, arith}
use Rattle.ttp_model.specs.declared.step.Ring.{Ring}
use Rattle.certificate.specs.Reading.{Reading, IsAnswer, numbers_of, is_number_word}
use Rattle.certificate.specs.Numbers.{ring_with, ring_at}
use Rattle.certificate.proofs.Rings.{is_done}
use Rattle.certificate.proofs.ring.ring_of.Goals as goal

pub returns-in-None : goal.returns-in-None
returns-in-None c =
    let last : numbers_of c.words.rest.now ≡ c.next_word-word.result.0 ∷ [] = c.next_word-word.ensures.words ∙ rw c.in-None.is refl in
    let numeral : is_number_word c.next_word-word.result.0 ≡ true = grind (arith, c.is_numeral.ensures, c.if-not-is_numeral.false) in
    let same : ring_with c.args.line c.push.new.self.items (c.words.fit && c.fits-fit.result) ≡ ring_at c.args.line c.args.text.now =
    rw (c.in_ok-push.ensures.items, c.value_of.ensures, c.fits-fit.ensures)
    (is_done c.args.line c.args.text.now c.words.processes.items c.words.fit c.words.rest.now c.next_word-word.result.0 c.words.invariant last numeral) in
    subst (λ (r : Reading (List ℕ)). IsAnswer {X = Ring} {A = List ℕ} (Unit {0}) (λ x. x) c.ring_with.result r) same c.ring_with.ensures

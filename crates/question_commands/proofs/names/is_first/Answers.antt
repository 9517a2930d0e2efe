use Rattle.std.proofs.Common.{◌≡◌, ◌≢◌, false, true, ◌∙◌, sym, below_more}
use Rattle.std.specs.Cmp.Lexicographic.{other_text, same_text}
use Rattle.question_commands.specs.Names.{texts_of, word_at}
use Rattle.question_commands.proofs.Naming.{earlier_word_is, word_is}
use Rattle.question_commands.proofs.names.is_first.Goals as goal

pub returns-then-eq : goal.returns-then-eq
returns-then-eq c =
    let read = same_text _ _ (sym c.if-eq.true ∙ c.eq.ensures) in
    let earlier = earlier_word_is c.args.words.now c.loop-j.j c.args.k _ c.loop-j-test.true c.requires in
    let same : word_at (texts_of c.args.words.now) c.loop-j.j ≡ word_at (texts_of c.args.words.now) c.args.k =
    earlier ∙ sym c.as_bytes.ensures.value ∙ read ∙ c.as_bytes-in-loop-j.ensures.value ∙ sym (word_is c.args.words.now c.args.k _ c.requires) in
    (λ (no : false ≡ true). absurd cc, λ first. absurd (first c.loop-j.j c.loop-j-test.true same))

pub loop-j-preserved : goal.loop-j-preserved
loop-j-preserved c =
    let words = texts_of c.args.words.now in
    let read = other_text _ _ (sym c.if-eq.false ∙ c.eq.ensures) in
    let earlier = earlier_word_is c.args.words.now c.loop-j.j c.args.k _ c.loop-j-test.true c.requires in
    below_more (λ j. word_at words j ≢ word_at words c.args.k) _ c.loop-j.invariant (λ same.
    read (c.as_bytes.ensures.value ∙ sym earlier ∙ same ∙ word_is c.args.words.now c.args.k _ c.requires ∙ sym c.as_bytes-in-loop-j.ensures.value))

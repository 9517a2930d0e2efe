use Rattle.std.proofs.Common.{◌≡◌, List, take, drop, ◌++◌, ap, sym, ◌∙◌}
use Rattle.std.proofs.lemmas.List.{take-append-drop, take_all}
use Rattle.tt_choice.specs.declared.decision.Decision.{Decision}
use Rattle.search_workers.proofs.run.begins_with.Goals as goal

pub returns : goal.returns
returns c = λ _.
    let front = c.args.front.now in
    let decisions = c.args.decisions.now in
    let k = c.loop-k.k in
    let all : take k front ≡ front = take_all k front c.loop-k-test.false in
    let same : take k decisions ≡ front = c.loop-k.invariant ∙ all in
    (drop k decisions, sym (take-append-drop k decisions) ∙ ap (λ (ds : List Decision). ds ++ drop k decisions) same)

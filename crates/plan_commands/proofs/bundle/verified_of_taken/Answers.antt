use Rattle.std.proofs.Common.{◌≡◌, ◌+◌, ◌∙◌, Bool, true, false, not, ap, drop, length, refl, sym, rules, arith}
use Rattle.std.proofs.lemmas.List.{drop-drop}
use Rattle.command_streams.specs.declared.input.Stop.TheVariants.{AtEnd}
use Rattle.std.proofs.lemmas.Bool.{false≢true}
use Rattle.command_streams.specs.contracts.input.Stop.{the_type}
use denote.Enum.Bare.{same_true}
use Rattle.plan_commands.proofs.Splits.{mark_within, refused_front, unread_plan, outcome_all}
use Rattle.plan_commands.proofs.Unread.{not_unread}
use Rattle.plan_commands.proofs.bundle.verified_of_taken.Goals as goal
use Rattle.plan_commands.proofs.bundle.verified_of_taken.Goals.{then-ne-via-then-ne, then-ne-via-else-ne+then-plan-gt-PLAN_LIMIT}

not_false : (b : Bool) → false ≡ not b → b ≡ true
not_false true is = refl
not_false false is = absurd (false≢true is)

pub split_at-requires-2 : goal.split_at-requires-2
split_at-requires-2 c =
    let first = rw c.as_slice-bytes.ensures.value at c.in-Some.ensures in
    omega (arith, mark_within _ _ first.is, c.split_at.ensures.back_len, c.as_slice-bytes.ensures.len, c.args.taken.now.bytes.ok.0)

pub returns-in-Err-clause-judged : goal.returns-in-Err-clause-judged
returns-in-Err-clause-judged c = λ bundle is_taken.
    let first = rw c.as_slice-bytes.ensures.value at c.in-Some.ensures in
    let refused = rw (c.split_at.ensures.front, c.as_slice-bytes.ensures.value) at c.in-Err.ensures.judged in
    refused_front _ c.args.taken.now bundle _ is_taken first _ refused

pub returns-then-ne-clause-judged : goal.returns-then-ne-clause-judged
returns-then-ne-clause-judged c = λ bundle is_taken.
    let first = rw c.as_slice-bytes.ensures.value at c.in-Some.ensures in
    let instance = rw (c.split_at.ensures.front, c.as_slice-bytes.ensures.value) at c.in-Ok.ensures.judged in
    unread_plan _ c.args.taken.now bundle _ is_taken first _ instance

pub returns-clause-judged : goal.returns-clause-judged
returns-clause-judged c = λ bundle is_taken.
    let first = rw c.as_slice-bytes.ensures.value at c.in-Some.ensures in
    let instance = rw (c.split_at.ensures.front, c.as_slice-bytes.ensures.value) at c.in-Ok.ensures.judged in
    let ended : c.args.taken.now.stop ≡ AtEnd = same_true the_type (search rules) _ _ (not_false _ (sym c.if-ne.false ∙ c.ne.ensures)) in
    let rest : c.split_at.result.1.now ≡ drop c.in-Some.at c.args.taken.now.bytes.items = c.split_at.ensures.back
    ∙ ap (drop c.in-Some.at) c.as_slice-bytes.ensures.value in
    let plan : c.split_at-2.result.1.now ≡ drop (c.in-Some.at + 3) c.args.taken.now.bytes.items = c.split_at-2.ensures.back ∙ ap (drop 3) rest
    ∙ drop-drop 3 c.in-Some.at c.args.taken.now.bytes.items in
    outcome_all _ c.args.taken.now bundle _ is_taken ended first _ instance _ (rw plan at c.verified_of_text.ensures.judged)

pub returns-clause-unread : goal.returns-clause-unread
returns-clause-unread c = not_unread _ _ c.verified_of_text.ensures.later

pub returns-then-ne-clause-whole : goal.returns-then-ne-clause-whole
returns-then-ne-clause-whole c = λ whole.
    let first = rw c.as_slice-bytes.ensures.value at c.in-Some.ensures in
    let rest : c.split_at.result.1.now ≡ drop c.in-Some.at c.args.taken.now.bytes.items = c.split_at.ensures.back
    ∙ ap (drop c.in-Some.at) c.as_slice-bytes.ensures.value in
    let plan : c.split_at-2.result.1.now ≡ drop (c.in-Some.at + 3) c.args.taken.now.bytes.items = c.split_at-2.ensures.back ∙ ap (drop 3) rest
    ∙ drop-drop 3 c.in-Some.at c.args.taken.now.bytes.items in
    let few = whole.plan c.in-Some.at first in
    elim c.then-ne.branch [
      | then-ne-via-then-ne w ↦ false≢true (sym (rw whole.ended at c.ne.ensures) ∙ w.if-ne.true)
      | then-ne-via-else-ne+then-plan-gt-PLAN_LIMIT w ↦ absurd (omega (arith, few, ap length plan, w.if-plan-gt-PLAN_LIMIT.true))
    ]

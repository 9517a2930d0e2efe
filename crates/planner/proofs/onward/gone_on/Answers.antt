use Rattle.std.proofs.Common.{◌≡◌, ◌++◌, [], ◌∷◌, Option, IfSome, subst}
use Rattle.std.proofs.lemmas.Result.{IfOk-weaker}
use Rattle.ttp_model.specs.Instance.{Instance}
use Rattle.planner.specs.Begun.{nodes_of}
use Rattle.planner.specs.Parts.{others_of, IsPartOf}
use Rattle.search_workers.specs.Searching.{IsSearching}
use Rattle.search_workers.specs.Task.{root_task}
use Rattle.search_workers.specs.declared.aims.Aims.{Aims}
use Rattle.planner.specs.declared.begun.Begun.{Begun}
use Rattle.planner.specs.declared.parts.Dealt.{Dealt}
use Rattle.planner.specs.declared.parts.Portion.{Portion}
use Rattle.planner.proofs.Dealing.{as_many}
use Rattle.search_workers.proofs.Searching.{in_any_order}
use Rattle.planner.proofs.PartTrees.{same_others}
use Rattle.planner.proofs.Proved.{outcome_proved, part_proved}
use Rattle.planner.proofs.onward.gone_on.Goals as goal

-- what is worked and what is aside are all tasks of the search
all_of : (i : Instance) (aims : Aims) (part : Portion) (begun : Begun) (dealt : Dealt) → IsPartOf part begun dealt
    → IsSearching i aims begun.search.pieces.items begun.search.tasks.items begun.search.best
    → IsSearching i aims dealt.search.pieces.items (dealt.aside.items ++ dealt.search.tasks.items) dealt.search.best
all_of i aims part begun dealt is searching =
    rw (is.pieces, is.best)
    (in_any_order i aims (root_task ∷ []) begun.search.pieces.items begun.search.tasks.items (dealt.aside.items ++ dealt.search.tasks.items) begun.search.best
    is.deals.all searching)

pub spared_of-requires : goal.spared_of-requires
spared_of-requires g c = c.requires.begun.2.searching.found

pub part_of-requires-clause-many : goal.part_of-requires-clause-many
part_of-requires-clause-many g c =
    as_many c.args.site.now.instance.now c.requires.begun.1.low c.args.begun.search.tasks.items c.args.begun.leaves.items c.requires.begun.2.leaves

pub of_part-requires-clause-part : goal.of_part-requires-clause-part
of_part-requires-clause-part g c κs within =
    let i = c.args.site.now.instance.now in
    let is = c.in_ok-dealt.ensures in
    record {
      aside = c.in_ok-dealt.dealt.aside.items;
      searching = all_of i c.args.course.aims c.portion-share.result c.args.begun c.in_ok-dealt.dealt is c.requires.begun.2.searching;
      low = c.requires.begun.1.low;
      stand = is.deals.stand i c.requires.begun.1.low c.requires.begun.2.leaves;
    }

pub whole_wide-requires-clause-searching : goal.whole_wide-requires-clause-searching
whole_wide-requires-clause-searching g c =
    all_of c.args.site.now.instance.now c.args.course.aims c.portion-share.result c.args.begun c.in_ok-dealt.dealt c.in_ok-dealt.ensures
    c.requires.begun.2.searching

pub whole-requires-clause-searching : goal.whole-requires-clause-searching
whole-requires-clause-searching g c κs within =
    all_of c.args.site.now.instance.now c.args.course.aims c.portion-share.result c.args.begun c.in_ok-dealt.dealt c.in_ok-dealt.ensures
    c.requires.begun.2.searching

pub returns-in-Some-clause-answer : goal.returns-in-Some-clause-answer
returns-in-Some-clause-answer g c =
    let i = c.args.site.now.instance.now in
    let leaves = nodes_of c.args.begun.leaves.items in
    let others = nodes_of c.in_ok-dealt.dealt.others.items in
    let share = c.portion-share.result in
    let same = subst (λ (part : Option Portion). IfSome part (λ some. share ≡ some)) c.in-Some.is c.portion-share.ensures.same in
    rw (c.in-Some.is, ← same)
    (IfOk-weaker c.of_part.result _ _
    (λ outcome is. same_others i c.args.options c.args.course.aims.gap others (others_of share 0 leaves) c.in_ok-dealt.ensures.deals.spared outcome
    c.in_ok-dealt.ensures.deals.left is) c.of_part.ensures.answer)

pub returns-in-Some-clause-proved : goal.returns-in-Some-clause-proved
returns-in-Some-clause-proved g c =
    IfOk-weaker c.of_part.result _ _
    (λ outcome is. part_proved c.args.site.now.instance.now c.args.options c.args.course.aims.gap (nodes_of c.in_ok-dealt.dealt.others.items) outcome is)
    c.of_part.ensures.answer

pub returns-in-Some-clause-no_later : goal.returns-in-Some-clause-no_later
returns-in-Some-clause-no_later g c = rw (← c.in_ok-dealt.ensures.best) c.of_part.ensures.no_later

pub returns-then-onward-clause-answer : goal.returns-then-onward-clause-answer
returns-then-onward-clause-answer g c = rw c.in-None.is c.whole_wide.ensures.answer

pub returns-then-onward-clause-proved : goal.returns-then-onward-clause-proved
returns-then-onward-clause-proved g c =
    IfOk-weaker c.whole_wide.result _ _
    (λ outcome is. outcome_proved c.args.site.now.instance.now c.args.options c.args.course.aims.gap outcome is) c.whole_wide.ensures.answer

pub returns-then-onward-clause-no_later : goal.returns-then-onward-clause-no_later
returns-then-onward-clause-no_later g c = rw (← c.in_ok-dealt.ensures.best) c.whole_wide.ensures.no_later

pub returns-clause-answer : goal.returns-clause-answer
returns-clause-answer g c = rw c.in-None.is c.whole.ensures.answer

pub returns-clause-proved : goal.returns-clause-proved
returns-clause-proved g c =
    IfOk-weaker c.whole.result _ _
    (λ outcome is. outcome_proved c.args.site.now.instance.now c.args.options c.args.course.aims.gap outcome is) c.whole.ensures.answer

pub returns-clause-no_later : goal.returns-clause-no_later
returns-clause-no_later g c = rw (← c.in_ok-dealt.ensures.best) c.whole.ensures.no_later

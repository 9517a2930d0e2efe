use Rattle.std.proofs.Common.{◌++◌, [], None}
use Rattle.std.proofs.lemmas.List.{append-nil}
use Rattle.std.proofs.lemmas.List.Elements.{All-append}
use Rattle.std.proofs.lemmas.List.Sorted.{IsPermutation-append_comm}
use Rattle.search_workers.specs.Task.{IsTask}
use Rattle.search_workers.specs.Searching.{IsSearchingOf}
use Rattle.search_workers.proofs.Searching.{begun, in_any_order, roots_are}
use Rattle.search_workers.proofs.together.both.Goals as goal

pub returns-clause-searching : goal.returns-clause-searching
returns-clause-searching c = λ i aims front back w first second.
    let whole = c.args.whole.search in
    let roots = front ++ back in
    let each = All-append (IsTask i) front back (roots_are i aims front _ _ _ first) (roots_are i aims back _ _ _ second) in
    let turned = in_any_order i aims roots [] roots (back ++ front) None (IsPermutation-append_comm front back) (begun i aims roots None each tt) in
    let begins : IsSearchingOf i aims roots whole.pieces.items ((back ++ whole.tasks.items) ++ front) whole.best =
    rw c.requires.none.pieces (rw c.requires.none.tasks (rw c.requires.none.best (rw (append-nil back) turned))) in
    let one = c.take_in.ensures.searching i aims roots back front w begins first in
    let there = c.take_in.new.self in
    let goes : IsSearchingOf i aims roots there.pieces.items (there.tasks.items ++ back) there.best =
    in_any_order i aims roots there.pieces.items (back ++ there.tasks.items) (there.tasks.items ++ back) there.best (IsPermutation-append_comm back there.tasks.items) one in
    rw c.know-2.ensures.search (c.take_in-2.ensures.searching i aims roots [] back w (rw c.know.ensures.search goes) second)

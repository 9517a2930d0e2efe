use Rattle.std.proofs.Common.{rules, ◌≡◌, ◌++◌, All, Contains, List, [], ◌∷◌, refl, subst, append_assoc}
use Rattle.std.proofs.lemmas.List.Elements.{All-contains}
use Rattle.std.proofs.lemmas.Result.{on_ok_weaker}
use Rattle.search_workers.specs.Task.{Task, IsTask, choice_of}
use Rattle.search_workers.proofs.Searching.{last_there}
use Rattle.planner.specs.declared.replay.Replay.{Replay}
use Rattle.planner.proofs.Finished.{some_next}
use Rattle.planner.proofs.GoesOn.{goes, right_of, stood, suits_here}
use Rattle.planner.proofs.replay.Replay.go_on.Goals as goal

-- the task that was taken out is one of the instance
pub take-requires-clause-task : goal.take-requires-clause-task
take-requires-clause-task c =
    let i = c.args.instance.now in
    let old = c.args.self.now in
    let t = c.in-Some.task in
    let front = c.pop.new.self.items in
    let popped : old.next.items ≡ front ++ t ∷ [] = search rules in
    let all = subst (λ (l : List Task). All (IsTask i) (old.tasks.items ++ l)) popped c.requires.4.searching.open_tasks in
    All-contains (IsTask i) (old.tasks.items ++ (front ++ t ∷ [])) t all
    (subst (λ (l : List Task). Contains l t) (append_assoc old.tasks.items front (t ∷ [])) (last_there (old.tasks.items ++ front) t))

-- and the node is right for its choice
pub take-requires-clause-right : goal.take-requires-clause-right
take-requires-clause-right c =
    let i = c.args.instance.now in
    let old = c.args.self.now in
    let one = c.args.node.now in
    let t = c.in-Some.task in
    let mid : Replay = record old { next = c.pop.new.self } in
    let popped : old.next.items ≡ mid.next.items ++ t ∷ [] = search rules in
    let s = c.requires in
    let stands = stood i old mid mid t popped refl refl refl refl s.0 s.1 s.2 (one ∷ s.3) s.4 in
    right_of i s.2 (choice_of i t) one (suits_here i s.0 s.1 s.2 s.3 mid t one stands)

pub returns-clause-on : goal.returns-clause-on
returns-clause-on c =
    let i = c.args.instance.now in
    let old = c.args.self.now in
    let t = c.in-Some.task in
    let mid : Replay = record old { next = c.pop.new.self } in
    let popped : old.next.items ≡ mid.next.items ++ t ∷ [] = search rules in
    on_ok_weaker c.take.result (goes i old mid c.take.new.self t popped refl refl refl refl c.args.node.now) c.take.ensures.takes

-- a task comes next as long as a node does
pub unreachable-requires : goal.unreachable-requires
unreachable-requires c =
    let old = c.args.self.now in
    let s = c.requires in
    let none : old.next.items ≡ [] = search rules in
    some_next c.args.instance.now s.0 s.1 s.2 old.aim old.pieces.items old.tasks.items old.leaves.items c.args.node.now s.3 (rw none at s.4)

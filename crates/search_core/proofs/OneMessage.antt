-- One worker closes the tree of the example with one message.
use Rattle.std.proofs.Common.{List, [], ◌∷◌, refl, ap, lit<, lit≤, inl, inr, arith, Ok}
use Rattle.std.specs.List.{Contains}
use Rattle.ttp_model.specs.Delays.{IsLeastDelay}
use Rattle.ttp_model.specs.Worked.{one_message, one_message_plan}
use Rattle.ttp_model.proofs.OneMessagePlan.{plan_is_valid}
use Rattle.tt_choice.specs.Choice.{Choice}
use Rattle.tt_infer.specs.Leaves.{ClosesLeaf}
use Rattle.tt_infer.proofs.OneMessage.{closes_at_9}
use Rattle.tt_infer.proofs.OneMessageRules.{one_message_is_instance}
use Rattle.search_trees.specs.declared.piece.Piece.{Piece}
use Rattle.search_trees.specs.Name.{Name, root_name}
use Rattle.search_trees.specs.Pieces.{StandsAt, AreRight}
use Rattle.search_trees.specs.Pieces.StandsAt.{at_root, at_child}
use Rattle.search_core.specs.declared.hand.Hand.TheVariants.{Task}
use Rattle.search_core.specs.declared.event.Event.TheVariants.{Pop, Look, Work}
use Rattle.search_core.specs.declared.event.Worked.TheVariants.{Closed}
use Rattle.search_core.specs.declared.reply.Reply.{Reply}
use Rattle.search_core.specs.declared.reply.Reply.TheVariants as reply
use Rattle.search_core.specs.World.{Worker, World, idle_seat, start, worker_at, all_pieces}
use Rattle.search_core.specs.Steps.{Step, Runs}
use Rattle.search_core.specs.Steps.Step.{pops, looks, works}
use Rattle.search_core.specs.Steps.Runs.{ends, goes}
use Rattle.search_core.specs.Bounds.{IsDelay, AreHonest, Bounds}
use Rattle.search_core.specs.Worked.{leaf_at_9, root_closed, all_closed}
use Rattle.search_core.proofs.Right.{none_new, pieces_right}
use Rattle.search_core.proofs.Cover.{bounded}

pub found : IsDelay one_message 9
found = record { plan = one_message_plan 0; valid = plan_is_valid; reached = refl }

-- While no piece is made, only the root's choice stands anywhere.
abbrev IsBare : World → Type 0
IsBare m = (x : Piece) → ¬ Contains (all_pieces m) x

bare_at_first : IsBare (start 1 9)
bare_at_first x there = absurd (omega (arith, there.1))

after_pop : (m n : World) (r : Reply) → Step m (Pop 0) n r → IsBare m → IsBare n
after_pop m _ _ (pops _ name t there p) bare x h = bare x (none_new m 0 t there (ap (λ (s : Worker). s.pieces) p.after) x h)

after_look : (m n : World) (r : Reply) → Step m (Look 0) n r → IsBare m → IsBare n
after_look m _ _ (looks _ t there p) bare x h = bare x (none_new m 0 t there (ap (λ (s : Worker). s.pieces) p.after) x h)

closes : (pieces : List Piece) → ((x : Piece) → ¬ Contains pieces x) → (name : Name) (c : Choice) → StandsAt one_message pieces name c
    → ClosesLeaf one_message c leaf_at_9
closes pieces none _ _ at_root = closes_at_9
closes pieces none _ _ (at_child piece c k there stands inside) = absurd (none piece there)

pub honest : AreHonest one_message (start 1 9) root_closed
honest n r pop =
    let popped = after_pop (start 1 9) n r pop bare_at_first in (
      tt,
      λ o s look.
          let looked = after_look n o s look popped in
          (tt, λ last t work. ((tt, λ name c hand stands. closes (all_pieces o) looked name c stands), tt)),
    )

-- the worker, with the root in hand, and after its look
with_task : Worker
with_task = record (idle_seat 9) { hand = Task root_name }

popped : World
popped = record { best = 9; seats = with_task ∷ [] }

closed_seat : Worker
closed_seat = worker_at all_closed 0

pop : Step (start 1 9) (Pop 0) popped (reply.Name root_name)
unfolding with_task popped
pop = pops 0 root_name with_task (lit< tt) (record { front = []; hand = refl; deque = refl; after = refl })

look : Step popped (Look 0) popped (reply.Best 9)
unfolding with_task popped
look = looks 0 with_task (lit< tt) (record { hand = (root_name, refl); after = refl })

work : Step popped (Work 0 (Closed leaf_at_9)) all_closed reply.Done
unfolding with_task popped closed_seat
work = works 0 (Closed leaf_at_9) closed_seat (lit< tt) (record { name = root_name; hand = refl; fits = refl; after = refl })

pub runs : Runs (start 1 9) root_closed (Ok tt) all_closed
runs =
    goes (start 1 9) (Pop 0) (reply.Name root_name) popped pop (Look 0 ∷ Work 0 (Closed leaf_at_9) ∷ []) (Ok tt) all_closed
    (goes popped (Look 0) (reply.Best 9) popped look (Work 0 (Closed leaf_at_9) ∷ []) (Ok tt) all_closed
    (goes popped (Work 0 (Closed leaf_at_9)) reply.Done all_closed work [] (Ok tt) all_closed (ends all_closed)))

pub right : AreRight one_message (all_pieces all_closed)
right = pieces_right one_message 1 9 root_closed (Ok tt) all_closed (lit≤ tt) honest runs

pub bounds : Bounds one_message 9 all_closed
bounds = bounded one_message 1 9 root_closed (Ok tt) all_closed one_message_is_instance (lit≤ tt) (inr found) honest runs

pub least : IsLeastDelay one_message 9
least = elim (bounds.none_open refl) [ inl is ↦ is | inr none ↦ absurd (none (one_message_plan 0) plan_is_valid) ]

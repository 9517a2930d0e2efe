-- What the table of events says of the worker that does one.
use Rattle.std.proofs.Common.{◌≡◌, ℕ, List, [], ◌∷◌, ◌++◌, Result, Ok, Err, IfOk, OnOk, refl, ap, sym, ◌∙◌}
use Rattle.std.proofs.lemmas.List.{get_or-set_same}
use Rattle.search_trees.specs.Name.{Name}
use Rattle.ttp_model.specs.declared.step.Leaf.{Leaf}
use Rattle.search_core.specs.declared.event.Event.TheVariants.{Pop, Look, Work}
use Rattle.search_core.specs.declared.event.Worked.TheVariants.{Closed}
use Rattle.search_core.specs.declared.reply.Reply.{Reply}
use Rattle.search_core.specs.declared.reply.Illegal.{Illegal}
use Rattle.search_core.specs.World.{Worker, World, idle_seat, put, worker_at}
use Rattle.search_core.specs.Steps.{Answers, IsThere, Step}
use Rattle.search_core.specs.Steps.Step.{pops, looks, works}
use Rattle.evidence.specs.Events.{TakesLast}

here : (m : World) (w : ℕ) (t : Worker) → IsThere m w → worker_at (put m w t) w ≡ t
here m w t there = get_or-set_same m.seats w t (idle_seat 0) there

closes : (m n : World) (w : ℕ) (leaf : Leaf) (reply : Reply) → Step m (Work w (Closed leaf)) n reply → leaf.goal ≡ (worker_at m w).seen
closes m _ w leaf _ (works _ _ t there did) = did.fits

sees : (m n : World) (w : ℕ) (reply : Reply) → Step m (Look w) n reply → (worker_at n w).seen ≡ m.best
sees m _ w _ (looks _ t there did) = ap (λ (s : Worker). s.seen) (here m w t there ∙ did.after)

last : (m n : World) (w : ℕ) (reply : Reply) → Step m (Pop w) n reply → TakesLast (worker_at m w) (worker_at n w) reply
last m _ w _ (pops _ name t there did) =
    let now = here m w t there ∙ did.after in
    record {
      name = name;
      answer_is = refl;
      task = ap (λ (s : Worker). s.hand) now;
      last = did.deque ∙ ap (λ (names : List Name). names ++ name ∷ []) (sym (ap (λ (s : Worker). s.deque) now));
    }

pub closed_at : (m n : World) (w : ℕ) (leaf : Leaf) (result : Result Reply Illegal) → Answers m (Work w (Closed leaf)) result n → OnOk result (leaf.goal ≡ (worker_at m w).seen)
closed_at m n w leaf (Ok reply) did = closes m n w leaf reply did
closed_at m n w leaf (Err fault) refused = tt

pub seen_best : (m n : World) (w : ℕ) (result : Result Reply Illegal) → Answers m (Look w) result n → OnOk result ((worker_at n w).seen ≡ m.best)
seen_best m n w (Ok reply) did = sees m n w reply did
seen_best m n w (Err fault) refused = tt

pub takes_last : (m n : World) (w : ℕ) (result : Result Reply Illegal) → Answers m (Pop w) result n → IfOk result (TakesLast (worker_at m w) (worker_at n w))
takes_last m n w (Ok reply) did = last m n w reply did
takes_last m n w (Err fault) refused = tt

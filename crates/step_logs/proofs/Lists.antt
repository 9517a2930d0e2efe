-- Steps in lists that grow.
use Rattle.std.proofs.Common.{◌≡◌, ◌≢◌, ℕ, ◌+◌, ◌<◌, List, [], ◌∷◌, ◌++◌, length, slice_index, get_or, take, Contains, arith, refl, lit<, ap, subst, sym, ◌∙◌, append_assoc}
use Rattle.std.proofs.lemmas.Grind.{get_or_default_zero}
use Rattle.std.proofs.lemmas.List.{take_more}
use Rattle.std.proofs.lemmas.List.Elements.{Contains-append_left, Contains-append_right}
use Rattle.ttp_model.specs.declared.step.Step.{Step}
use Rattle.ttp_model.specs.declared.step.Step.TheVariants.{EsRelease, EsArrive, EsMessage, LeOwn, LeSend, XWindow, XRound, XFrames, XChannel}
use Rattle.ttp_model.specs.Instance.{Instance, source_of}
use Rattle.tt_choice.specs.Choice.{Choice, least_round}
use Rattle.step_logs.specs.Required.{KeepsSteps, HasProcessSteps, HasReceiverSteps, HasFrameSteps, HasRoundSteps, HasChainSteps}

pub keeps_pushed : (steps : List Step) (step : Step) → KeepsSteps steps (steps ++ step ∷ [])
keeps_pushed steps step other has = Contains-append_left steps (step ∷ []) other has

pub has_pushed : (steps : List Step) (step : Step) → Contains (steps ++ step ∷ []) step
has_pushed steps step = Contains-append_right steps (step ∷ []) step (0, lit< tt, refl)

pub keeps_three : (steps : List Step) (a b c : Step) → KeepsSteps steps (((steps ++ a ∷ []) ++ b ∷ []) ++ c ∷ [])
keeps_three steps a b c other has = keeps_pushed ((steps ++ a ∷ []) ++ b ∷ []) c other (keeps_pushed (steps ++ a ∷ []) b other (keeps_pushed steps a other has))

pub process_steps_pushed : (steps : List Step) (p : ℕ) → HasProcessSteps (((steps ++ EsRelease p ∷ []) ++ LeOwn p ∷ []) ++ XWindow p ∷ []) p
process_steps_pushed steps p = record {
  release = keeps_pushed ((steps ++ EsRelease p ∷ []) ++ LeOwn p ∷ []) (XWindow p) _ (keeps_pushed (steps ++ EsRelease p ∷ []) (LeOwn p) _ (has_pushed steps (EsRelease p)));
  end = keeps_pushed ((steps ++ EsRelease p ∷ []) ++ LeOwn p ∷ []) (XWindow p) _ (has_pushed (steps ++ EsRelease p ∷ []) (LeOwn p));
  window = has_pushed ((steps ++ EsRelease p ∷ []) ++ LeOwn p ∷ []) (XWindow p);
}

pub process_steps_kept : (old new : List Step) (p : ℕ) → KeepsSteps old new → HasProcessSteps old p → HasProcessSteps new p
process_steps_kept old new p keeps has = record { release = keeps _ has.release; end = keeps _ has.end; window = keeps _ has.window }

-- what holds at each place holds of each number
pub from_places : (P : ℕ → Type 0) (xs : List ℕ) → ((k : ℕ) → k < length xs → P (slice_index xs k)) → (q : ℕ) → Contains xs q → P q
from_places P xs each q has =
    let here : slice_index xs has.0 ≡ q = sym (get_or_default_zero xs has.0 q has.1) ∙ has.2 in
    subst P here (each has.0 has.1)

pub keeps_two : (steps : List Step) (a b : Step) → KeepsSteps steps ((steps ++ a ∷ []) ++ b ∷ [])
keeps_two steps a b other has = keeps_pushed (steps ++ a ∷ []) b other (keeps_pushed steps a other has)

pub receiver_steps_pushed : (steps : List Step) (m q : ℕ) → HasReceiverSteps ((steps ++ EsMessage m q ∷ []) ++ EsArrive m q ∷ []) m q
receiver_steps_pushed steps m q = record {
  transfer = keeps_pushed (steps ++ EsMessage m q ∷ []) (EsArrive m q) _ (has_pushed steps (EsMessage m q));
  arrival = has_pushed (steps ++ EsMessage m q ∷ []) (EsArrive m q);
}

pub receiver_steps_kept : (old new : List Step) (m q : ℕ) → KeepsSteps old new → HasReceiverSteps old m q → HasReceiverSteps new m q
receiver_steps_kept old new m q keeps has = record { transfer = keeps _ has.transfer; arrival = keeps _ has.arrival }

pub chain_steps_kept : (i : Instance) (old new : List Step) → KeepsSteps old new → HasChainSteps i old → HasChainSteps i new
chain_steps_kept i old new keeps has = record {
  processes = λ p h. process_steps_kept old new p keeps (has.processes p h);
  links = λ l h. keeps _ (has.links l h);
  messages = λ m q h. receiver_steps_kept old new m q keeps (has.messages m q h);
}

-- the closers of a frame: of the whole, or of its halves
pub frame_step_pushed : (steps : List Step) (count n r : ℕ) → count ≡ 1 → HasFrameSteps count n r (steps ++ XFrames n r (r + 1) ∷ [])
frame_step_pushed steps count n r alone = record {
  frame = λ _. has_pushed steps (XFrames n r (r + 1));
  channels = λ k inside two. absurd (omega (arith, alone, two));
}

pub frame_steps_of : (steps : List Step) (count n r : ℕ) → count ≢ 1 → ((k : ℕ) → k < count → Contains steps (XChannel k n r (r + 1))) → HasFrameSteps count n r steps
frame_steps_of steps count n r more each = record {
  frame = λ alone. absurd (more alone);
  channels = λ k inside two. each k inside;
}

pub round_steps_pushed : (i : Instance) (c : Choice) (old new : List Step) (m count source round : ℕ) → KeepsSteps ((old ++ LeSend m ∷ []) ++ XRound m ∷ []) new → HasFrameSteps count source round new → count ≡ i.cluster.channels → source ≡ source_of i m → round ≡ least_round c m → HasRoundSteps i c new m
round_steps_pushed i c old new m count source round keeps has all from begin =
    let here : HasFrameSteps i.cluster.channels (source_of i m) (least_round c m) new = rw (all, from, begin) at has in
    record {
      send = keeps _ (keeps_pushed (old ++ LeSend m ∷ []) (XRound m) _ (has_pushed old (LeSend m)));
      round = keeps _ (has_pushed (old ++ LeSend m ∷ []) (XRound m));
      frame = here.frame;
      channels = here.channels;
    }

pub round_steps_kept : (i : Instance) (c : Choice) (old new : List Step) (m : ℕ) → KeepsSteps old new → HasRoundSteps i c old m → HasRoundSteps i c new m
round_steps_kept i c old new m keeps has = record {
  send = keeps _ has.send;
  round = keeps _ has.round;
  frame = λ alone. keeps _ (has.frame alone);
  channels = λ k inside two. keeps _ (has.channels k inside two);
}

-- one element more of a list that is copied behind another
pub copied_more : {X : Type 0} (xs : List X) (k : ℕ) (x : X) (start old new : List X) → k < length xs → x ≡ get_or xs k x → old ≡ start ++ take k xs → new ≡ old ++ x ∷ [] → new ≡ start ++ take (k + 1) xs
copied_more {X} xs k x start old new lt is so_far more =
    let taken : take (k + 1) xs ≡ take k xs ++ x ∷ [] = take_more xs k x lt ∙ ap (λ (y : X). take k xs ++ y ∷ []) (sym is) in
    more ∙ ap (λ (t : List X). t ++ x ∷ []) so_far ∙ append_assoc start (take k xs) (x ∷ []) ∙ ap (λ (t : List X). start ++ t) (sym taken)

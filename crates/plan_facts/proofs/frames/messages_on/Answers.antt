use Rattle.std.proofs.Common.{◌≡◌, ◌∙◌, ℕ, ◌<◌, List, [], ◌∷◌, ◌++◌, All, length, sym}
use Rattle.std.proofs.lemmas.List.Elements.{All-append, All-cons, All-nil}
use Rattle.ttp_model.specs.Plans.{is_in_frame_on}
use Rattle.plan_facts.proofs.Filters.{filter_left, filter_taken}
use Rattle.plan_facts.proofs.frames.messages_on.Goals.{then-is_in_frame_on+in_ok-push, else-is_in_frame_on}
use Rattle.plan_facts.proofs.frames.messages_on.Goals as goal

-- one more that is below the bound
one_more : (kept next : List ℕ) (n bound : ℕ) → n < bound → next ≡ kept ++ n ∷ [] → All (λ m. m < bound) kept → All (λ m. m < bound) next
one_more kept next n bound below is so_far =
    rw is (All-append (λ m. m < bound) kept (n ∷ []) so_far (All-cons (λ m. m < bound) n [] below (All-nil (λ m. m < bound))))

-- A message on the channel is taken, and another is left out.
pub loop-m-preserved : goal.loop-m-preserved
loop-m-preserved c =
    let test = is_in_frame_on c.args.instance.now c.args.plan.now c.args.n c.args.r c.args.c in
    let m = c.loop-m.m in
    let kept = c.loop-m.messages.items in
    let below : m < length c.args.instance.now.messages = rw c.messages-count.ensures.value at c.loop-m-test.true in
    elim c.if-is_in_frame_on.branch [
      | then-is_in_frame_on+in_ok-push w ↦ rw w.messages-is record {
        list = w.in_ok-push.ensures.items ∙ filter_taken test kept m (sym c.is_in_frame_on.ensures ∙ w.if-is_in_frame_on.true) c.loop-m.invariant.list;
        inside = one_more kept _ m _ below w.in_ok-push.ensures.items c.loop-m.invariant.inside;
      }
      | else-is_in_frame_on w ↦ rw w.messages-is record {
        list = filter_left test kept m (sym c.is_in_frame_on.ensures ∙ w.if-is_in_frame_on.false) c.loop-m.invariant.list;
        inside = c.loop-m.invariant.inside;
      }
    ]

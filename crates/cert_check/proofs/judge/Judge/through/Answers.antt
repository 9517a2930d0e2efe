use Rattle.std.proofs.Common.{◌≡◌, ◌++◌, [], List, arith, length, ap, sym, subst, ◌∙◌}
use Rattle.std.proofs.lemmas.List.{append-nil}
use Rattle.cert_check.specs.declared.leaves.HeldLeaf.{HeldLeaf}
use Rattle.cert_check.specs.UnderWay.{Stands}
use Rattle.cert_check.proofs.Pieces.{nothing_to_come}
use Rattle.cert_check.proofs.Taking.{stands_first, front_closes}
use Rattle.cert_check.proofs.judge.Judge.through.Goals as goal

pub batches-init : goal.batches-init
batches-init g c =
    let b = c.requires.begun in
    let first = c.args.stream.now in
    let empty : length c.new-front.result.items ≡ 0 = ap length c.new-front.ensures.items in
    record {
      stands = rw (c.new-front.ensures.items, b.batches.none_held, b.batches.open_ahead)
          (stands_first c.args.self.now.instance.now c.args.self.now.low g.R.Read.remaining first c.args.batches.now.walk b.due b.line b.batches.walk);
      none_held = b.batches.none_held;
      together = omega (arith, empty);
      some = b.batches.some;
    }

pub next_batch-requires-clause-somewhere : goal.next_batch-requires-clause-somewhere
next_batch-requires-clause-somewhere g c κs within =
    let b = c.batches.batches in
    let first = c.args.stream.now in (
      first,
      subst (λ (hs : List HeldLeaf). Stands c.args.self.now.instance.now c.args.self.now.low g.R.Read.remaining first c.batches.stream b.walk
          (hs ++ b.held.leaves.items) b.ahead) (sym c.as_slice.ensures.value) c.batches.invariant.stands,
    )

pub returns-in_err-next_batch-clause-from : goal.returns-in_err-next_batch-clause-from
returns-in_err-next_batch-clause-from g c = λ origin is.
    let b = c.batches.batches in
    let first = c.args.stream.now in
    let s = subst (λ (hs : List HeldLeaf). Stands c.args.self.now.instance.now c.args.self.now.low g.R.Read.remaining first c.batches.stream b.walk
    (hs ++ b.held.leaves.items) b.ahead) (sym c.as_slice.ensures.value) c.batches.invariant.stands in
    c.in_err-next_batch.ensures.from first s origin is

pub batches-preserved : goal.batches-preserved
batches-preserved g c =
    let i = c.args.self.now.instance.now in
    let low = c.args.self.now.low in
    let remaining = g.R.Read.remaining in
    let first = c.args.stream.now in
    let b = c.batches.batches in
    let front = c.as_slice.result.now in
    let next = c.next_batch.new.stream in
    let new = c.next_batch.new.batches in
    let on = c.in_ok-next_batch.ensures.on in
    let e = c.in_ok-hand_over.ensures in
    let s = subst (λ (hs : List HeldLeaf). Stands i low remaining first c.batches.stream b.walk (hs ++ b.held.leaves.items) b.ahead)
    (sym c.as_slice.ensures.value) c.batches.invariant.stands in
    let closed = front_closes i low remaining first next new.walk new.ahead front new.held.leaves.items (on.stands low first front s)
    c.in_ok-next_batch.ensures.judges in
    let whole : c.hand_over.new.front.items ++ c.hand_over.new.self.held.leaves.items ≡ new.held.leaves.items =
    ap (λ (hs : List HeldLeaf). c.hand_over.new.front.items ++ hs) e.empty ∙ (append-nil c.hand_over.new.front.items ∙ e.front) in
    let same : length c.hand_over.new.front.items ≡ length new.held.leaves.items = ap length e.front in
    record {
      stands = rw (e.walk, whole, e.ahead) closed;
      none_held = e.empty;
      together = omega (arith, same, on.few, e.most);
      some = omega (arith, c.batches.invariant.some, on.most, e.most);
    }

pub returns-in_err-hand_over-clause-from : goal.returns-in_err-hand_over-clause-from
returns-in_err-hand_over-clause-from g c = λ origin is.
    let b = c.batches.batches in
    let first = c.args.stream.now in
    let s = subst (λ (hs : List HeldLeaf). Stands c.args.self.now.instance.now c.args.self.now.low g.R.Read.remaining first c.batches.stream b.walk
    (hs ++ b.held.leaves.items) b.ahead) (sym c.as_slice.ensures.value) c.batches.invariant.stands in
    (c.in_ok-next_batch.ensures.on.stands c.args.self.now.low first c.as_slice.result.now s).from origin is

pub next_batch-requires-2-clause-somewhere : goal.next_batch-requires-2-clause-somewhere
next_batch-requires-2-clause-somewhere g c κs within =
    let b = c.batches.batches in
    let first = c.args.stream.now in (
      first,
      subst (λ (hs : List HeldLeaf). Stands c.args.self.now.instance.now c.args.self.now.low g.R.Read.remaining first c.batches.stream b.walk
          (hs ++ b.held.leaves.items) b.ahead) (sym c.as_slice-2.ensures.value) c.batches.invariant.stands,
    )

pub returns-in_err-next_batch-2-clause-from : goal.returns-in_err-next_batch-2-clause-from
returns-in_err-next_batch-2-clause-from g c = λ origin is.
    let b = c.batches.batches in
    let first = c.args.stream.now in
    let s = subst (λ (hs : List HeldLeaf). Stands c.args.self.now.instance.now c.args.self.now.low g.R.Read.remaining first c.batches.stream b.walk
    (hs ++ b.held.leaves.items) b.ahead) (sym c.as_slice-2.ensures.value) c.batches.invariant.stands in
    c.in_err-next_batch-2.ensures.from first s origin is

pub returns-clause-answers : goal.returns-clause-answers
returns-clause-answers g c =
    let i = c.args.self.now.instance.now in
    let low = c.args.self.now.low in
    let remaining = g.R.Read.remaining in
    let first = c.args.stream.now in
    let b = c.batches.batches in
    let front = c.as_slice-2.result.now in
    let new = c.next_batch-2.new.batches in
    let on = c.in_ok-next_batch-2.ensures.on in
    let s = subst (λ (hs : List HeldLeaf). Stands i low remaining first c.batches.stream b.walk (hs ++ b.held.leaves.items) b.ahead)
    (sym c.as_slice-2.ensures.value) c.batches.invariant.stands in
    let same = on.still (nothing_to_come b.ahead c.batches.stream (c.is_open.ensures.no c.batches-test.false)) in
    let none : new.held.leaves.items ≡ [] = rw same c.batches.invariant.none_held in
    let whole : front ++ new.held.leaves.items ≡ front = ap (λ (hs : List HeldLeaf). front ++ hs) none ∙ append-nil front in
    let ended = subst (λ (hs : List HeldLeaf). Stands i low remaining first c.next_batch-2.new.stream new.walk hs new.ahead) whole
    (on.stands low first front s) in
    c.end.ensures.answers i low first front ended c.in_ok-next_batch-2.ensures.judges

pub returns-clause-from : goal.returns-clause-from
returns-clause-from g c = λ origin is.
    let b = c.batches.batches in
    let first = c.args.stream.now in
    let s = subst (λ (hs : List HeldLeaf). Stands c.args.self.now.instance.now c.args.self.now.low g.R.Read.remaining first c.batches.stream b.walk
    (hs ++ b.held.leaves.items) b.ahead) (sym c.as_slice-2.ensures.value) c.batches.invariant.stands in
    c.end.ensures.from origin ((c.in_ok-next_batch-2.ensures.on.stands c.args.self.now.low first c.as_slice-2.result.now s).from origin is)

use Rattle.std.proofs.Common.{length}
use Rattle.std.proofs.lemmas.Result.{on_ok_weaker}
use Rattle.tt_infer.specs.Reads.{OfSome}
use Rattle.tt_infer.specs.Added.{TellsArrival, TellsRivalWait}
use Rattle.tt_infer.proofs.AddedFacts.{adds_both}
use Rattle.tt_infer.proofs.read_facts.waits.add_settled.Goals as goal

pub returns : goal.returns
returns c = λ there.
    let f = c.args.facts.now in
    on_ok_weaker c.add_arrivals.result (adds_both
    (OfSome (length f.instance.processes) (TellsRivalWait f.instance f.known c.args.p))
    (OfSome (length f.instance.messages) (TellsArrival f.instance c.args.p)) _ _ _ c.in_ok-add_rivals.ensures)
    (rw c.instance-2.ensures.value at c.add_arrivals.ensures)

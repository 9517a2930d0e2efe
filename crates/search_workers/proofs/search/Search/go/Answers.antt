use Rattle.std.proofs.Common.{arith}
use Rattle.search_workers.proofs.Cut.{cut_out}
use Rattle.search_workers.proofs.Searching.{goes_some}
use Rattle.search_workers.proofs.search.Search.go.Goals as goal

pub returns-in-Some-clause-cause : goal.returns-in-Some-clause-cause
returns-in-Some-clause-cause g c =
    cut_out c.args.part c.args.budget c.work.new.self.pieces.items c.in-Some.why c.requires.part c.in-Some.ensures.cut

pub returns-in-Some-work-clause-cause : goal.returns-in-Some-work-clause-cause
returns-in-Some-work-clause-cause g c =
    cut_out c.args.budget c.args.budget c.work-2.new.self.pieces.items c.in-Some-work.why (omega arith) c.in-Some-work.ensures.cut

pub rise-requires-clause-searching : goal.rise-requires-clause-searching
rise-requires-clause-searching g c κs within =
    goes_some c.args.site.now.instance.now c.args.aims c.args.self.now c.work.new.self c.requires.searching c.work.ensures.searching

pub work-requires-2-clause-searching : goal.work-requires-2-clause-searching
work-requires-2-clause-searching g c =
    let i = c.args.site.now.instance.now in
    goes_some i c.args.aims c.work.new.self c.rise.new.self (goes_some i c.args.aims c.args.self.now c.work.new.self c.requires.searching c.work.ensures.searching)
    c.rise.ensures.searching

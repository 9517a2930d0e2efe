use Rattle.std.proofs.Common.{sym}
use Rattle.std.proofs.lemmas.List.{append-nil}
use Rattle.std.proofs.Math.Facts.{Fits-lt-pow}
use Rattle.std.specs.Int.{w32}
use Rattle.certificate.specs.Spelling.{spaced}
use Rattle.certificate.proofs.Pushed.{more_at, line_pushed, fit_from_type}
use Rattle.certificate.proofs.printing.push_line.Goals as goal

pub loop-number-init : goal.loop-number-init
loop-number-init c = sym (append-nil c.extend_from_slice.new.self.items)

pub loop-number-preserved : goal.loop-number-preserved
loop-number-preserved c =
    more_at spaced c.args.numbers.now c.loop-number.number-index 0 c.extend_from_slice.new.self.items c.loop-number.text.items c.push_spaced.new.text.items
    c.loop-number-test.true c.loop-number.invariant c.in_ok-push_spaced.ensures

pub returns-clause-line : goal.returns-clause-line
returns-clause-line c =
    line_pushed spaced c.args.numbers.now c.loop-number.number-index c.args.text.now.items c.args.keyword.now c.extend_from_slice.new.self.items c.loop-number.text.items
    c.push.new.self.items c.loop-number-test.false c.in_ok-extend_from_slice.ensures.items c.loop-number.invariant c.in_ok-push.ensures.items

pub returns-clause-fit : goal.returns-clause-fit
returns-clause-fit c = fit_from_type c.args.numbers.now (λ k. Fits-lt-pow {w = w32} (c.type_inv.numbers k))

pub returns-in_err-push-clause-fit : goal.returns-in_err-push-clause-fit
returns-in_err-push-clause-fit c = fit_from_type c.args.numbers.now (λ k. Fits-lt-pow {w = w32} (c.type_inv.numbers k))

pub returns-in_err-push_spaced-clause-fit : goal.returns-in_err-push_spaced-clause-fit
returns-in_err-push_spaced-clause-fit c = fit_from_type c.args.numbers.now (λ k. Fits-lt-pow {w = w32} (c.type_inv.numbers k))

pub returns-in_err-extend_from_slice-clause-fit : goal.returns-in_err-extend_from_slice-clause-fit
returns-in_err-extend_from_slice-clause-fit c = fit_from_type c.args.numbers.now (λ k. Fits-lt-pow {w = w32} (c.type_inv.numbers k))

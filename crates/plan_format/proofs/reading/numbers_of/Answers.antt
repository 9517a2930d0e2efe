use Rattle.std.proofs.Common.{◌<◌, ◌≤◌, ◌+◌, ◌≡◌, ℕ, List, [], Ok, length, get_or, arith}
use Rattle.std.proofs.lemmas.Result.{err_from_is_err_and}
use Rattle.plan_format.specs.Names.{part_of}
use Rattle.ttp_model.specs.Names.{names_in}
use Rattle.plan_format.specs.Reading.{IsFaultOf, number_at}
use Rattle.plan_format.proofs.NumberLoop.{goes_on, ends, is_done}
use Rattle.plan_format.proofs.reading.numbers_of.Goals as goal

pub returns-in_err-number : goal.returns-in_err-number
returns-in_err-number c =
    let p = err_from_is_err_and c.from_residual.result c.from_residual.ensures.1 in
    let names : List (List ℕ) = names_in c.args.instance.now (part_of c.args.column) in
    let lt : c.loop-k.k < length names = rw (← c.part_of-part.ensures) (omega (arith, c.name_count-k-end.ensures.value)) in
    let h : IsFaultOf ⊥ c.in_err-number.field-0.0 (number_at (c.args.line + c.loop-k.k) c.args.column (get_or names c.loop-k.k []) c.loop-k.rest.now) =
    rw (← c.part_of-part.ensures, ← c.name_in-name.ensures) c.in_err-number.ensures in
    rw (p.1, p.2)
    (ends c.in_err-number.field-0.0 c.args.line c.args.column names c.args.text.now c.loop-k.k c.loop-k.numbers.items c.loop-k.rest.now lt h c.loop-k.invariant)

pub loop-k-preserved : goal.loop-k-preserved
loop-k-preserved c =
    let names : List (List ℕ) = names_in c.args.instance.now (part_of c.args.column) in
    let lt : c.loop-k.k < length names = rw (← c.part_of-part.ensures) (omega (arith, c.name_count-k-end.ensures.value)) in
    let h : number_at (c.args.line + c.loop-k.k) c.args.column (get_or names c.loop-k.k []) c.loop-k.rest.now
    ≡ Ok (c.in_ok-number.number, c.in_ok-number.after.now) =
    rw (← c.part_of-part.ensures, ← c.name_in-name.ensures) c.in_ok-number.ensures in
    rw c.in_ok-push.ensures.items
    (goes_on c.args.line c.args.column names c.args.text.now c.loop-k.k c.loop-k.numbers.items c.loop-k.rest.now
    c.in_ok-number.number c.in_ok-number.after.now lt h c.loop-k.invariant)

pub returns : goal.returns
returns c =
    let names : List (List ℕ) = names_in c.args.instance.now (part_of c.args.column) in
    let le : length names ≤ c.loop-k.k = rw (← c.part_of-part.ensures) (omega (arith, c.name_count-k-end.ensures.value)) in
    is_done c.args.line c.args.column names c.args.text.now c.loop-k.k c.loop-k.numbers.items c.loop-k.rest.now le c.loop-k.invariant

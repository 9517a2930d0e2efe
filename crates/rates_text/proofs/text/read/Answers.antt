use Rattle.std.proofs.Common.{◌≡◌, ◌∙◌, Ok, ap, sym}
use Rattle.rates_model.specs.Rates.{Rates}
use Rattle.rates_text.specs.Faults.{IsFirstRatesFault}
use Rattle.rates_text.specs.Kinds.{Stated}
use Rattle.rates_text.specs.Stated.{stated}
use Rattle.toml.specs.View.{table_view}
use Rattle.rates_text.proofs.FaultLaws.{handed, states_by, table_fault}
use Rattle.rates_text.proofs.text.read.Goals as goal

pub returns-in_err-parts-clause-err : goal.returns-in_err-parts-clause-err
returns-in_err-parts-clause-err c =
    handed (IsFirstRatesFault c.args.bytes.now) _ _ c.from_residual-in_err-parts.ensures.1
    (table_fault c.args.bytes.now (table_view c.in_ok-table.table) _ c.in_ok-table.ensures.ok c.in_err-parts.ensures.err)

pub returns-in_err-build-clause-err : goal.returns-in_err-build-clause-err
returns-in_err-build-clause-err c =
    handed (IsFirstRatesFault c.args.bytes.now) _ _ c.from_residual-in_err-build.ensures.1
    (record { rates = _; states = states_by c.args.bytes.now (table_view c.in_ok-table.table) _ c.in_ok-table.ensures.ok c.in_ok-parts.ensures.ok; refusal = c.in_err-build.ensures.err })

abbrev stated_ok : Rates → Stated Rates
stated_ok rates = Ok rates

pub returns-clause-ok : goal.returns-clause-ok
returns-clause-ok c =
    let reads : stated (table_view c.in_ok-table.table) ≡ stated_ok c.in_ok-build.field-0 =
    c.in_ok-parts.ensures.ok ∙ ap stated_ok (sym c.in_ok-build.ensures.ok) in
    states_by c.args.bytes.now (table_view c.in_ok-table.table) _ c.in_ok-table.ensures.ok reads

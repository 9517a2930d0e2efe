use Rattle.std.proofs.Common.{◌∙◌, Ok, ap, sym}
use Rattle.rates_model.specs.Parts.{rates_of}
use Rattle.rates_text.specs.Kinds.{Stated}
use Rattle.rates_model.specs.Rates.{Rates}
use Rattle.toml.specs.View.{table_view}
use Rattle.rates_text.proofs.FaultLaws.{handed_on}
use Rattle.rates_text.proofs.StatedLaws.{stated-finer, stated-fault}
use Rattle.rates_text.proofs.text.stated_parts.Goals as goal

abbrev stated_ok : Rates → Stated Rates
stated_ok rates = Ok rates

pub returns-in_err-parts-clause-err : goal.returns-in_err-parts-clause-err
returns-in_err-parts-clause-err c =
    handed_on _ _ _ c.from_residual.ensures.1 (λ other. stated-fault (table_view c.args.table.now) _ (c.in_err-parts.ensures.err other))

pub returns-clause-ok : goal.returns-clause-ok
returns-clause-ok c =
    stated-finer (table_view c.args.table.now) (rates_of c.in_ok-parts.parts) c.in_ok-parts.ensures.ok ∙ ap stated_ok (sym c.make_finer.ensures)

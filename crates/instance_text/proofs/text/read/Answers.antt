use Rattle.std.proofs.Common.{◌≡◌, ◌∙◌, Ok, ap, subst, sym}
use Rattle.ttp_model.specs.Instance.{Instance}
use Rattle.ttp_model.specs.Rules.{IsInstance}
use Rattle.instance_text.specs.declared.error.TextError.TheVariants.{OutOfMemory}
use Rattle.instance_text.specs.Faults.{IsFirstTextFault}
use Rattle.instance_text.specs.Index.{cut_index_in}
use Rattle.instance_text.specs.Kinds.{Stated}
use Rattle.instance_text.specs.Stated.{stated_by}
use Rattle.instance_text.specs.Told.{told}
use Rattle.ttp_model.specs.Parts.{instance_of}
use Rattle.toml.specs.View.{table_view}
use Rattle.instance_text.proofs.FaultLaws.{handed, only_memory, states_by, table_fault, refusal_told}
use Rattle.instance_text.proofs.CutIndices.{fault_kept, only_stated, refusal_kept, stated_uncut}
use Rattle.instance_text.proofs.text.read.Goals as goal

pub returns-in_err-parts-clause-err : goal.returns-in_err-parts-clause-err
returns-in_err-parts-clause-err c =
    handed (IsFirstTextFault c.args.bytes.now) _ _ c.from_residual-in_err-parts.ensures.1
    (table_fault c.args.bytes.now (table_view c.in_ok-table.table) _ c.in_ok-table.ensures.ok
    (fault_kept (table_view c.in_ok-table.table) _ c.in_err-parts.ensures.err))

pub returns-in_err-parts-clause-only : goal.returns-in_err-parts-clause-only
returns-in_err-parts-clause-only c i given keeps =
    handed (λ e. e ≡ OutOfMemory) _ _ c.from_residual-in_err-parts.ensures.1
    (only_memory c.args.bytes.now (table_view c.in_ok-table.table) i _ c.in_ok-table.ensures.ok given
    (fault_kept (table_view c.in_ok-table.table) _ c.in_err-parts.ensures.err))

pub returns-in_err-build-clause-err : goal.returns-in_err-build-clause-err
returns-in_err-build-clause-err c =
    let refused = refusal_kept (table_view c.in_ok-table.table) (instance_of c.in_ok-parts.parts) c.in_ok-parts.ensures.ok _ c.in_err-build.ensures.err in
    let states = states_by c.args.bytes.now (table_view c.in_ok-table.table) _ c.in_ok-table.ensures.ok refused.1 in
    handed (IsFirstTextFault c.args.bytes.now) _ _ c.from_residual-in_err-build.ensures.1
    (refusal_told c.args.bytes.now refused.0 _ states refused.2)

pub returns-in_err-build-clause-only : goal.returns-in_err-build-clause-only
returns-in_err-build-clause-only c i given keeps =
    let same = only_stated i keeps.limits c.args.bytes.now (table_view c.in_ok-table.table) (instance_of c.in_ok-parts.parts) c.in_ok-table.ensures.ok given c.in_ok-parts.ensures.ok in
    handed (λ e. e ≡ OutOfMemory) _ _ c.from_residual-in_err-build.ensures.1 (ap told (c.in_err-build.ensures.only (subst IsInstance same keeps)))

abbrev stated_ok : Instance → Stated Instance
stated_ok i = Ok i

pub returns-clause-ok : goal.returns-clause-ok
returns-clause-ok c =
    let reads : stated_by cut_index_in (table_view c.in_ok-table.table) ≡ stated_ok c.in_ok-build.field-0 =
    c.in_ok-parts.ensures.ok ∙ ap stated_ok (sym c.in_ok-build.ensures.ok.1) in
    states_by c.args.bytes.now (table_view c.in_ok-table.table) _ c.in_ok-table.ensures.ok
    (stated_uncut c.in_ok-build.field-0 c.in_ok-build.ensures.ok.0.limits (table_view c.in_ok-table.table) reads)

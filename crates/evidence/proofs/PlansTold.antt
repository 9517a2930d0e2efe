-- What commands tell of verified plans is right to tell.
use Rattle.std.proofs.Common.{◌≡◌, ℕ, List, Option, subst}
use Rattle.command_streams.specs.declared.ending.Source.TheVariants.{Plan}
use Rattle.command_streams.specs.declared.ending.Fault.TheVariants.{Unread}
use Rattle.command_streams.specs.declared.ending.End.{End}
use Rattle.command_streams.specs.declared.ending.End.TheVariants.{Done, Refused}
use Rattle.command_streams.specs.Instances.{StatesSome}
use Rattle.command_streams.specs.Outcomes.{IsWritten}
use Rattle.medl_tables.specs.Medl.{medl_of}
use Rattle.medl_tables.specs.Text.{tables_text}
use Rattle.plan_commands.specs.declared.verdict.Verified.{Verified}
use Rattle.plan_commands.specs.NodeTables.{IsTablesAnswer}
use Rattle.plan_commands.specs.Verdicts.{IsVerdict, IsVerified}
use Rattle.evidence.specs.Verdicts.{EndsWithWindows, IsPlanOf, TellsOwnDelay}

-- what was verified states its own delay
pub plan_of : (instance bytes : List ℕ) (v : Verified) → IsVerified instance bytes v → IsPlanOf instance bytes v.instance v.plan
plan_of instance bytes v is = record {
  has_instance = is.has_instance;
  spelled = rw is.has_plan.has_delay is.has_plan.has_plan.spelled;
  valid = is.has_plan.valid;
}

module _ (instance bytes : List ℕ) (old new : Option (List ℕ)) (end : End) where
  pub own_delay : IsVerdict instance bytes old new end → end ≡ Done → IsWritten (TellsOwnDelay instance bytes) old new
  own_delay verdict done = let told = subst (λ e. IsVerdict instance bytes old new e) done verdict in record {
    text = told.text;
    is = record {
      problem = told.is.verified.instance;
      plan = told.is.verified.plan;
      is = plan_of instance bytes told.is.verified told.is.is;
      line_is = told.is.tells;
    };
    appends = told.appends;
  }

  pub behind_instance : IsVerdict instance bytes old new end → end ≡ Refused (Unread Plan) → StatesSome instance
  behind_instance verdict is = (subst (λ e. IsVerdict instance bytes old new e) is verdict).0

  pub windows_last : IsTablesAnswer instance bytes old new end → end ≡ Done → IsWritten (EndsWithWindows instance bytes) old new
  windows_last answer done = let told = subst (λ e. IsTablesAnswer instance bytes old new e) done answer in record {
    text = told.text;
    is = record {
      problem = told.is.verified.instance;
      plan = told.is.verified.plan;
      is = plan_of instance bytes told.is.verified told.is.is;
      front = tables_text told.is.verified.instance (medl_of told.is.verified.instance told.is.verified.plan);
      ends = told.is.tells;
    };
    appends = told.appends;
  }

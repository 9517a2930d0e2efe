-- Which reader a fault of reading is told of.
use Rattle.std.proofs.Common.{◌≡◌, ℕ, ◌<◌, List, Result, Ok, Err, IfErr, arith, sym, subst}
use Rattle.command_streams.specs.declared.limits.TheConstants.{INSTANCE_LIMIT}
use Rattle.command_streams.specs.declared.ending.Fault.{Fault}
use Rattle.command_streams.specs.declared.ending.Fault.TheVariants.{Unread}
use Rattle.command_streams.specs.declared.ending.Source.TheVariants as source
use Rattle.command_streams.specs.Instances.{IsOfInstance}
use Rattle.plan_commands.specs.declared.verdict.Verified.{Verified}
use Rattle.plan_commands.specs.Bundles.{HasNoMark, IsFirstMark, LacksMark}

pub lacks_every : (bytes : List ℕ) → HasNoMark bytes → LacksMark bytes
lacks_every bytes none at within is = none at is

pub lacks_early : (bytes : List ℕ) (at : ℕ) → IsFirstMark bytes at → INSTANCE_LIMIT < at → LacksMark bytes
lacks_early bytes at first late earlier within is = first.first earlier (omega (arith, late, within)) is

-- a fault that is none of the instance isn't that it is unread
pub not_unread : (Holds : Type 0) (result : Result Verified Fault) → IfErr result (λ fault. ¬ IsOfInstance fault)
    → IfErr result (λ fault. fault ≡ Unread source.Instance → Holds)
not_unread Holds (Ok v) later = tt
not_unread Holds (Err fault) later = λ is. absurd (later (subst IsOfInstance (sym is) tt))

-- so nothing is asked of it
pub not_instance : (Holds : Type 0) (result : Result Verified Fault) → IfErr result (λ fault. ¬ IsOfInstance fault)
    → IfErr result (λ fault. IsOfInstance fault → Holds)
not_instance Holds (Ok v) later = tt
not_instance Holds (Err fault) later = λ is. absurd (later is)

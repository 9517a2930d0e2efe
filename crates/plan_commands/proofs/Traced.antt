-- What the replay of a verified plan is refused for, once its words are losses.
use Rattle.std.proofs.Common.{◌≡◌, ℕ, ◌<◌, List, Option, None, Some, IfSome, length, arith, subst}
use Rattle.ttp_model.specs.declared.plan.Plan.{Plan as Table}
use Rattle.ttp_model.specs.Instance.{Instance}
use Rattle.ttp_model.specs.Rules.{IsInstance}
use Rattle.medl_tables.specs.Medl.{AreTables, Medl, medl_of}
use Rattle.medl_tables.proofs.TableParts.{tables-length}
use Rattle.membership_replay.specs.declared.loss.Loss.{Loss}
use Rattle.membership_replay.specs.declared.fault.ReplayFault.TheVariants as replay
use Rattle.membership_replay.specs.Losses.{CanBeReplayed, IsFault}
use Rattle.membership_replay.specs.Text.{replay_text}
use Rattle.membership_replay.specs.Trace.{replay_of}
use Rattle.plan_commands.specs.declared.losses.LossWord.{LossWord}
use Rattle.plan_commands.specs.declared.verdict.Verified.{Verified}
use Rattle.command_streams.specs.declared.ending.Source.TheVariants as source
use Rattle.command_streams.specs.declared.ending.Fault.{Fault}
use Rattle.command_streams.specs.declared.ending.Fault.TheVariants.{InstanceText, Memory, PlanText, Plan, StatedDelay, TooFewNodes, WrongLoss, TooLong, Unread}
use Rattle.command_streams.specs.declared.ending.End.TheVariants.{Refused}
use Rattle.plan_commands.specs.LossWords.{AllSpell, AreLossWords, HasNodes, IsWordOfLoss, losses_of_words}
use Rattle.plan_commands.specs.Traces.{IsReplayAnswer, IsTraceFault, IsTraceOf}
use Rattle.plan_commands.specs.Verdicts.{IsRefused, IsVerified}
use Rattle.command_streams.proofs.Outcomes.{keeps}
use Rattle.plan_commands.proofs.LossPlaces.{first_wrong_word}

module _ (i : Instance) (t : Medl) (w : IsInstance i) (tables : AreTables i t) where
  pub has_nodes : HasNodes t
  has_nodes = record {
    some = omega (arith, tables-length i t tables, w.limits.nodes_least);
    few = omega (arith, tables-length i t tables, w.limits.nodes);
  }

  pub too_few : length t.rows < 3 → length i.nodes < 3
  too_few few = omega (arith, tables-length i t tables, few)

  pub traced : (plan : Table) → t ≡ medl_of i plan → (words : List LossWord) (losses : List Loss) (text : List ℕ) → losses ≡ losses_of_words t words
      → CanBeReplayed t losses → text ≡ replay_text i (replay_of t losses) → IsTraceOf words i plan text
  traced plan of words losses text are can is =
      let here : text ≡ replay_text i (replay_of t (losses_of_words t words)) =
      subst (λ (ls : List Loss). text ≡ replay_text i (replay_of t ls)) are is in
      record {
        can_be = rw (← of, ← are) can;
        is = subst (λ (m : Medl). text ≡ replay_text i (replay_of m (losses_of_words m words))) of here;
      }

  pub wrong_word : (plan : Table) → t ≡ medl_of i plan → (words : List LossWord) (losses : List Loss) (loss k : ℕ) → losses ≡ losses_of_words t words
      → IsFault t losses (replay.WrongLoss loss) → IsWordOfLoss t words loss k → IsTraceFault words i plan (WrongLoss k)
  wrong_word plan of words losses loss k are wrong from =
      (omega (arith, tables-length i t tables, wrong.0), rw (← of) (first_wrong_word t words losses are loss k wrong.1 from))

module _ (words : List (List ℕ)) (instance plan : List ℕ) (old : Option (List ℕ)) where
  as_verdict : (fault : Fault) → AreLossWords words → IsRefused instance plan fault → IsReplayAnswer words instance plan old old (Refused fault)
  as_verdict Memory are refused = (tt, keeps old)
  as_verdict (Unread source.Instance) are refused = ((are, refused), keeps old)
  as_verdict (Unread source.Plan) are refused = ((are, refused), keeps old)
  as_verdict (TooLong source.Instance) are refused = ((are, refused), keeps old)
  as_verdict (TooLong source.Plan) are refused = ((are, refused), keeps old)
  as_verdict (InstanceText error) are refused = ((are, refused), keeps old)
  as_verdict (PlanText error) are refused = ((are, refused), keeps old)
  as_verdict (Plan fault) are refused = ((are, refused), keeps old)
  as_verdict (StatedDelay d) are refused = ((are, refused), keeps old)
  as_verdict fault are refused = absurd refused

  as_trace : (losses : List LossWord) (v : Verified) (fault : Fault) → AllSpell words losses → IsVerified instance plan v
      → IsTraceFault losses v.instance v.plan fault → IsReplayAnswer words instance plan old old (Refused fault)
  as_trace losses v Memory all is refused = (tt, keeps old)
  as_trace losses v TooFewNodes all is refused =
      (record { losses = losses; spelled = all; verified = v; is = is; refused = refused }, keeps old)
  as_trace losses v (WrongLoss k) all is refused =
      (record { losses = losses; spelled = all; verified = v; is = is; refused = refused }, keeps old)
  as_trace losses v fault all is refused = absurd refused

-- so it is of what two readers tell, where they do
module _ (words : List (List ℕ)) (old : Option (List ℕ)) (fault : Fault) where
  pub refused_as_verdict : (a b : Option (List ℕ)) → AreLossWords words → IfSome a (λ instance. IfSome b (λ plan. IsRefused instance plan fault))
      → IfSome a (λ instance. IfSome b (λ plan. IsReplayAnswer words instance plan old old (Refused fault)))
  refused_as_verdict None b are refused = tt
  refused_as_verdict (Some instance) None are refused = tt
  refused_as_verdict (Some instance) (Some plan) are refused = as_verdict words instance plan old fault are refused

  pub refused_as_trace : (a b : Option (List ℕ)) (losses : List LossWord) (v : Verified) → AllSpell words losses
      → IfSome a (λ instance. IfSome b (λ plan. IsVerified instance plan v)) → IsTraceFault losses v.instance v.plan fault
      → IfSome a (λ instance. IfSome b (λ plan. IsReplayAnswer words instance plan old old (Refused fault)))
  refused_as_trace None b losses v all is refused = tt
  refused_as_trace (Some instance) None losses v all is refused = tt
  refused_as_trace (Some instance) (Some plan) losses v all is refused = as_trace words instance plan old losses v fault all is refused

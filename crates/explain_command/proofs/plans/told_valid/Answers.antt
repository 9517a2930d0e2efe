use Rattle.std.proofs.Common.{◌≡◌, ◌∙◌, List, ℕ, ◌++◌, ap, string_bytes, subst}
use Rattle.plan_commands.specs.Verdicts.{valid_line}
use Rattle.sentences.specs.Shown.{Gains, IsShown}
use Rattle.sentences.proofs.Growing.{gains_more}
use Rattle.explain_command.proofs.plans.told_valid.Goals as goal

pub returns : goal.returns
returns c =
    let line : string_bytes c.put_valid_line.new.text ≡ valid_line c.args.stated =
    c.in_ok-put_valid_line.ensures ∙ ap (λ (text : List ℕ). text ++ valid_line c.args.stated) c.new-text.ensures.bytes in
    record {
      valid = c.requires.valid;
      own = c.requires.own;
      reason = c.in_ok-reason.reason;
      is = c.in_ok-reason.ensures;
      cycle = c.cycle_of-cycle.result;
      is_cycle = c.cycle_of-cycle.ensures;
      told = gains_more (valid_line c.args.stated) (string_bytes c.put.new.text) (string_bytes c.put-2.new.text)
          (subst (λ (text : List ℕ). Gains IsShown text (string_bytes c.put.new.text)) line c.in_ok-put.ensures) c.in_ok-put-2.ensures;
    }

-- Why a line of a plan's text is refused: what stands there and what has to, and what else is wrong. Own profile.
use Rattle.std.specs.Prelude.{◌≡◌, ℕ, ◌+◌, ◌-◌, ◌==◌, List, Option, None, Some, if◌then◌else◌}
use Rattle.std.specs.Option.{option_map}
use Rattle.ttp_model.specs.Instance.{Instance}
use Rattle.line_text.specs.Parts.{seen_rest}
use Rattle.line_text.specs.TextLines.{numbered_line}
use Rattle.plan_format.specs.declared.fault.LineFault.{LineFault}
use Rattle.plan_format.specs.declared.fault.LineFault.TheVariants.{EarlyEnd, Name, Order}
use Rattle.plan_format.specs.Reading.{end_line}
use Rattle.plan_reasons.specs.declared.lines.LineReason.{LineReason}
use Rattle.plan_reasons.specs.Forms.{IsFormOf}
use Rattle.plan_reasons.specs.Orders.{first_stranger, seen_times, uneven_of}

-- how many lines there have to be, behind so many others, where the text ends too early
abbrev pub lines_of : Instance → ℕ → LineFault → Option ℕ
lines_of i before EarlyEnd = Some (before + (end_line i - 1))
lines_of i before _ = None

-- the first word of the order line that is no node's name, where one of its names is wrong
abbrev pub stranger_of : Instance → List ℕ → ℕ → LineFault → Option (List ℕ)
stranger_of i text line Name = if line == 3 then first_stranger i text else None
stranger_of i text line _ = None

-- the first node that it names not once, and how often it does
abbrev pub uneven_at : Instance → List ℕ → LineFault → Option (List ℕ × ℕ)
uneven_at i text Order = uneven_of i text
uneven_at i text _ = None

-- of this line of these bytes, in front of which so many lines stand, which are counted too
pub record IsLineReason (i : Instance) (bytes : List ℕ) (before line : ℕ) (fault : LineFault) (r : LineReason) : Type 0 where
  pub line_is : r.line ≡ before + line
  pub fault_is : r.fault ≡ fault
  pub text_is : r.text.now ≡ numbered_line bytes line
  pub form_is : IsFormOf i line r.form
  pub lines_are : r.lines ≡ lines_of i before fault
  pub stranger_is : seen_rest r.stranger ≡ stranger_of i (numbered_line bytes line) line fault
  pub uneven_is : option_map seen_times r.uneven ≡ uneven_at i (numbered_line bytes line) fault

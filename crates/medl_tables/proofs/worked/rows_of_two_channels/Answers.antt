use Rattle.std.proofs.Common.{arith, refl}
use Rattle.std.proofs.lemmas.Fmt.{decimal_digit}
use Rattle.line_text.specs.Words.{spaced}
use Rattle.medl_tables.specs.Text.{channel_text, entry_text, head_text}
use Rattle.medl_tables.proofs.worked.rows_of_two_channels.Goals as goal

pub returns-clause-sender : goal.returns-clause-sender
returns-clause-sender c = refl

pub returns-clause-first : goal.returns-clause-first
returns-clause-first c = refl

pub returns-clause-second : goal.returns-clause-second
returns-clause-second c = refl

pub returns-clause-head : goal.returns-clause-head
unfolding head_text
returns-clause-head c = refl

pub returns-clause-text : goal.returns-clause-text
unfolding entry_text channel_text spaced
returns-clause-text c = rw (decimal_digit 1 (omega arith), decimal_digit 2 (omega arith)) refl

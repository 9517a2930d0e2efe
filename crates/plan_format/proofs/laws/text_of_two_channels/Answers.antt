use Rattle.std.proofs.Common.{lit<, refl}
use Rattle.std.proofs.lemmas.Fmt.{decimal_digit}
use Rattle.plan_format.specs.Channels.{first_line}
use Rattle.plan_format.specs.Spelling.{channel_lines}
use Rattle.plan_format.proofs.laws.text_of_two_channels.Goals as goal

pub returns-clause-text : goal.returns-clause-text
unfolding first_line channel_lines
returns-clause-text c =
    rw (decimal_digit 6 (lit< tt), decimal_digit 2 (lit< tt), decimal_digit 0 (lit< tt), decimal_digit 4 (lit< tt), decimal_digit 5 (lit< tt)) refl

pub returns-clause-both : goal.returns-clause-both
unfolding channel_lines
returns-clause-both c = refl

use Rattle.std.proofs.Common.{arith}
use Rattle.plan_sheets.proofs.Places.{place-mono}
use Rattle.plan_sheets.proofs.pictures.laws.lines_lead_on.Goals as goal

pub returns-clause-sending : goal.returns-clause-sending
returns-clause-sending c = λ i plan m w inside. omega (arith, w.ready m inside)

pub returns-clause-delivery : goal.returns-clause-delivery
returns-clause-delivery c = λ i plan m k w inside place. omega (arith, w.arrived m inside k place)

pub returns-clause-pixels : goal.returns-clause-pixels
returns-clause-pixels c = λ canvas a b some le. place-mono canvas a b some le

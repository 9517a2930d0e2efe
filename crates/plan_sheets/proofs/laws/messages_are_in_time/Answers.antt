use Rattle.plan_sheets.proofs.laws.messages_are_in_time.Goals as goal

pub returns : goal.returns
returns c = λ i plan m k w inside place. (w.ready m inside, w.arrived m inside k place)

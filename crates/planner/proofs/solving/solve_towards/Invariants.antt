use Rattle.planner.proofs.solving.solve_towards.Given as goal

abbrev pub ghosts-searched : goal.ghosts-searched
ghosts-searched g a = record { instance = a.site.now.instance.now }

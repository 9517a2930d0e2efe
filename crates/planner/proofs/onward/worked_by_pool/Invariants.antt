use Rattle.planner.proofs.onward.worked_by_pool.Given as goal

abbrev pub ghosts-pooled : goal.ghosts-pooled
ghosts-pooled g a = record { instance = a.site.now.instance.now }

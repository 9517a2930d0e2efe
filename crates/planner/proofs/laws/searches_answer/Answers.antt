use Rattle.planner.proofs.Searched.{search_ends}
use Rattle.planner.proofs.Ended.{end_answers}
use Rattle.planner.proofs.laws.searches_answer.Goals as goal

pub returns-clause-tree : goal.returns-clause-tree
returns-clause-tree c = λ i options why best aims worked closed low cert w right is gathered.
    search_ends i options aims why best worked closed low cert w right is gathered

pub returns-clause-answer : goal.returns-clause-answer
returns-clause-answer c = λ i options gap why cause best low cert outcome w found is lowest told answer.
    end_answers i options gap why cause best low cert w found is lowest told outcome answer

use Rattle.many_texts.proofs.searching.put_hands.Given as goal

abbrev pub ghosts-take_in_turn : goal.ghosts-take_in_turn
ghosts-take_in_turn a = record { instance = a.instance.now }

use Rattle.bracket_engine.proofs.run.bracket_over.Given as goal

abbrev pub ghosts-race-P-Posing : goal.ghosts-race-P-Posing
ghosts-race-P-Posing g a = record { posed = a.rounds.now.ending.now.question.now }

abbrev pub ghosts-race-C-Posing : goal.ghosts-race-C-Posing
ghosts-race-C-Posing g a = record { posed = a.swapped.now }

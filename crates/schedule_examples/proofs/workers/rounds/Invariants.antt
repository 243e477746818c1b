use Rattle.schedule_examples.proofs.workers.rounds.Given as goal

abbrev pub ghosts-rounds_over : goal.ghosts-rounds_over
ghosts-rounds_over g a = record { posed = a.question.now }

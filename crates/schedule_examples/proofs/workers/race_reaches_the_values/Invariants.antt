use Rattle.schedule_examples.proofs.workers.race_reaches_the_values.Given as goal

abbrev pub ghosts-two_threads : goal.ghosts-two_threads
ghosts-two_threads g a = record { posed = a.question.now }

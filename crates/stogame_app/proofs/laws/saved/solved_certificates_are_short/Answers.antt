use Rattle.stogame_app.proofs.Solving.{solve-short}
use Rattle.stogame_app.proofs.laws.saved.solved_certificates_are_short.Goals as goal

pub returns : goal.returns
returns c = λ words holding taken solve text status denoted report. solve-short c.words_denote_one_command.ensures
    c.formulas_of_texts_are_spellable.ensures words holding taken solve text status denoted report

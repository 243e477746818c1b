use Rattle.stogame_app.proofs.Saving.{printed-short}
use Rattle.stogame_app.proofs.laws.saved.printed_certificates_are_short.Goals as goal

pub returns : goal.returns
returns c = printed-short c.words_denote_one_command.ensures c.formulas_of_texts_are_spellable.ensures

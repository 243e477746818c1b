use Rattle.std.proofs.Common.{length}
use Rattle.output.proofs.Passing.{AreReadBack}
use Rattle.reports.proofs.Accepting.{AreCertificates}
use Rattle.stogame_app.proofs.Saving.{AreSpellable, saved-accepted}
use Rattle.stogame_app.proofs.laws.saved.what_check_writes_is_accepted.Goals as goal

pub returns : goal.returns
returns c =
    let read_back : AreReadBack = c.certificates_are_read_back.ensures in
    let certificates : AreCertificates =
    λ text entries said. ((c.certificates_are_what_is_read.ensures text (length entries) entries).0 said).1 in
    let spellable : AreSpellable = c.formulas_of_texts_are_spellable.ensures in
    saved-accepted read_back certificates c.words_denote_one_command.ensures spellable

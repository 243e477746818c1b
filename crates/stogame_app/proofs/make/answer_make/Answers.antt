use Rattle.command_words.specs.Words.{make_of}
use Rattle.stogame_app.specs.Reports.{of_make}
use Rattle.stogame_app.proofs.make.answer_make.Goals as goal

pub returns-clause-made : goal.returns-clause-made
returns-clause-made g c =
    λ words holding taken denoted. of_make (make_of c.args.make.now) denoted c.in_ok-answer.ensures.made

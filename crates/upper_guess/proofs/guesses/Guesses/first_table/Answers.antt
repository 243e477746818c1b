use Rattle.std.proofs.Common.{rules}
use Rattle.game_model.specs.Tables.{IsTable}
use Rattle.upper_guess.specs.inside.OfGuesses.{first_entry_of}
use Rattle.upper_guess.proofs.Lists.{IsTable-first}
use Rattle.upper_guess.proofs.guesses.Guesses.first_table.Goals as goal

pub returns : goal.returns
returns c =
    let first : IsTable c.args.self.now.question.now (first_entry_of c.args.self.now) c.loop-state.table.items =
    search rules in
    IsTable-first _ _ _ _ _ first

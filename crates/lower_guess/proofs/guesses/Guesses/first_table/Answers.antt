use Rattle.std.proofs.Common.{rules}
use Rattle.game_model.specs.Tables.{IsTable}
use Rattle.lower_guess.specs.inside.OfGuesses.{first_entry_of}
use Rattle.lower_guess.proofs.Refused.{IsTable-first}
use Rattle.lower_guess.proofs.guesses.Guesses.first_table.Goals as goal

pub returns : goal.returns
returns c =
    let g = c.args.self.now in
    let first : IsTable g.question.now (first_entry_of g) c.loop-state.table.items = search rules in
    IsTable-first _ _ _ _ g.posed _ first

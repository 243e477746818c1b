use Rattle.game_model.proofs.Rows.{row-count}
use Rattle.game_model.proofs.row.Row.choices.Goals as goal

pub returns : goal.returns
returns c = row-count _ _ _ _ _ _ c.self.view_is

use Rattle.stogame_app.proofs.Endings.{reports_told, refusals_told}
use Rattle.stogame_app.proofs.laws.endings_are_told_by_their_status.Goals as goal

pub returns : goal.returns
returns c = record { reports = reports_told; refusals = refusals_told }

use Rattle.strategies.proofs.Stopping.{closes}
use Rattle.strategies.proofs.laws.ending.stopping_brackets_close.Goals as goal

pub returns : goal.returns
returns c = λ q lost n j r lower upper posed zero_set stopping enough close.
    closes q posed lost zero_set n j r lower upper stopping enough close

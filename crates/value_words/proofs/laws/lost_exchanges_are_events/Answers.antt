use Rattle.value_words.proofs.Events.{lost-event}
use Rattle.value_words.proofs.laws.lost_exchanges_are_events.Goals as goal

pub returns : goal.returns
returns c = λ q s id slots state from to m n act p offer miss told.
    lost-event q s id slots state m n act p from to offer told miss

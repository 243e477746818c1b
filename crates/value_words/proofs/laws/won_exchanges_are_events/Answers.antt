use Rattle.value_words.proofs.Events.{won-event}
use Rattle.value_words.proofs.laws.won_exchanges_are_events.Goals as goal

pub returns : goal.returns
returns c = λ q s id slots state from to m n act k p offer hit told.
    won-event q s id slots state m n act p from to offer told k hit

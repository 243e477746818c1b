use Rattle.value_words.proofs.Events.{load-event}
use Rattle.value_words.proofs.laws.loads_are_events.Goals as goal

pub returns : goal.returns
returns c = load-event

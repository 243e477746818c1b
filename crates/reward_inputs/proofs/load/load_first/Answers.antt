use Rattle.std.proofs.Common.{None, Some, ◌∙◌}
use Rattle.std.proofs.lemmas.Result.{err_from_is_err_and}
use Rattle.command_words.specs.Words.{asked_of_words}
use Rattle.inputs.proofs.Leaving.{answer_leaves, both_leave, end_leaves}
use Rattle.inputs.proofs.Loading.{text_missed, text_read, text_refused}
use Rattle.inputs.proofs.ModelTexts.{labels_kept, owners_kept}
use Rattle.reward_inputs.proofs.ModelTexts.{game_ends, labels_end, owners_end, model_read, owners_shared}
use Rattle.reward_inputs.proofs.load.load_first.Goals as goal

pub returns-in_err-game-clause-refused : goal.returns-in_err-game-clause-refused
returns-in_err-game-clause-refused g c =
    let asked = asked_of_words c.args.asked.now in
    let p = err_from_is_err_and c.from_residual.result c.from_residual.ensures.1 in
    rw (p.1, p.2) (λ refusal is. game_ends asked (Some refusal) (text_refused c.in_err-game.ensures.says (cc (is))))

pub returns-in_err-game-clause-steadily : goal.returns-in_err-game-clause-steadily
returns-in_err-game-clause-steadily g c =
    let asked = asked_of_words c.args.asked.now in
    let p = err_from_is_err_and c.from_residual.result c.from_residual.ensures.1 in
    rw (p.1, p.2) (λ is calm. game_ends asked None (text_missed c.in_err-game.ensures.says (cc (is)) calm))

pub returns-in_err-labels-clause-refused : goal.returns-in_err-labels-clause-refused
returns-in_err-labels-clause-refused g c =
    let asked = asked_of_words c.args.asked.now in
    let p = err_from_is_err_and c.from_residual-in_err-labels.result c.from_residual-in_err-labels.ensures.1 in
    rw (p.1, p.2) (λ refusal is. labels_end asked (text_read c.in_ok-game.ensures.says) (Some refusal)
    (labels_kept asked c.in_ok-game.ensures.shelf.kept.held c.states.ensures
    (text_refused c.in_err-labels.ensures.says (cc (is)))))

pub returns-in_err-labels-clause-steadily : goal.returns-in_err-labels-clause-steadily
returns-in_err-labels-clause-steadily g c =
    let asked = asked_of_words c.args.asked.now in
    let p = err_from_is_err_and c.from_residual-in_err-labels.result c.from_residual-in_err-labels.ensures.1 in
    rw (p.1, p.2) (λ is calm. labels_end asked (text_read c.in_ok-game.ensures.says) None
    (labels_kept asked c.in_ok-game.ensures.shelf.kept.held c.states.ensures
    (text_missed c.in_err-labels.ensures.says (cc (is)) (c.in_ok-game.ensures.shelf.kept.steady ∙ calm))))

pub returns-in_err-labels-clause-shelf : goal.returns-in_err-labels-clause-shelf
returns-in_err-labels-clause-shelf g c =
    let p = err_from_is_err_and c.from_residual-in_err-labels.result c.from_residual-in_err-labels.ensures.1 in
    rw (p.1, p.2) (both_leave c.in_ok-game.ensures.shelf (end_leaves _ c.in_err-labels.ensures.shelf))

pub returns-in_err-owners-clause-refused : goal.returns-in_err-owners-clause-refused
returns-in_err-owners-clause-refused g c =
    let asked = asked_of_words c.args.asked.now in
    let p = err_from_is_err_and c.from_residual-in_err-owners.result c.from_residual-in_err-owners.ensures.1 in
    let tra = text_read c.in_ok-game.ensures.says in
    let first = c.in_ok-game.ensures.shelf.kept.held in
    let lab = labels_kept asked first c.states.ensures (text_read c.in_ok-labels.ensures.says) in
    rw (p.1, p.2) (λ refusal is. owners_end asked tra lab (Some refusal)
    (owners_kept asked (c.in_ok-labels.ensures.shelf.kept.held ∙ first) c.states-2.ensures
    (text_refused c.in_err-owners.ensures.says (cc (is)))))

pub returns-in_err-owners-clause-shared : goal.returns-in_err-owners-clause-shared
returns-in_err-owners-clause-shared g c =
    let p = err_from_is_err_and c.from_residual-in_err-owners.result c.from_residual-in_err-owners.ensures.1 in
    rw (p.1, p.2) (λ refusal is.
    let own = text_refused {refusal = refusal} c.in_err-owners.ensures.says (cc (is)) in
    owners_shared _ own.source _ refusal own.says)

pub returns-in_err-owners-clause-steadily : goal.returns-in_err-owners-clause-steadily
returns-in_err-owners-clause-steadily g c =
    let asked = asked_of_words c.args.asked.now in
    let p = err_from_is_err_and c.from_residual-in_err-owners.result c.from_residual-in_err-owners.ensures.1 in
    let tra = text_read c.in_ok-game.ensures.says in
    let first = c.in_ok-game.ensures.shelf.kept.held in
    let lab = labels_kept asked first c.states.ensures (text_read c.in_ok-labels.ensures.says) in
    let steady = c.in_ok-labels.ensures.shelf.kept.steady ∙ c.in_ok-game.ensures.shelf.kept.steady in
    rw (p.1, p.2) (λ is calm. owners_end asked tra lab None
    (owners_kept asked (c.in_ok-labels.ensures.shelf.kept.held ∙ first) c.states-2.ensures
    (text_missed c.in_err-owners.ensures.says (cc (is)) (steady ∙ calm))))

pub returns-in_err-owners-clause-shelf : goal.returns-in_err-owners-clause-shelf
returns-in_err-owners-clause-shelf g c =
    let p = err_from_is_err_and c.from_residual-in_err-owners.result c.from_residual-in_err-owners.ensures.1 in
    rw (p.1, p.2) (both_leave c.in_ok-game.ensures.shelf
    (both_leave c.in_ok-labels.ensures.shelf (end_leaves _ c.in_err-owners.ensures.shelf)))

pub returns-clause-reads : goal.returns-clause-reads
returns-clause-reads g c =
    let asked = asked_of_words c.args.asked.now in
    let tra = text_read c.in_ok-game.ensures.says in
    let first = c.in_ok-game.ensures.shelf.kept.held in
    let lab = labels_kept asked first c.states.ensures (text_read c.in_ok-labels.ensures.says) in
    let own = owners_kept asked (c.in_ok-labels.ensures.shelf.kept.held ∙ first) c.states-2.ensures
    (text_read c.in_ok-owners.ensures.says) in
    model_read asked tra lab own

pub returns-clause-shelf : goal.returns-clause-shelf
returns-clause-shelf g c =
    both_leave c.in_ok-game.ensures.shelf (both_leave c.in_ok-labels.ensures.shelf
    (answer_leaves _ c.in_ok-owners.owners (λ fails. cc (fails)) (λ long. cc (long.1)) c.in_ok-owners.ensures.shelf))

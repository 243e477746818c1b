use Rattle.std.proofs.Common.{rules, ap}
use Rattle.game_outside.proofs.LinesOnTheWay.{takes_none, takes_more, passes_more}
use Rattle.game_outside.proofs.line_text.LineText.finish.Goals as goal

pub loop-init : goal.loop-init
loop-init g c = record {
  so_far = (_, takes_none _ _);
  on = search rules;
  ended = search rules;
  kept = search rules;
  quiet = search rules;
}

pub returns-in_err-fill-clause-text : goal.returns-in_err-fill-clause-text
returns-in_err-fill-clause-text g c = record {
  taken_is = search rules;
  limit = search rules;
  closed = search rules;
  ended = search rules;
  too_long =
      λ is. passes_more c.args.self.now c.loop.self (g.H.Shelf.rest c.args.shelf.now) (g.H.Shelf.rest c.loop.shelf)
      (g.H.Shelf.rest c.fill.new.shelf) _ c.loop.invariant.so_far.1 c.loop.invariant.on.limit (search rules);
}

pub loop-preserved : goal.loop-preserved
loop-preserved g c = record {
  so_far = (
    _,
    takes_more c.args.self.now c.loop.self c.fill.new.self (g.H.Shelf.rest c.args.shelf.now)
        (g.H.Shelf.rest c.loop.shelf) (g.H.Shelf.rest c.fill.new.shelf) _ _
        c.loop.invariant.so_far.1 (λ ended. ap g.H.Shelf.rest (c.fill.ensures.text.ended ended))
        c.in_ok-fill.ensures.piece,
  );
  on = search rules;
  ended = search rules;
  kept = search rules;
  quiet = search rules;
}

use Rattle.std.proofs.Common.{rules, sym, subst, ap}
use Rattle.text_lines.specs.Laws.{HasNo}
use Rattle.game_outside.proofs.LinesOnTheWay.{passes_more, held_given, piece_comes, none_before, line_ends, text_ends}
use Rattle.game_outside.proofs.line_text.LineText.next_line.Goals as goal

pub end_line-requires : goal.end_line-requires
end_line-requires g c =
    none_before c.args.self.now c.loop-self.self (g.H.Shelf.rest c.args.shelf.now)
    (g.H.Shelf.rest c.loop-self.shelf) c.loop-self.line.items c.give.new.line.items c.give.new.self.held
    c.loop-self.invariant.on_the_way (c.give.ensures.lf (search rules))

pub returns-in-Ok-true-clause-line : goal.returns-in-Ok-true-clause-line
returns-in-Ok-true-clause-line g c is =
    line_ends c.args.self.now c.loop-self.self c.give.new.self (g.H.Shelf.rest c.args.shelf.now)
    (g.H.Shelf.rest c.loop-self.shelf) c.loop-self.line.items c.give.new.line.items c.end_line.new.line.items
    c.loop-self.invariant.on_the_way (c.give.ensures.lf (search rules)) c.give.ensures.same c.end_line.ensures
    c.loop-self.invariant.going.0

pub returns-in_err-fill-clause-text : goal.returns-in_err-fill-clause-text
returns-in_err-fill-clause-text g c = record {
  taken_is = search rules;
  limit = search rules;
  closed = search rules;
  ended = search rules;
  too_long = λ is. passes_more c.args.self.now c.give.new.self (g.H.Shelf.rest c.args.shelf.now)
      (g.H.Shelf.rest c.loop-self.shelf) (g.H.Shelf.rest c.fill.new.shelf) _
      (held_given c.args.self.now c.loop-self.self c.give.new.self (g.H.Shelf.rest c.args.shelf.now)
      (g.H.Shelf.rest c.loop-self.shelf) c.loop-self.line.items c.give.new.line.items
      c.loop-self.invariant.on_the_way (c.give.ensures.none (search rules)) c.give.ensures.same).takes (search rules)
      (search rules);
}

pub is_last-requires : goal.is_last-requires
is_last-requires g c =
    subst (λ line. HasNo 10 line) (sym c.deref.ensures.value)
    (held_given c.args.self.now c.loop-self.self c.give.new.self (g.H.Shelf.rest c.args.shelf.now)
    (g.H.Shelf.rest c.loop-self.shelf) c.loop-self.line.items c.give.new.line.items
    c.loop-self.invariant.on_the_way (c.give.ensures.none (search rules)) c.give.ensures.same).no_lf

pub returns-then-not-branch-clause-line : goal.returns-then-not-branch-clause-line
returns-then-not-branch-clause-line g c is =
    text_ends c.args.self.now c.fill.new.self (g.H.Shelf.rest c.args.shelf.now)
    (g.H.Shelf.rest c.fill.new.shelf) c.give.new.line.items
    (piece_comes c.args.self.now c.give.new.self c.fill.new.self (g.H.Shelf.rest c.args.shelf.now)
    (g.H.Shelf.rest c.loop-self.shelf) (g.H.Shelf.rest c.fill.new.shelf) c.give.new.line.items
    (held_given c.args.self.now c.loop-self.self c.give.new.self (g.H.Shelf.rest c.args.shelf.now)
    (g.H.Shelf.rest c.loop-self.shelf) c.loop-self.line.items c.give.new.line.items
    c.loop-self.invariant.on_the_way (c.give.ensures.none (search rules)) c.give.ensures.same)
    (search rules) (λ ended. ap g.H.Shelf.rest (c.fill.ensures.text.ended ended)) c.in_ok-fill.ensures.piece)
    (search rules) (search rules) (search rules) (search rules) c.loop-self.invariant.going.0

pub loop-self-preserved : goal.loop-self-preserved
loop-self-preserved g c = record {
  on_the_way =
      piece_comes c.args.self.now c.give.new.self c.fill.new.self (g.H.Shelf.rest c.args.shelf.now)
      (g.H.Shelf.rest c.loop-self.shelf) (g.H.Shelf.rest c.fill.new.shelf) c.give.new.line.items
      (held_given c.args.self.now c.loop-self.self c.give.new.self (g.H.Shelf.rest c.args.shelf.now)
      (g.H.Shelf.rest c.loop-self.shelf) c.loop-self.line.items c.give.new.line.items
      c.loop-self.invariant.on_the_way (c.give.ensures.none (search rules)) c.give.ensures.same)
      (search rules) (λ ended. ap g.H.Shelf.rest (c.fill.ensures.text.ended ended)) c.in_ok-fill.ensures.piece;
  on = search rules;
  going = search rules;
  kept = search rules;
  quiet = search rules;
}

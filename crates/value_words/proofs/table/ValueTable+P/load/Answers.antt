use Rattle.std.proofs.Common.{◌≡◌, ◌<◌, ◌≤◌, length, get_or, set, sym, subst, ap, ◌∙◌, le_trans}
use Rattle.std.proofs.lemmas.List.{get_or-set_same}
use Rattle.game_model.specs.Limits.{unit}
use Rattle.step_core.specs.Word.{value_at}
use Rattle.step_core.proofs.Sights.{value_at-here, value_at-rises}
use Rattle.value_words.proofs.Moves.{load-allowed, found-rises, saw-units}
use Rattle.value_words.proofs.table.ValueTable+P.load.Goals as goal

pub load-requires : goal.load-requires
load-requires g c = (
  c.requires.pass,
  subst (λ n. c.args.state < n) (sym c.args.self.now.as_many) c.requires.state,
  load-allowed g.P.Posing.posed _ _ _ _ c.args.pass.now.live c.requires.state,
)

pub returns-clause-low : goal.returns-clause-low
returns-clause-low g c = found-rises c.args.pass.now.seat.me.0.seen c.args.state c.load.result c.load.ensures.2.1

pub returns-clause-looked : goal.returns-clause-looked
returns-clause-looked g c =
    let seen = c.args.pass.now.seat.me.0.seen in
    let inside : c.args.state < length seen =
    subst (λ n. c.args.state < n) (sym c.args.pass.now.as_many) c.requires.state in
    let now : c.load.new.seat.me.0.seen ≡ set seen c.args.state c.load.result = ap (λ m. m.0.seen) c.load.ensures.2.0 in
    record {
      grew = record {
        table = c.load.ensures.0;
        up = λ s. subst (λ l. value_at seen s ≤ value_at l s) (sym now) (value_at-rises seen c.args.state c.load.result
            inside (found-rises seen c.args.state c.load.result c.load.ensures.2.1) s);
      };
      won = ap (λ m. m.0.won) c.load.ensures.2.0;
      parts = ap (λ m. m.0.parts) c.load.ensures.2.0;
    }

pub returns-clause-value : goal.returns-clause-value
returns-clause-value g c =
    let seen = c.args.pass.now.seat.me.0.seen in
    let inside : c.args.state < length seen =
    subst (λ n. c.args.state < n) (sym c.args.pass.now.as_many) c.requires.state in
    let now : c.load.new.seat.me.0.seen ≡ set seen c.args.state c.load.result = ap (λ m. m.0.seen) c.load.ensures.2.0 in
    ap (λ l. value_at l c.args.state) now ∙ value_at-here seen c.args.state c.load.result inside

pub invariant_of-pass-clause-goals : goal.invariant_of-pass-clause-goals
invariant_of-pass-clause-goals g c s in_range goal_here =
    let seen = c.args.pass.now.seat.me.0.seen in
    let inside : c.args.state < length seen =
    subst (λ n. c.args.state < n) (sym c.args.pass.now.as_many) c.requires.state in
    let now : c.load.new.seat.me.0.seen ≡ set seen c.args.state c.load.result = ap (λ m. m.0.seen) c.load.ensures.2.0 in
    subst (λ l. unit ≤ value_at l s) (sym now) (le_trans (c.args.pass.now.goals s in_range goal_here) (value_at-rises
    seen c.args.state c.load.result inside (found-rises seen c.args.state c.load.result c.load.ensures.2.1) s))

pub invariant_of-pass-clause-units : goal.invariant_of-pass-clause-units
invariant_of-pass-clause-units g c s in_range =
    let p = c.args.pass.now in
    let inside : c.args.state < length p.seat.me.0.seen =
    subst (λ n. c.args.state < n) (sym p.as_many) c.requires.state in
    let w = c.load.ensures.2 in
    saw-units g.P.Posing.posed p.seat.me c.load.new.seat.me c.args.state c.load.result p.seat.me.0.won w.0 inside
    (found-rises p.seat.me.0.seen c.args.state c.load.result w.1) w.2 p.units s in_range

pub returns-clause-current : goal.returns-clause-current
returns-clause-current g c =
    let seen = c.args.pass.now.seat.me.0.seen in
    let inside : c.args.state < length seen =
    subst (λ n. c.args.state < n) (sym c.args.pass.now.as_many) c.requires.state in
    let now : c.load.new.seat.me.0.seen ≡ set seen c.args.state c.load.result = ap (λ m. m.0.seen) c.load.ensures.2.0 in
    sym (ap (λ l. get_or l c.args.state 0) now ∙ get_or-set_same seen c.args.state c.load.result 0 inside)

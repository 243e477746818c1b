use Rattle.std.proofs.Common.{◌≡◌, ◌<◌, ◌≤◌, ℕ, List, length, sym, subst, ap, ◌∙◌, le_trans}
use Rattle.game_model.specs.Limits.{unit}
use Rattle.step_core.specs.Word.{value_at}
use Rattle.step_core.proofs.Sights.{length-greater_words, greater_words-at}
use Rattle.value_words.proofs.Moves.{join-allowed, joined-units}
use Rattle.value_words.proofs.table.ValueTable+P.meet.Goals as goal

pub join_seat-requires : goal.join_seat-requires
join_seat-requires g c = (
  c.requires.pass,
  c.requires.other,
  c.args.other.empty,
  subst (λ n. 0 < n) (sym c.args.self.now.as_many) c.args.self.now.posed.game.some,
  join-allowed g.P.Posing.posed _ _ _ _ c.args.pass.now.live c.args.other.live,
)

pub invariant_of-pass : goal.invariant_of-pass
invariant_of-pass g c =
    let me = c.join_seat.ensures.2 in
    let p = c.args.pass.now in
    let xs : List ℕ = p.seat.me.0.seen in
    let ys : List ℕ = c.args.other.seat.me.0.seen in
    let even : length xs ≡ length ys = p.as_many ∙ sym c.args.other.as_many in record {
      empty = ap (λ m. m.1) me ∙ p.empty;
      live = ap (λ m. m.0.live) me ∙ p.live;
      as_many = ap (λ m. length m.0.seen) me ∙ length-greater_words xs ys even ∙ p.as_many;
      units = λ s in_range. subst (λ m. value_at m.0.seen s ≤ unit) (sym me)
          (joined-units xs ys s even (p.units s in_range) (c.args.other.units s in_range));
      goals = λ s in_range top. subst (λ m. unit ≤ value_at m.0.seen s) (sym me)
          (le_trans (p.goals s in_range top) (greater_words-at xs ys s even).first);
    }

pub returns-clause-grew : goal.returns-clause-grew
returns-clause-grew g c =
    let me = c.join_seat.ensures.2 in
    let p = c.args.pass.now in
    let xs : List ℕ = p.seat.me.0.seen in
    let ys : List ℕ = c.args.other.seat.me.0.seen in
    let even : length xs ≡ length ys = p.as_many ∙ sym c.args.other.as_many in record {
      table = c.join_seat.ensures.0;
      up = λ s. subst (λ m. value_at xs s ≤ value_at m.0.seen s) (sym me) (greater_words-at xs ys s even).first;
    }

pub returns-clause-other : goal.returns-clause-other
returns-clause-other g c s =
    let me = c.join_seat.ensures.2 in
    let xs : List ℕ = c.args.pass.now.seat.me.0.seen in
    let ys : List ℕ = c.args.other.seat.me.0.seen in
    let even : length xs ≡ length ys = c.args.pass.now.as_many ∙ sym c.args.other.as_many in
    subst (λ m. value_at ys s ≤ value_at m.0.seen s) (sym me) (greater_words-at xs ys s even).second

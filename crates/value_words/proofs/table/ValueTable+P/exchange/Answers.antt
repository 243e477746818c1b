use Rattle.std.proofs.Common.{◌<◌, ◌≤◌, length, get_or, sym, subst, ap, ◌∙◌, le_trans}
use Rattle.std.proofs.lemmas.List.{get_or-set_same}
use Rattle.game_model.specs.Limits.{unit}
use Rattle.step_core.specs.Word.{value_in, choice_in, value_at}
use Rattle.fixed_bellman.proofs.Tables.{IsGivenBy-units}
use Rattle.value_words.proofs.Moves.{exchange-allowed, saw-empty, saw-live, saw-as_many, saw-rises, saw-units}
use Rattle.value_words.proofs.table.ValueTable+P.exchange.Goals as goal

pub compare_exchange-requires : goal.compare_exchange-requires
compare_exchange-requires g c =
    let q = g.P.Posing.posed in
    let p = c.args.pass.now in
    let offer = c.requires.offer in
    let units : value_in c.args.to ≤ unit = IsGivenBy-units q (value_at p.seat.me.0.seen) c.args.state
    (value_in c.args.to) (choice_in c.args.to) c.args.self.now.posed offer.inside p.units offer.given in (
      c.requires.pass,
      subst (λ n. c.args.state < n) (sym c.args.self.now.as_many) offer.inside,
      exchange-allowed q _ _ p.seat.me c.args.state c.args.from c.args.to p.live offer units,
    )

pub invariant_of-pass : goal.invariant_of-pass
invariant_of-pass g c =
    let q = g.P.Posing.posed in
    let p = c.args.pass.now in
    let m = p.seat.me in
    let n = c.compare_exchange.new.seat.me in
    let r = c.compare_exchange.ensures.2.2 in
    let inside : c.args.state < length m.0.seen =
    subst (λ n. c.args.state < n) (sym p.as_many) c.requires.offer.inside in
    record {
      empty = saw-empty q m n c.args.state r.0 r.1 r.2 inside r.3 p.empty;
      live = saw-live q m n c.args.state r.0 r.1 r.2 inside r.3 p.live;
      as_many = saw-as_many q m n c.args.state r.0 r.1 r.2 inside r.3 p.as_many;
      units = saw-units q m n c.args.state r.0 r.1 r.2 inside r.3 r.4 p.units;
      goals = λ s in_range top.
          le_trans (p.goals s in_range top) (saw-rises q m n c.args.state r.0 r.1 r.2 inside r.3 s);
    }

pub returns-clause-grew : goal.returns-clause-grew
returns-clause-grew g c =
    let p = c.args.pass.now in
    let r = c.compare_exchange.ensures.2.2 in
    let inside : c.args.state < length p.seat.me.0.seen =
    subst (λ n. c.args.state < n) (sym p.as_many) c.requires.offer.inside in
    record {
      table = c.compare_exchange.ensures.0;
      up = saw-rises g.P.Posing.posed p.seat.me c.compare_exchange.new.seat.me c.args.state r.0 r.1 r.2 inside r.3;
    }

pub returns-clause-hit : goal.returns-clause-hit
returns-clause-hit g c hit =
    let seen = c.args.pass.now.seat.me.0.seen in
    let inside : c.args.state < length seen =
    subst (λ n. c.args.state < n) (sym c.args.pass.now.as_many) c.requires.offer.inside in
    let after = c.compare_exchange.ensures.2.0 hit in (
      ap (λ m. m.0.won) after,
      ap (λ m. get_or m.0.seen c.args.state 0) after ∙ get_or-set_same seen c.args.state c.args.to 0 inside,
    )

pub returns-clause-lost : goal.returns-clause-lost
returns-clause-lost g c lost =
    let seen = c.args.pass.now.seat.me.0.seen in
    let inside : c.args.state < length seen =
    subst (λ n. c.args.state < n) (sym c.args.pass.now.as_many) c.requires.offer.inside in
    let after = c.compare_exchange.ensures.2.1 lost in (
      ap (λ m. m.0.won) after.0,
      sym (ap (λ m. get_or m.0.seen c.args.state 0) after.0
          ∙ get_or-set_same seen c.args.state c.compare_exchange.result 0 inside),
      subst (λ n. value_in n < value_in c.compare_exchange.result) c.requires.offer.is_from after.1,
    )

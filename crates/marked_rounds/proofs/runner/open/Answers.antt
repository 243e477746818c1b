use Rattle.std.proofs.Common.{◌≡◌, ℕ, ◌<◌, arith, subst}
use Rattle.game_model.specs.Query.{Query, states}
use Rattle.game_model.specs.Rounded.{opening}
use Rattle.marked_rounds.specs.DirtySet.{read_of}
use Rattle.marked_rounds.proofs.Racing.{opens-read}
use Rattle.marked_rounds.proofs.runner.open.Goals as goal

pub returns : goal.returns
returns g c =
    let q = g.P.Posing.posed in
    let start = c.in_ok-table.ensures in
    record {
      whole = start.3;
      won = omega (arith, start.2);
      swept = opens-read q (read_of c.in_ok-dirty.dirty)
          (subst (λ (p : Query). (s : ℕ) → s < states p → read_of c.in_ok-dirty.dirty s ≡ opening p s) c.requires
          c.in_ok-dirty.ensures.opens);
    }

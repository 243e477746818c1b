use Rattle.std.proofs.Common.{◌<◌, sym, subst}
use Rattle.value_words.proofs.Moves.{split-allowed}
use Rattle.value_words.proofs.table.ValueTable+P.split.Goals as goal

pub split_seat-seat-requires : goal.split_seat-seat-requires
split_seat-seat-requires g c = (
  c.requires,
  subst (λ n. 0 < n) (sym c.args.self.now.as_many) c.args.self.now.posed.game.some,
  split-allowed g.P.Posing.posed _ _ c.args.pass.now.live,
)

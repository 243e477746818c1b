use Rattle.std.proofs.Common.{◌≡◌, vec_len}
use Rattle.float_games.specs.Nodes.{nodes_in}
use Rattle.local_values.proofs.slide.find_slide.Given as goal

abbrev pub invariant-loop : goal.invariant-loop
invariant-loop l = record {
  stops : vec_len l.stops ≡ nodes_in l.chain;
  drops : vec_len l.slide.drops ≡ nodes_in l.chain;
  moves : vec_len l.slide.moves ≡ nodes_in l.chain;
}

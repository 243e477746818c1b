-- A worker range is a row of workers, and has their states.
use Rattle.std.specs.Prelude.{◌≡◌, ◌+◌, ◌-◌, ◌/◌, ◌≤◌, List}
use Rattle.game_model.specs.Game.{Distribution}
use Rattle.round_workers.specs.declared.worker_range.WorkerRange.{WorkerRange}
use Rattle.round_workers.specs.Share.{BeginsBlock}

-- The states of a worker range begin where those of its first worker do, and end where those of the worker after its
-- last one begin.
pub record IsWorkerRange (game : List (List Distribution)) (range : WorkerRange) : Type 0 where
  pub begins : BeginsBlock game range.workers range.first range.low
  pub ends : BeginsBlock game range.workers range.last range.high

-- Two worker ranges, one after the other, have about half of the workers each.
pub record AreHalves (game : List (List Distribution)) (range front back : WorkerRange) : Type 0 where
  pub front_range : IsWorkerRange game front
  pub back_range : IsWorkerRange game back
  pub order : (front.low ≤ front.high) × (back.low ≤ back.high)
  pub lows : (front.low ≡ range.low) × (back.low ≡ front.high) × (back.high ≡ range.high)
  pub firsts : (front.first ≡ range.first) × (front.last ≡ range.first + (range.last - range.first) / 2)
      × (back.first ≡ front.last) × (back.last ≡ range.last)

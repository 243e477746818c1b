use Rattle.std.proofs.Common.{rules, ◌≡◌, ◌+◌, ◌*◌, ◌/◌, length, ℕ, arith}
use Rattle.bounded_rounds.proofs.Parts.{IsStepped-both}
use Rattle.bounded_rounds.proofs.fork.+halves.Goals as goal

pub step_chunks-returns : goal.step_chunks-returns
step_chunks-returns g t c =
    let size : ℕ = c.args.size in
    let worker : ℕ = c.args.worker in
    let chunks : ℕ = c.div_ceil-chunks.result / 2 in
    let m : ℕ = length c.split_at_mut-front.result.0.now in
    let n : ℕ = length c.split_at_mut-front.result.1.now in
    let new = c.step_halves-first.new in
    let halves = c.step_halves-first.ensures in
    let cut : m ≡ chunks * size = search rules in
    let whole : m + n ≡ length c.args.next.now = search rules in
    let fronts : length new.front ≡ m = search rules in
    IsStepped-both c.args.tables.question.now c.args.tables.table.now (worker * size) ((worker + chunks) * size) m n
    (length c.args.next.now)
    new.front new.back c.step_halves-first.result.0 c.step_halves-first.result.1 fronts
    (omega arith) whole halves.front halves.back

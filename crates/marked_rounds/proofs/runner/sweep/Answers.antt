use Rattle.std.proofs.Common.{◌≡◌, ℕ, ◌<◌, ◌≤◌, All, Bool, true, false, List, length, refl, ap, sym, ◌∙◌, subst}
use Rattle.std.proofs.Common.{slice_index_or}
use Rattle.game_model.specs.Game.{Distribution}
use Rattle.game_model.specs.Query.{Query, states}
use Rattle.game_model.specs.Limits.{unit}
use Rattle.game_model.specs.Rounded.{down_step}
use Rattle.value_words.specs.Passes.{seen_by}
use Rattle.predecessors.specs.Marks.{IsMarked}
use Rattle.marked_rounds.specs.DirtySet.{read_of, AreMarkedFor}
use Rattle.marked_rounds.proofs.Quiet.{step-everywhere, quiet-again, settled-unchanged}
use Rattle.marked_rounds.proofs.runner.sweep.Given.{Over}
use Rattle.marked_rounds.proofs.runner.sweep.Goals as goal

pub returns-then-changed-eq0-clause-step : goal.returns-then-changed-eq0-clause-step
returns-then-changed-eq0-clause-step g c =
    let q = g.P.Posing.posed in
    step-everywhere q c.args.dirty.now _ c.read_again-changed.new.dirty (seen_by c.args.pass)
    (seen_by c.round-pass.result.pass) (seen_by c.read_again-changed.new.pass)
    c.args.table.now.posed c.requires.dirty refl refl (subst (λ (l : List Bool).
    (s : ℕ) → s < states q → IsMarked l s → down_step q (seen_by c.args.pass) s ≤ seen_by c.round-pass.result.pass s)
    c.deref.ensures.value c.round-pass.ensures.step) c.read_again-changed.ensures.again

pub returns-then-changed-eq0-clause-settled : goal.returns-then-changed-eq0-clause-settled
returns-then-changed-eq0-clause-settled g c none =
    settled-unchanged g.P.Posing.posed c.args.dirty.now _ c.read_again-changed.new.dirty
    (seen_by c.round-pass.result.pass)
    (seen_by c.read_again-changed.new.pass) c.args.table.now.posed refl c.read_again-changed.ensures.again
    (returns-then-changed-eq0-clause-step g c) (c.read_again-changed.ensures.none c.if-changed-eq0.true)

pub returns-then-changed-eq0-clause-dirty : goal.returns-then-changed-eq0-clause-dirty
returns-then-changed-eq0-clause-dirty g c = record {
  sized = c.read_again-changed.ensures.sized;
  whole = λ said. absurd (let clash : true ≡ false = sym said ∙ c.read_again-changed.ensures.part in cc);
  below = λ s inside. c.read_again-changed.ensures.again.below s inside;
  quiet = λ s inside off. returns-then-changed-eq0-clause-settled g c refl s inside;
}

-- the same before the marks are set
read-step : (g : Over) (c : goal.After-mark_again g) → (s : ℕ) → s < states g.P.Posing.posed
    → down_step g.P.Posing.posed (read_of c.args.dirty.now) s ≤ read_of c.read_again-changed.new.dirty s
read-step g c =
    let q = g.P.Posing.posed in
    step-everywhere q c.args.dirty.now _ c.read_again-changed.new.dirty (seen_by c.args.pass)
    (seen_by c.round-pass.result.pass) (seen_by c.read_again-changed.new.pass)
    c.args.table.now.posed c.requires.dirty refl refl (subst (λ (l : List Bool).
    (s : ℕ) → s < states q → IsMarked l s → down_step q (seen_by c.args.pass) s ≤ seen_by c.round-pass.result.pass s)
    c.deref.ensures.value c.round-pass.ensures.step) c.read_again-changed.ensures.again

pub returns-clause-step : goal.returns-clause-step
returns-clause-step g c s inside =
    subst (λ (l : List ℕ). down_step g.P.Posing.posed (read_of c.args.dirty.now) s ≤ slice_index_or l s 0)
    (sym c.mark_again.ensures.read) (read-step g c s inside)

pub returns-clause-dirty : goal.returns-clause-dirty
returns-clause-dirty g c =
    let q : Query = g.P.Posing.posed in
    let m = c.mark_again.ensures in
    let read = c.read_again-changed.new.dirty in
    let new = c.mark_again.new.dirty in
    let game : c.game.result.now ≡ q.game = c.game.ensures ∙ ap (λ (p : Query). p.game) c.question.ensures in
    let marked : AreMarkedFor q.game read.more.items new.marks.items =
    subst (λ (l : List (List Distribution)). AreMarkedFor l read.more.items new.marks.items) game m.marked in
    record {
      sized = record {
        read = ap length m.read ∙ c.read_again-changed.ensures.sized.read;
        units = subst (λ (l : List ℕ). All (λ v. v ≤ unit) l) (sym m.read) c.read_again-changed.ensures.sized.units;
        marks = m.marks ∙ ap length game;
        more = m.more ∙ ap length game;
      };
      whole = λ said. subst (λ (l : List (List Distribution)). (s : ℕ) → s < length l → IsMarked new.marks.items s)
          game (m.whole said);
      below = λ s inside. subst (λ (l : List ℕ). slice_index_or l s 0 ≤ seen_by c.read_again-changed.new.pass s)
          (sym m.read) (c.read_again-changed.ensures.again.below s inside);
      quiet = λ s inside off.
          subst (λ (l : List ℕ). down_step q (λ t. slice_index_or l t 0) s ≤ slice_index_or l s 0) (sym m.read)
          (quiet-again q c.args.dirty.now _ read new.marks.items (seen_by c.round-pass.result.pass)
          (seen_by c.read_again-changed.new.pass) c.args.table.now.posed refl c.read_again-changed.ensures.again
          (read-step g c) marked s inside off);
    }

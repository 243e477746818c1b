-- A problem that was posed can be reported on.
use Rattle.std.proofs.Common.{◌≡◌, ◌<◌, ◌≤◌, ◌∙◌, ℕ, Bool, true, false, cond, List, length, get_or, refl, sym, ap}
use Rattle.std.proofs.Common.{subst, arith}
use Rattle.std.specs.Prelude.{◌==◌, All, slice_index}
use Rattle.std.proofs.lemmas.Grind.{get_or_default_zero}
use Rattle.game_model.specs.Game.{Distribution}
use Rattle.game_model.specs.Limits.{unit}
use Rattle.label_lines.specs.Labels.{Labelling}
use Rattle.label_lines.specs.Owners.{Ownership}
use Rattle.formula_reader.specs.Formula.{Tree, formulas_inside, tree_of}
use Rattle.formula_tokens.specs.Limits.{longest}
use Rattle.rpatl_syntax.specs.Spellable.{IsSpellable}
use Rattle.formula_sets.specs.Truth.{holds}
use Rattle.formula_sets.specs.Posing.{NextPosing, PosesNext}
use Rattle.inputs.specs.declared.problem.Problem.{Problem}
use Rattle.inputs.specs.declared.problem.Problem.TheVariants.{Reach, Within, Next, Nested}
use Rattle.inputs.specs.Problems.{PosesProblem}
use Rattle.inputs.specs.declared.model.Loaded.{Loaded}
use Rattle.inputs.specs.Posed.{HasSizes}
use Rattle.inputs.specs.SeenProblems.{IsOfLoaded, problem_of}
use Rattle.reports.specs.Sweeps.{IsOpening, opens}
use Rattle.reports.specs.Nested.{IsAnswerable}
use Rattle.stogame_app.specs.inside.Posed.{IsReportable}

-- the unit or 0, and which of them it is
opens-at : (held : Bool) (value : ℕ) → value ≡ cond held unit 0 → (value ≤ unit) × (value ≡ cond (value == unit) unit 0)
opens-at true value is = (omega (arith, is), subst (λ v. v ≡ cond (v == unit) unit 0) (sym is) refl)
opens-at false value is = (omega (arith, is), subst (λ v. v ≡ cond (v == unit) unit 0) (sym is) refl)

of_next : (game : List (List Distribution)) (l : Labelling) (o : Ownership) (f : Tree) (p : NextPosing)
    → PosesNext game l o f p → IsOpening p.question p.opening
of_next game l o f p poses =
    let same : length p.question.game ≡ length game =
    ap (λ (g : List (List Distribution)). length g) poses.set_up.game_same in
    let at : (s : ℕ) → s < length game
    → (slice_index p.opening s ≤ unit) × (slice_index p.opening s ≡ cond (opens p.opening s) unit 0) =
    λ s inside. opens-at (holds l f.right s) (slice_index p.opening s) (poses.opening s inside) in
    record {
      many = poses.opening_count ∙ sym same;
      units = units p.opening poses.opening_count at;
      next = record {
        goals = λ s inside. poses.goals s (omega (arith, same, inside));
        deads = λ s inside. poses.deads s (omega (arith, same, inside));
        opens = λ s inside. (at s (omega (arith, same, inside))).1;
      };
    }
  where
    units : (opening : List ℕ) → length opening ≡ length game → ((s : ℕ) → s < length game
        → (slice_index opening s ≤ unit) × (slice_index opening s ≡ cond (opens opening s) unit 0))
        → All (λ v. v ≤ unit) opening
    units opening many at = λ i d there. at-state i d there
      where
        at-state : (i d : ℕ) → i < length opening → get_or opening i d ≤ unit
        at-state i d there =
            subst (λ v. v ≤ unit) (sym (get_or_default_zero opening i d there)) (at i (omega (arith, many, there))).0

-- what was loaded poses a problem that can be reported on, where its formula was read from a text
pub reportable : (game : List (List Distribution)) (l : Labelling) (o : Ownership) (f : Tree) (loaded : Loaded)
    (problem : Problem) → PosesProblem game l o f (problem_of problem) → IsOfLoaded loaded problem
    → HasSizes loaded.game loaded.labels loaded.owners → IsSpellable (tree_of loaded.formula)
    → formulas_inside (tree_of loaded.formula) ≤ longest → IsReportable problem (tree_of loaded.formula)
reportable game l o f loaded (Reach posed dual) poses of sizes spellable few = tt
reportable game l o f loaded (Within posed steps) poses of sizes spellable few = tt
reportable game l o f loaded (Next posed) (flat, kind, poses) of sizes spellable few = of_next game l o f _ poses
reportable game l o f loaded (Nested other initial) poses of sizes spellable few =
    subst (λ (k : Loaded). IsAnswerable k initial.items × (tree_of k.formula ≡ tree_of loaded.formula)) (sym of.0)
    (record { sizes = sizes; spellable = spellable; few = few; named = of.1 }, refl)

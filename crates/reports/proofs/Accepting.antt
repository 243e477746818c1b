-- The certificate of a report is accepted.
use Rattle.std.proofs.Common.{◌≡◌, ◌∙◌, ℕ, Bool, true, false, cond, List, length, map, Ok, refl, ap, subst}
use Rattle.std.specs.Prelude.{◌&&◌, IsSome}
use Rattle.game_model.specs.Game.{Distribution}
use Rattle.game_model.specs.Query.{Query, states}
use Rattle.label_lines.specs.Labels.{Labelling}
use Rattle.label_lines.specs.Owners.{Ownership}
use Rattle.formula_reader.specs.Formula.{Tree, is_flat}
use Rattle.plan_text.specs.Entries.{Entry, HasStates, entries_of}
use Rattle.certificate_audit.specs.Accepted.{IsAccepted, Passes}
use Rattle.plan_text.specs.declared.plan.Plan.{Plan}
use Rattle.verdicts.specs.declared.report.How.{How}
use Rattle.verdicts.specs.declared.report.How.TheVariants.{Rounds, Solved}
use Rattle.command_words.specs.Words.{Check}
use Rattle.output.specs.declared.status.Status.{Status}
use Rattle.output.specs.Printed.{output_of}
use Rattle.inputs.specs.declared.problem.Paths.TheVariants.{Unbounded}
use Rattle.inputs.specs.Problems.{Problem, OfReach, OfWithin, OfNext, OfNested, PosesProblem, posing_in, takes}
use Rattle.inputs.specs.Problems.{takes_formula}
use Rattle.rpatl_syntax.specs.Dual.{answered}
use Rattle.reports.specs.Reports.{IsBracketReport}
use Rattle.reports.specs.Solved.{IsSolved}
use Rattle.output.proofs.Passing.{AreReadBack, read-behind}
use Rattle.output.proofs.PlainParts.{HasPlainParts}
use Rattle.plan_text.specs.Said.{entries_said}
use Rattle.plan_text.specs.Certificate.{IsCertificate}
use Rattle.output.specs.Outputs.{output_text, IsInLimits}

-- 1. Of a report with a plan.

abbrev pub AreCertificates : Type 0
AreCertificates = (text : List ℕ) (entries : List Entry) → entries_said text (length entries) ≡ Ok entries
    → IsCertificate text entries

-- an output with a certificate of a plan that passes
output-accepted : AreReadBack → AreCertificates → (q : Query) (initial : List ℕ) (f : Tree) (how : How)
    (asked : Bool) (plan : Plan) (text : List ℕ) → asked ≡ true → HasPlainParts (answered f)
    → text ≡ output_text (output_of asked f how initial plan) → IsInLimits (output_of asked f how initial plan)
    → HasStates plan (states q) → Passes q plan → IsAccepted q text plan
output-accepted read_back certificates q initial f how asked plan text planned parts written limits lists passes =
    let entries = entries_of plan in
    let lines = (output_of asked f how initial plan).lines in
    let whole = subst (λ (p : Bool). text ≡ output_text (output_of p f how initial plan)) planned written in
    let small = subst (λ (p : Bool). IsInLimits (output_of p f how initial plan)) planned limits in
    let said = read-behind read_back lines (answered f) entries small.lines parts small.entries.0 small.entries.1 in
    record {
      read = record {
        lists = lists;
        said = certificates text entries (ap (λ (t : List ℕ). entries_said t (length entries)) whole ∙ said);
      };
      passes = passes;
    }

pub report-accepted : AreReadBack → AreCertificates
    → (q : Query) (initial : List ℕ) (f : Tree) (check : Check) (text : List ℕ) (status : Status) → check.plan ≡ true
    → HasPlainParts (answered f) → (r : IsBracketReport q initial f check text status) → IsAccepted q text r.plan
report-accepted read_back certificates q initial f check text status planned parts r =
    output-accepted read_back certificates q initial f
    (Rounds r.found.rounds) check.plan r.plan text planned parts r.written r.limits r.lists r.passes

pub solved-accepted : AreReadBack → AreCertificates
    → (q : Query) (initial : List ℕ) (f : Tree) (asked : Bool) (text : List ℕ) (status : Status) → asked ≡ true
    → HasPlainParts (answered f) → (r : IsSolved q initial f asked text status) → IsAccepted q text r.plan
solved-accepted read_back certificates q initial f asked text status planned parts r =
    output-accepted read_back certificates q initial f Solved asked r.plan text planned parts r.written
    r.limits r.is_plan.lists r.is_plan.passes

-- 2. Of the paths.

-- such formulas have none inside, and no bound on the steps
not_taken : (g : Tree) (flat : Bool) → (is_flat g.left && is_flat g.right) ≡ flat
    → cond flat (takes Unbounded g.kind) false ≡ true → (flat ≡ true) × (takes Unbounded g.kind ≡ true)
not_taken g true of taken = (refl, taken)
not_taken g false of taken = cc (taken)

-- a problem that they pose is to reach a goal
pub has-posing : (game : List (List Distribution)) (labels : Labelling) (owners : Ownership) (g : Tree)
    (problem : Problem) → PosesProblem game labels owners g problem → takes_formula Unbounded g ≡ true
    → IsSome (posing_in problem)
has-posing game labels owners g (OfReach p) poses taken = refl
has-posing game labels owners g (OfWithin k p) (flat, of, poses) taken =
    let by = not_taken g (is_flat g.left && is_flat g.right) refl taken in
    let not : takes Unbounded g.kind ≡ false = ap (takes Unbounded) of in
    let is = by.1 in absurd (cc (not, is))
has-posing game labels owners g (OfNext p) (flat, of, poses) taken =
    let by = not_taken g (is_flat g.left && is_flat g.right) refl taken in
    let not : takes Unbounded g.kind ≡ false = ap (takes Unbounded) of in
    let is = by.1 in absurd (cc (not, is))
has-posing game labels owners g (OfNested m initial) (nested, of, said) taken =
    let by = not_taken g (is_flat g.left && is_flat g.right) refl taken in absurd (nested by.0)

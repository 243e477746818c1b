use Rattle.std.proofs.Common.{◌≡◌, ◌∙◌, ◌&&◌, ◌||◌, not, sym, ap, arith}
use Rattle.std.proofs.lemmas.List.{take_at}
use Rattle.formula_reader.specs.declared.formula.StateFormula.{StateFormula}
use Rattle.formula_reader.specs.Formula.{state_of}
use Rattle.formula_sets.specs.Truth.{holds}
use Rattle.formula_sets.specs.Posing.{at_states}
use Rattle.formula_sets.proofs.Marked.{changed, joined}
use Rattle.formula_sets.proofs.labels.+marks_of.Goals as goal

pub returns-in_ok-marks-in-Not : goal.returns-in_ok-marks-in-Not
returns-in_ok-marks-in-Not t c =
    let of = λ (f : StateFormula). at_states (holds c.args.labels.now (state_of f)) c.args.states in
    let x : c.deref_mut.result.now ≡ at_states (holds c.args.labels.now (state_of c.in-Not.x.value)) c.args.states =
    c.deref_mut.ensures.value ∙ c.in_ok-marks-in-Not.ensures ∙ ap of c.deref.ensures in
    take_at _ _ _ (omega (arith, c.negate.auto.marks, c.deref_mut.ensures.len))
    ∙ changed not (holds c.args.labels.now (state_of c.in-Not.x.value)) c.args.states _ _ x
    c.negate.auto.marks c.negate.ensures
    ∙ ap of (sym c.in-Not.is)

pub returns-in_ok-others-in-And : goal.returns-in_ok-others-in-And
returns-in_ok-others-in-And t c =
    let of = λ (f : StateFormula). at_states (holds c.args.labels.now (state_of f)) c.args.states in
    let x : c.deref_mut-in-And.result.now
    ≡ at_states (holds c.args.labels.now (state_of c.in-And.x.value)) c.args.states =
    c.deref_mut-in-And.ensures.value ∙ c.in_ok-marks-in-And.ensures ∙ ap of c.deref-in-And.ensures in
    let y : c.deref-in-And-3.result.now
    ≡ at_states (holds c.args.labels.now (state_of c.in-And.y.value)) c.args.states =
    c.deref-in-And-3.ensures.value ∙ c.in_ok-others-in-And.ensures ∙ ap of c.deref-in-And-2.ensures in
    take_at _ _ _ (omega (arith, c.intersect.auto.marks, c.deref_mut-in-And.ensures.len))
    ∙ joined (λ a b. a && b) (holds c.args.labels.now (state_of c.in-And.x.value))
    (holds c.args.labels.now (state_of c.in-And.y.value)) c.args.states _ _ _ x y
    c.intersect.auto.marks c.intersect.ensures
    ∙ ap of (sym c.in-And.is)

pub returns-in_ok-others-in-Or : goal.returns-in_ok-others-in-Or
returns-in_ok-others-in-Or t c =
    let of = λ (f : StateFormula). at_states (holds c.args.labels.now (state_of f)) c.args.states in
    let x : c.deref_mut-in-Or.result.now
    ≡ at_states (holds c.args.labels.now (state_of c.in-Or.x.value)) c.args.states =
    c.deref_mut-in-Or.ensures.value ∙ c.in_ok-marks-in-Or.ensures ∙ ap of c.deref-in-Or.ensures in
    let y : c.deref-in-Or-3.result.now ≡ at_states (holds c.args.labels.now (state_of c.in-Or.y.value)) c.args.states =
    c.deref-in-Or-3.ensures.value ∙ c.in_ok-others-in-Or.ensures ∙ ap of c.deref-in-Or-2.ensures in
    take_at _ _ _ (omega (arith, c.unite.auto.marks, c.deref_mut-in-Or.ensures.len))
    ∙ joined (λ a b. a || b) (holds c.args.labels.now (state_of c.in-Or.x.value))
    (holds c.args.labels.now (state_of c.in-Or.y.value)) c.args.states _ _ _ x y c.unite.auto.marks c.unite.ensures
    ∙ ap of (sym c.in-Or.is)

pub returns-in_ok-others-in-Implies : goal.returns-in_ok-others-in-Implies
returns-in_ok-others-in-Implies t c =
    let of = λ (f : StateFormula). at_states (holds c.args.labels.now (state_of f)) c.args.states in
    let x : c.deref_mut-in-Implies.result.now
    ≡ at_states (holds c.args.labels.now (state_of c.in-Implies.x.value)) c.args.states =
    c.deref_mut-in-Implies.ensures.value ∙ c.in_ok-marks-in-Implies.ensures ∙ ap of c.deref-in-Implies.ensures in
    let not_x : c.deref_mut-in-Implies-2.result.now
    ≡ at_states (λ s. not (holds c.args.labels.now (state_of c.in-Implies.x.value) s)) c.args.states =
    c.deref_mut-in-Implies-2.ensures.value
    ∙ take_at _ _ _ (omega (arith, c.negate-in-Implies.auto.marks, c.deref_mut-in-Implies.ensures.len))
    ∙ changed not (holds c.args.labels.now (state_of c.in-Implies.x.value)) c.args.states _ _ x
    c.negate-in-Implies.auto.marks c.negate-in-Implies.ensures in
    let y : c.deref-in-Implies-3.result.now
    ≡ at_states (holds c.args.labels.now (state_of c.in-Implies.y.value)) c.args.states =
    c.deref-in-Implies-3.ensures.value ∙ c.in_ok-others-in-Implies.ensures ∙ ap of c.deref-in-Implies-2.ensures in
    take_at _ _ _ (omega (arith, c.unite-in-Implies.auto.marks, c.deref_mut-in-Implies-2.ensures.len))
    ∙ joined (λ a b. a || b) (λ s. not (holds c.args.labels.now (state_of c.in-Implies.x.value) s))
    (holds c.args.labels.now (state_of c.in-Implies.y.value)) c.args.states _ _ _ not_x y c.unite-in-Implies.auto.marks
    c.unite-in-Implies.ensures
    ∙ ap of (sym c.in-Implies.is)

use Rattle.std.proofs.Common.{◌≡◌, ◌∙◌, ◌+◌, ap, not, arith, cond, sym, false, subst, get_or}
use Rattle.std.proofs.lemmas.List.{get_or_read}
use Rattle.verdicts.specs.Verdict.{verdict_of, is_yes, is_no, is_undecided}
use Rattle.formula_truth.specs.ThreeValued.{judgement, verdict_at}
use Rattle.nested_truth.specs.Seen.{band_in}
use Rattle.formula_truth.proofs.Counted.{IsJudgedBelow, byte-is, byte-few, undecided-few, judged-more}
use Rattle.nested_truth.proofs.Tables.{filled-length, filled-at}
use Rattle.nested_truth.proofs.judging.judged_by.Goals as goal

pub overflow_add-undecided : goal.overflow_add-undecided
overflow_add-undecided c =
    omega (
      arith,
      undecided-few c.args.bound.now (band_in c.args.bounds.now) c.loop-state.state,
      c.loop-state.invariant.undecided_are,
      c.from-undecided.ensures,
      byte-few c.is_undecided.result,
    )

pub loop-state-preserved : goal.loop-state-preserved
loop-state-preserved c =
    let bounds = c.args.bounds.now in
    let bound = c.args.bound.now in
    let s = c.loop-state.state in
    let low = get_or_read bounds.lower.items s c.index.result.now
    (omega (arith, c.loop-state-test.true, c.requires.lowers)) c.index.ensures 0 in
    let high = get_or_read bounds.upper.items s c.index-in-loop-state.result.now
    (omega (arith, c.loop-state-test.true, c.requires.uppers)) c.index-in-loop-state.ensures 0 in
    let verdict : c.settle-verdict.result ≡ verdict_at bound (band_in bounds) s =
    c.settle-verdict.ensures ∙ ap (λ v. verdict_of bound v c.index-in-loop-state.result.now) low
    ∙ ap (λ v. verdict_of bound (get_or bounds.lower.items s 0) v) high in
    judged-more bound (band_in bounds) s _ _ _ _ _ _ _ _ c.loop-state.invariant c.in_ok-push.ensures.items
    c.in_ok-push-2.ensures.items
    (c.is_yes.ensures ∙ ap is_yes verdict) (ap not (c.is_no.ensures ∙ ap is_no verdict))
    (ap (λ k. c.loop-state.undecided + k) (c.from-undecided.ensures ∙ byte-is c.is_undecided.result
    ∙ ap (λ b. cond b 1 0) (c.is_undecided.ensures ∙ ap is_undecided verdict)))

pub returns-clause-states : goal.returns-clause-states
returns-clause-states c =
    let bounds = c.args.bounds.now in
    let end : c.loop-state.state ≡ c.args.states = omega arith in
    let all = subst (λ n. IsJudgedBelow c.args.bound.now (band_in bounds) n c.loop-state.sure.items
    c.loop-state.possible.items c.loop-state.undecided) end c.loop-state.invariant in
    filled-length (judgement c.args.bound.now (band_in bounds)).sure c.args.states c.loop-state.sure.items all.sure_are

pub returns-clause-known : goal.returns-clause-known
returns-clause-known c =
    let bounds = c.args.bounds.now in
    let k = judgement c.args.bound.now (band_in bounds) in
    let end : c.loop-state.state ≡ c.args.states = omega arith in
    let all = subst (λ n. IsJudgedBelow c.args.bound.now (band_in bounds) n c.loop-state.sure.items
    c.loop-state.possible.items c.loop-state.undecided) end c.loop-state.invariant in
    record {
      sure = λ s l. sym (filled-at k.sure c.args.states c.loop-state.sure.items all.sure_are false s l);
      possible = λ s l. sym (filled-at k.possible c.args.states c.loop-state.possible.items all.possible_are false s l);
    }

pub returns-clause-undecided : goal.returns-clause-undecided
returns-clause-undecided c =
    let bounds = c.args.bounds.now in
    let end : c.loop-state.state ≡ c.args.states = omega arith in
    (subst (λ n. IsJudgedBelow c.args.bound.now (band_in bounds) n c.loop-state.sure.items c.loop-state.possible.items
    c.loop-state.undecided) end c.loop-state.invariant).undecided_are

use Rattle.std.proofs.Common.{ℕ, List, [], Option, subst}
use Rattle.std.specs.Prelude.{IfSome, IfNone}
use Rattle.std.proofs.lemmas.Result.{IfOk-weaker}
use Rattle.solved_rewards.specs.declared.merge.MergedLists.{MergedLists}
use Rattle.solved_rewards.specs.inside.Merged.{AreMerged, IsRefused}
use Rattle.solved_rewards.proofs.Weakest.{filled-without}
use Rattle.solved_rewards.proofs.solve.first_accepted.Goals as goal

pub returns-in-Some-3-clause-filled : goal.returns-in-Some-3-clause-filled
returns-in-Some-3-clause-filled c =
    let sources = c.args.sources.now in
    let given : IsRefused sources [] c.deref-2.result.now =
    subst (λ (some : Option MergedLists). IfNone some (IsRefused sources [] c.deref-2.result.now)) c.in_default-2.is
    c.in_ok-lists-2.ensures.refused in
    let refused : IsRefused sources [] sources.candidates.now.lower.items =
    subst (λ (below : List ℕ). IsRefused sources [] below) c.deref-2.ensures.value given in
    let are : AreMerged sources c.args.found.now [] c.in-Some-3.lists =
    subst (λ (some : Option MergedLists). IfSome some (AreMerged sources c.args.found.now [])) c.in-Some-3.is
    c.in_ok-lists-3.ensures.merged in
    filled-without sources c.args.found.now c.in-Some-3.lists c.requires refused are

pub returns-clause-filled : goal.returns-clause-filled
returns-clause-filled c =
    let sources = c.args.sources.now in
    let given : IsRefused sources [] c.deref-2.result.now =
    subst (λ (some : Option MergedLists). IfNone some (IsRefused sources [] c.deref-2.result.now)) c.in_default-2.is
    c.in_ok-lists-2.ensures.refused in
    let refused : IsRefused sources [] sources.candidates.now.lower.items =
    subst (λ (below : List ℕ). IsRefused sources [] below) c.deref-2.ensures.value given in
    IfOk-weaker c.weakest.result _ _ (λ lists are. filled-without sources [] lists c.requires refused are)
    c.weakest.ensures.merged

use Rattle.std.proofs.Common.{ℕ, Bool, false, List, [], replicate, sym, subst, ap, ◌∙◌}
use Rattle.label_reader.specs.inside.Marked.{AreMarked}
use Rattle.label_lines.specs.Texts.{is_said}
use Rattle.label_reader.proofs.Marking.{AreMarked-nothing}
use Rattle.label_reader.proofs.label_sets.LabelSetsBehindHeader.new.Goals as goal

pub returns : goal.returns
returns c =
    let n = c.args.states in
    let items = c.args.header in
    let empty = c.in_ok-sets.ensures ∙ ap (λ (k : ℕ). replicate k (replicate n false)) c.len.ensures.len in
    let P : List (List Bool) → Type 0 = λ sets. AreMarked n items (is_said []) sets in
    λ lines answer rest. rest [] (subst P (sym empty) (AreMarked-nothing n items))

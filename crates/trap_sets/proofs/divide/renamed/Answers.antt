use Rattle.std.proofs.Common.{◌≡◌, ℕ, ◌+◌, List, length, replicate, rules, sym, ◌∙◌, subst}
use Rattle.trap_sets.specs.inside.Naming.{IsNaming}
use Rattle.trap_sets.proofs.Keeping.{KeepsEnds-renamed, IsRooted-named}
use Rattle.trap_sets.proofs.Naming.{IsNaming-none}
use Rattle.trap_sets.proofs.Zeros.{zero-at}
use Rattle.trap_sets.proofs.divide.renamed.Goals as goal

pub name_all-requires-clause-naming : goal.name_all-requires-clause-naming
name_all-requires-clause-naming c =
    let part = c.args.part.now in
    let n : ℕ = c.greatest_of-greatest.result + 1 in
    let zeros : c.in_ok-names.names.items ≡ replicate n 0 = search rules in
    let names : c.deref_mut.result.now ≡ replicate n 0 = c.deref_mut.ensures.value ∙ zeros in
    subst (λ (xs : List ℕ). IsNaming part xs c.new-class.result.items 0) (sym names)
    (subst (λ (ys : List ℕ). IsNaming part (replicate n 0) ys 0) (sym c.new-class.ensures.items)
    (IsNaming-none part (replicate n 0) (zero-at n)))

pub returns-clause-keeps : goal.returns-clause-keeps
returns-clause-keeps c =
    let mdp = c.args.mdp.now in
    let part = c.args.part.now in
    KeepsEnds-renamed mdp.question.now mdp.replies.now part c.name_all.new.names c.name_all.new.class.items
    c.requires.keeps (subst (IsNaming part c.name_all.new.names c.name_all.new.class.items)
    c.requires.keeps.many c.in_ok-name_all.ensures)

pub returns-clause-rooted : goal.returns-clause-rooted
returns-clause-rooted c = IsRooted-named c.args.part.now c.name_all.new.names
    c.name_all.new.class.items (length c.args.part.now) c.in_ok-name_all.ensures

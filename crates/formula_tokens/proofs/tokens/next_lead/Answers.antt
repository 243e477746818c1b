use Rattle.std.proofs.Common.{rules, ◌≡◌, ◌∷◌, sym, subst}
use Rattle.formula_tokens.specs.Tokens.{Tokens}
use Rattle.formula_tokens.specs.Cursor.{Leads}
use Rattle.formula_tokens.proofs.Passing.{led_by}
use Rattle.formula_tokens.proofs.tokens.next_lead.Goals as goal

pub returns-in-Spelling : goal.returns-in-Spelling
returns-in-Spelling c =
    let whole : c.loop-first.rest.now ≡ c.in-Some.first.now ∷ c.in-Some.others.now = search rules in
    let P : Tokens → Type 0 = λ ts. Leads ts c.cut.result in
    subst P c.loop-first.invariant.tokens
    (led_by _ _ _ _ _ _ whole (sym c.in-Spelling.ensures.value) c.in-Spelling.ensures.within.0
    c.in-Spelling.ensures.within.1 c.cut.ensures)

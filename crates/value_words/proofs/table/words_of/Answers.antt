use Rattle.std.proofs.Common.{◌≡◌, ℕ, zero, suc, List, [], ◌∷◌, ◌++◌, take, sym, ap, ◌∙◌, add-one}
use mathlib.Core.Option.{some, some-injective, some-ne-none}
use lib.ListN.{get_elem?}
use Rattle.std.specs.Mem.Slots.{slots_items}
use Rattle.value_words.proofs.table.words_of.Goals as goal

take-found : (xs : List ℕ) (i a : ℕ) → get_elem? xs i ≡ some a → take i xs ++ a ∷ [] ≡ take (suc i) xs
take-found [] i a e = absurd (some-ne-none a (sym e))
take-found (x ∷ xs) zero a e = ap (λ y. y ∷ []) (sym (some-injective _ _ e))
take-found (x ∷ xs) (suc i) a e = ap (λ l. x ∷ l) (take-found xs i a e)

pub loop-state-preserved : goal.loop-state-preserved
loop-state-preserved c =
    let all = slots_items c.args.closed.now.words in
    c.in-Ok.ensures.items ∙ ap (λ l. l ++ c.word.result ∷ []) c.loop-state.invariant
    ∙ take-found all c.loop-state.state c.word.result c.word.ensures
    ∙ ap (λ n. take n all) (sym (add-one c.loop-state.state))

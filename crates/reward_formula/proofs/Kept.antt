-- A formula of rewards that a text denotes can be spelled.
use Rattle.std.proofs.Common.{ℕ, List, [], ◌∷◌, ◌++◌, Option, Some, None, subst}
use Rattle.std.specs.Prelude.{codes}
use Rattle.std.specs.List.{All}
use Rattle.std.proofs.lemmas.List.Elements.{All-head}
use Rattle.fractions.specs.Fraction.{Fraction}
use Rattle.formula_tokens.specs.TokenRules.{IsName, IsSpelling}
use Rattle.formula_tokens.proofs.Cutting.{cut_spelled}
use Rattle.formula_reader.specs.Limits.{most_nested}
use Rattle.rpatl_syntax.proofs.Kept.{all_left, all_right, label_kept, coalition_kept}
use Rattle.rpatl_syntax.proofs.Needs.{state_suits, side}
use Rattle.rpatl_syntax.proofs.Reread.{spellable}
use Rattle.reward_formula.specs.declared.formula.RewardBound.{RewardBound}
use Rattle.reward_formula.specs.declared.formula.RewardBound.TheVariants.{AtLeast, Above, AtMost, Below, AskMax, AskMin}
use Rattle.reward_formula.specs.Formula.{RewardTree, AnyTree, OfProbability, OfReward}
use Rattle.reward_formula.specs.Rules.{IsThreshold, IsNamedBound, IsBareBound, IsReward, DenotesReward}
use Rattle.reward_formula.specs.Rules.{Denotes}
use Rattle.reward_formula.specs.Spellable.{HasName, IsShortAmount, HasAmount, IsSpellableReward, IsAnySpellable}
use Rattle.reward_formula.proofs.Short.{amount_few}

threshold_kept : (token : List ℕ) (x : Fraction) → IsThreshold token x → IsShortAmount x
threshold_kept token x d = record { amount = d.value.amount; few = amount_few token x d.value }

named_kept : (us : List (List ℕ)) (b : RewardBound) → IsNamedBound us b → HasAmount b
named_kept us (AtLeast x) d = threshold_kept d.0 x d.2
named_kept us (Above x) d = threshold_kept d.0 x d.2
named_kept us (AtMost x) d = threshold_kept d.0 x d.2
named_kept us (Below x) d = threshold_kept d.0 x d.2
named_kept us AskMax d = tt
named_kept us AskMin d = tt

bare_kept : (us : List (List ℕ)) (b : RewardBound) → IsBareBound us b → HasAmount b
bare_kept us (AtLeast x) d = let c = d.2 in threshold_kept c.0 x c.2
bare_kept us (Above x) d = let c = d.2 in threshold_kept c.0 x c.2
bare_kept us (AtMost x) d = let c = d.2 in threshold_kept c.0 x c.2
bare_kept us (Below x) d = let c = d.2 in threshold_kept c.0 x c.2
bare_kept us AskMax d = tt
bare_kept us AskMin d = tt

bound_kept : (us : List (List ℕ)) (name : Option (List ℕ)) (b : RewardBound) → IsReward us name b → HasAmount b
bound_kept us None b d = bare_kept us b d
bound_kept us (Some name) b d = named_kept d.asks b d.bound_is

-- the token of a name
name_kept : (us : List (List ℕ)) (name : Option (List ℕ)) (b : RewardBound) → IsReward us name b
    → All IsSpelling us → HasName name
name_kept us None b d a = tt
name_kept us (Some name) b d a =
    let Q : List ℕ → Type 0 = λ n. IsName n in
    let token : All IsSpelling (d.token ∷ codes "}" ∷ d.asks) =
    all_right (codes "R" ∷ codes "{" ∷ []) (d.token ∷ codes "}" ∷ d.asks) (subst (All IsSpelling) d.whole a) in
    subst Q d.is_name (label_kept d.token d.quoted (All-head IsSpelling d.token (codes "}" ∷ d.asks) token))

reward_spellable : (text : List ℕ) (f : RewardTree) → DenotesReward text f → IsSpellableReward f
reward_spellable text f d =
    let g = d.formula in
    let close = codes "]" ∷ [] in
    let signs = codes "[" ∷ codes "F" ∷ [] in
    let back = signs ++ (g.goal ++ close) in
    let all : All IsSpelling (g.team ++ (g.asks ++ back)) =
    subst (All IsSpelling) g.whole (cut_spelled text d.tokens d.cut) in
    let behind_team = all_right g.team (g.asks ++ back) all in
    let behind_signs = all_right signs (g.goal ++ close) (all_right g.asks back behind_team) in
    let goal = state_suits most_nested g.goal f.goal g.state (all_left g.goal close behind_signs) in
    record {
      words = coalition_kept g.team f.coalition g.coalition (all_left g.team (g.asks ++ back) all);
      name = name_kept g.asks f.name f.bound g.reward (all_left g.asks back behind_team);
      amount = bound_kept g.asks f.name f.bound g.reward;
      goal = side f.goal goal;
      flat = g.flat;
    }

pub any_spellable : (text : List ℕ) (tree : AnyTree) → Denotes text tree → IsAnySpellable tree
any_spellable text (OfProbability f) d = spellable text f d
any_spellable text (OfReward f) d = reward_spellable text f d

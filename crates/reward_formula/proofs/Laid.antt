-- The tokens of the spelling of a formula of rewards.
use Rattle.std.proofs.Common.{◌≡◌, ◌+◌, ℕ, List, [], ◌∷◌, ◌++◌, length, Option, Some, None, refl, ap, subst}
use Rattle.std.proofs.Common.{append_assoc}
use Rattle.std.specs.Prelude.{codes}
use Rattle.std.proofs.lemmas.List.{append-nil}
use Rattle.fractions.specs.Fraction.{Fraction}
use Rattle.formula_tokens.specs.Laws.{AreTokens}
use Rattle.formula_tokens.specs.TokenRules.{IsName}
use Rattle.formula_tokens.specs.Tokens.{tokens_of}
use Rattle.formula_reader.proofs.Denoted.{ends_with}
use Rattle.rpatl_syntax.specs.Spelling.{coalition_spelling, fraction_spelling, state_spelling}
use Rattle.rpatl_syntax.proofs.Laying.{Lays, Ends, lays_append, lays_token, lays_blank, lays_spaced, lays_bracket}
use Rattle.rpatl_syntax.proofs.Laying.{lays_above, lays_below}
use Rattle.rpatl_syntax.proofs.PrintedTokens.{team_tokens, state_tokens}
use Rattle.rpatl_syntax.proofs.StatesLaid.{lays_team, lays_label, lays_state, lays_threshold}
use Rattle.reward_formula.specs.declared.formula.RewardBound.{RewardBound}
use Rattle.reward_formula.specs.declared.formula.RewardBound.TheVariants.{AtLeast, Above, AtMost, Below, AskMax, AskMin}
use Rattle.reward_formula.specs.Formula.{RewardTree}
use Rattle.reward_formula.specs.Spellable.{HasName, IsShortAmount, HasAmount, IsSpellableReward}
use Rattle.reward_formula.specs.Spelling.{name_spelling, asks_spelling, goal_spelling, reward_spelling}
use Rattle.reward_formula.proofs.Printed.{quoted_token, named_tokens, bare_tokens, reward_tokens, goal_tokens}
use Rattle.reward_formula.proofs.Printed.{formula_tokens, short_digits}

-- 1. Bounds.

lays_at_least : (x : Fraction) (rest : List ℕ) → IsShortAmount x
    → Lays (codes ">=" ++ fraction_spelling x) (codes ">=" ∷ fraction_spelling x ∷ []) (32 ∷ rest)
lays_at_least x rest is =
    lays_threshold (codes ">=") x rest (short_digits x is) (λ d more e. lays_token 62 (61 ∷ []) (d ∷ more) refl)

lays_at_most : (x : Fraction) (rest : List ℕ) → IsShortAmount x
    → Lays (codes "<=" ++ fraction_spelling x) (codes "<=" ∷ fraction_spelling x ∷ []) (32 ∷ rest)
lays_at_most x rest is =
    lays_threshold (codes "<=") x rest (short_digits x is) (λ d more e. lays_token 60 (61 ∷ []) (d ∷ more) refl)

lays_asked : (rest : List ℕ) → Lays (codes "=?") (codes "=?" ∷ []) (32 ∷ rest)
lays_asked rest = lays_token 61 (63 ∷ []) (32 ∷ rest) refl

lays_named : (b : RewardBound) → HasAmount b → (rest : List ℕ) → Lays (asks_spelling b) (named_tokens b) (32 ∷ rest)
lays_named (AtLeast x) is rest = lays_at_least x rest is
lays_named (Above x) is rest = lays_threshold (codes ">") x rest (short_digits x is) lays_above
lays_named (AtMost x) is rest = lays_at_most x rest is
lays_named (Below x) is rest = lays_threshold (codes "<") x rest (short_digits x is) lays_below
lays_named AskMax is rest =
    lays_append (codes "max") (codes "=?") (codes "max" ∷ []) (codes "=?" ∷ []) (32 ∷ rest)
    (lays_token 109 (97 ∷ 120 ∷ []) (61 ∷ 63 ∷ 32 ∷ rest) refl) (lays_asked rest)
lays_named AskMin is rest =
    lays_append (codes "min") (codes "=?") (codes "min" ∷ []) (codes "=?" ∷ []) (32 ∷ rest)
    (lays_token 109 (105 ∷ 110 ∷ []) (61 ∷ 63 ∷ 32 ∷ rest) refl) (lays_asked rest)

-- 2. Rewards.

-- `R` before what begins no word
lays_word : (text : List ℕ) (us : List (List ℕ)) (rest : List ℕ)
    → Lays (codes "R") (codes "R" ∷ []) (text ++ rest) → Lays text us rest
    → Lays (codes "R" ++ text) (codes "R" ∷ us) rest
lays_word text us rest word lays = lays_append (codes "R") text (codes "R" ∷ []) us rest word lays

lays_bare : (b : RewardBound) → HasAmount b → (rest : List ℕ)
    → Lays (codes "R" ++ asks_spelling b) (bare_tokens b) (32 ∷ rest)
lays_bare (AtLeast x) is rest =
    lays_word (codes ">=" ++ fraction_spelling x) (named_tokens (AtLeast x)) (32 ∷ rest)
    (lays_token 82 [] ((codes ">=" ++ fraction_spelling x) ++ 32 ∷ rest) refl) (lays_at_least x rest is)
lays_bare (Above x) is rest =
    lays_word (codes ">" ++ fraction_spelling x) (named_tokens (Above x)) (32 ∷ rest)
    (lays_token 82 [] ((codes ">" ++ fraction_spelling x) ++ 32 ∷ rest) refl)
    (lays_threshold (codes ">") x rest (short_digits x is) lays_above)
lays_bare (AtMost x) is rest =
    lays_word (codes "<=" ++ fraction_spelling x) (named_tokens (AtMost x)) (32 ∷ rest)
    (lays_token 82 [] ((codes "<=" ++ fraction_spelling x) ++ 32 ∷ rest) refl) (lays_at_most x rest is)
lays_bare (Below x) is rest =
    lays_word (codes "<" ++ fraction_spelling x) (named_tokens (Below x)) (32 ∷ rest)
    (lays_token 82 [] ((codes "<" ++ fraction_spelling x) ++ 32 ∷ rest) refl)
    (lays_threshold (codes "<") x rest (short_digits x is) lays_below)
lays_bare AskMax is rest =
    lays_append (codes "Rmax") (codes "=?") (codes "Rmax" ∷ []) (codes "=?" ∷ []) (32 ∷ rest)
    (lays_token 82 (109 ∷ 97 ∷ 120 ∷ []) (61 ∷ 63 ∷ 32 ∷ rest) refl) (lays_asked rest)
lays_bare AskMin is rest =
    lays_append (codes "Rmin") (codes "=?") (codes "Rmin" ∷ []) (codes "=?" ∷ []) (32 ∷ rest)
    (lays_token 82 (109 ∷ 105 ∷ 110 ∷ []) (61 ∷ 63 ∷ 32 ∷ rest) refl) (lays_asked rest)

-- `}` before a bound
lays_closed : (b : RewardBound) (rest : List ℕ) → Lays (codes "}") (codes "}" ∷ []) (asks_spelling b ++ rest)
lays_closed (AtLeast x) rest = lays_token 125 [] ((codes ">=" ++ fraction_spelling x) ++ rest) refl
lays_closed (Above x) rest = lays_token 125 [] ((codes ">" ++ fraction_spelling x) ++ rest) refl
lays_closed (AtMost x) rest = lays_token 125 [] ((codes "<=" ++ fraction_spelling x) ++ rest) refl
lays_closed (Below x) rest = lays_token 125 [] ((codes "<" ++ fraction_spelling x) ++ rest) refl
lays_closed AskMax rest = lays_token 125 [] (codes "max=?" ++ rest) refl
lays_closed AskMin rest = lays_token 125 [] (codes "min=?" ++ rest) refl

-- a name between `{` and `}`, before a bound
lays_name : (name : List ℕ) (b : RewardBound) (rest : List ℕ) → IsName name
    → Lays (name_spelling (Some name)) (codes "{" ∷ quoted_token name ∷ codes "}" ∷ []) (asks_spelling b ++ rest)
lays_name name b rest is =
    lays_append (codes "{") (quoted_token name ++ codes "}") (codes "{" ∷ []) (quoted_token name ∷ codes "}" ∷ [])
    (asks_spelling b ++ rest)
    (lays_token 123 [] ((quoted_token name ++ codes "}") ++ (asks_spelling b ++ rest)) refl)
    (lays_append (quoted_token name) (codes "}") (quoted_token name ∷ []) (codes "}" ∷ []) (asks_spelling b ++ rest)
    (lays_label name (codes "}" ++ (asks_spelling b ++ rest)) is) (lays_closed b rest))

lays_reward : (name : Option (List ℕ)) (b : RewardBound) → HasName name → HasAmount b → (rest : List ℕ)
    → Lays (codes "R" ++ (name_spelling name ++ asks_spelling b)) (reward_tokens name b) (32 ∷ rest)
lays_reward None b name is rest = lays_bare b is rest
lays_reward (Some name) b quotable is rest =
    lays_word (name_spelling (Some name) ++ asks_spelling b)
    (codes "{" ∷ quoted_token name ∷ codes "}" ∷ named_tokens b) (32 ∷ rest)
    (lays_token 82 [] ((name_spelling (Some name) ++ asks_spelling b) ++ 32 ∷ rest) refl)
    (lays_append (name_spelling (Some name)) (asks_spelling b) (codes "{" ∷ quoted_token name ∷ codes "}" ∷ [])
    (named_tokens b) (32 ∷ rest) (lays_name name b (32 ∷ rest) quotable) (lays_named b is rest))

-- 3. Formulas.

lays_goal : (text : List ℕ) (us : List (List ℕ)) (rest : List ℕ)
    → ((more : List ℕ) → Ends more → Lays text us more) → Lays (goal_spelling text) (goal_tokens us) rest
lays_goal text us rest lays =
    let close : Lays (codes " ]") (codes "]" ∷ []) rest =
    lays_append (32 ∷ []) (codes "]") [] (codes "]" ∷ []) rest (lays_blank (codes "]" ++ rest)) (lays_bracket rest) in
    let state = lays_append text (codes " ]") us (codes "]" ∷ []) rest (lays (codes " ]" ++ rest) refl) close in
    let behind_sign = text ++ codes " ]" in
    let sign : Lays (codes "F ") (codes "F" ∷ []) (behind_sign ++ rest) =
    lays_append (codes "F") (32 ∷ []) (codes "F" ∷ []) [] (behind_sign ++ rest)
    (lays_token 70 [] (32 ∷ (behind_sign ++ rest)) refl) (lays_blank (behind_sign ++ rest)) in
    let reached = lays_append (codes "F ") behind_sign (codes "F" ∷ []) (us ++ codes "]" ∷ []) rest sign state in
    let behind_bracket = codes "F " ++ behind_sign in
    lays_append (codes " [ ") behind_bracket (codes "[" ∷ []) (codes "F" ∷ (us ++ codes "]" ∷ [])) rest
    (lays_spaced (codes "[") (behind_bracket ++ rest) (lays_token 91 [] (32 ∷ (behind_bracket ++ rest)) refl)) reached

lays_formula : (f : RewardTree) → IsSpellableReward f → Lays (reward_spelling f) (formula_tokens f) []
lays_formula f is =
    let goal = goal_spelling (state_spelling f.goal) in
    let asks = codes "R" ++ (name_spelling f.name ++ asks_spelling f.bound) in
    let text = codes "R" ++ (name_spelling f.name ++ (asks_spelling f.bound ++ goal)) in
    let same : asks ++ goal ≡ text =
    ap (λ t. codes "R" ++ t) (append_assoc (name_spelling f.name) (asks_spelling f.bound) goal) in
    let P : List ℕ → Type 0 =
    λ t. Lays t (reward_tokens f.name f.bound ++ goal_tokens (state_tokens f.goal)) [] in
    let behind_team = subst P same (lays_append asks goal (reward_tokens f.name f.bound)
    (goal_tokens (state_tokens f.goal)) [] (lays_reward f.name f.bound is.name is.amount
    (91 ∷ 32 ∷ ((codes "F " ++ (state_spelling f.goal ++ codes " ]")) ++ [])))
    (lays_goal (state_spelling f.goal) (state_tokens f.goal) [] (lays_state f.goal is.goal.parts))) in
    lays_append (coalition_spelling f.coalition) text (team_tokens f.coalition)
    (reward_tokens f.name f.bound ++ goal_tokens (state_tokens f.goal)) []
    (lays_team f.coalition is.words (text ++ [])) behind_team

pub tokens_spelled : (f : RewardTree) → IsSpellableReward f
    → AreTokens (tokens_of (reward_spelling f)) (formula_tokens f)
tokens_spelled f is =
    let P : List ℕ → Type 0 = λ text. AreTokens (tokens_of text) (formula_tokens f) in
    subst P (append-nil (reward_spelling f)) (ends_with (formula_tokens f) (tokens_of (reward_spelling f ++ []))
    (0 + length (reward_spelling f)) (lays_formula f is 0))

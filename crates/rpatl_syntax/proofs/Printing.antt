-- The tokens of a printed state formula are derived by the rules.
use Rattle.std.proofs.Common.{◌+◌, ◌≤◌, ℕ, zero, suc, List, [], ◌∷◌, ◌++◌, Option, refl, subst, arith}
use Rattle.std.specs.Prelude.{codes}
use Rattle.std.proofs.Math.Nat.{le-max_left, le-max_right}
use Rattle.formula_reader.specs.declared.formula.Bound.{Bound}
use Rattle.formula_reader.specs.declared.formula.Bound.TheVariants.{AskMax, AskMin}
use Rattle.formula_reader.specs.declared.formula.PathKind.{PathKind}
use Rattle.formula_reader.specs.Formula.{State, True, False, Label, Not, And, Or, Implies, Inner}
use Rattle.formula_reader.specs.Rules.{IsState, IsEither, IsBoth, IsUnary, Compares, plain_state, implies, plain_either}
use Rattle.formula_reader.specs.Rules.{or, plain_both, and, negation, brackets, everywhere, nowhere, label, inside}
use Rattle.rpatl_syntax.specs.Spellable.{HasThreshold, HasHead, HasParts, need, need_in}
use Rattle.rpatl_syntax.proofs.Kept.{unquoted-quoted}
use Rattle.rpatl_syntax.proofs.PrintedTokens.{team_tokens, bound_tokens, kind_tokens, tokens_in, state_tokens}
use Rattle.rpatl_syntax.proofs.PrintedParts.{threshold_share, team_derived, bound_derived, path_derived}

-- the tokens are derived by the rule of the outermost operator
abbrev Bare : ℕ → State → Type 0
Bare room True = IsUnary room (state_tokens True) True
Bare room False = IsUnary room (state_tokens False) False
Bare room (Label name) = IsUnary room (state_tokens (Label name)) (Label name)
Bare room (Not x) = IsUnary room (state_tokens (Not x)) (Not x)
Bare room (And x y) = IsBoth room (state_tokens (And x y)) (And x y)
Bare room (Or x y) = IsEither room (state_tokens (Or x y)) (Or x y)
Bare room (Implies x y) = IsState room (state_tokens (Implies x y)) (Implies x y)
Bare room (Inner team bound kind x y) =
    IsUnary room (state_tokens (Inner team bound kind x y)) (Inner team bound kind x y)

from_unary : (room : ℕ) (us : List (List ℕ)) (x : State) → IsUnary room us x → IsState room us x
from_unary room us x d = plain_state room us x (plain_either room us x (plain_both room us x d))

lifted : (room : ℕ) (x : State) → Bare room x → IsState room (state_tokens x) x
lifted room True d = from_unary room _ True d
lifted room False d = from_unary room _ False d
lifted room (Label name) d = from_unary room _ (Label name) d
lifted room (Not x) d = from_unary room _ (Not x) d
lifted room (And x y) d = plain_state room _ (And x y) (plain_either room _ (And x y) d)
lifted room (Or x y) d = plain_state room _ (Or x y) d
lifted room (Implies x y) d = d
lifted room (Inner team bound kind x y) d = from_unary room _ (Inner team bound kind x y) d

-- what a formula needs, and what that gives
abbrev Derives : State → Type 0
Derives x = (room : ℕ) → need x ≤ room → Bare room x

in_brackets : (room : ℕ) (x : State) → Derives x → need x + 1 ≤ room
    → IsUnary room (codes "(" ∷ (state_tokens x ++ codes ")" ∷ [])) x
in_brackets zero x d h = absurd (omega (arith, h))
in_brackets (suc room) x d h = brackets room (state_tokens x) x (lifted room x (d room (omega (arith, h))))

to_unary : (room : ℕ) (x : State) → Derives x → need_in 3 x (need x) ≤ room
    → IsUnary room (tokens_in 3 x (state_tokens x)) x
to_unary room (And x y) d h = in_brackets room (And x y) d h
to_unary room (Or x y) d h = in_brackets room (Or x y) d h
to_unary room (Implies x y) d h = in_brackets room (Implies x y) d h
to_unary room x d h = d room h

to_both : (room : ℕ) (x : State) → Derives x → need_in 2 x (need x) ≤ room
    → IsBoth room (tokens_in 2 x (state_tokens x)) x
to_both room True d h = plain_both room _ True (d room h)
to_both room False d h = plain_both room _ False (d room h)
to_both room (Label name) d h = plain_both room _ (Label name) (d room h)
to_both room (Not x) d h = plain_both room _ (Not x) (d room h)
to_both room (And x y) d h = d room h
to_both room (Or x y) d h = plain_both room _ (Or x y) (in_brackets room (Or x y) d h)
to_both room (Implies x y) d h = plain_both room _ (Implies x y) (in_brackets room (Implies x y) d h)
to_both room (Inner team bound kind x y) d h = plain_both room _ (Inner team bound kind x y) (d room h)

to_either : (room : ℕ) (x : State) → Derives x → need_in 1 x (need x) ≤ room
    → IsEither room (tokens_in 1 x (state_tokens x)) x
to_either room True d h = plain_either room _ True (plain_both room _ True (d room h))
to_either room False d h = plain_either room _ False (plain_both room _ False (d room h))
to_either room (Label name) d h = plain_either room _ (Label name) (plain_both room _ (Label name) (d room h))
to_either room (Not x) d h = plain_either room _ (Not x) (plain_both room _ (Not x) (d room h))
to_either room (And x y) d h = plain_either room _ (And x y) (d room h)
to_either room (Or x y) d h = d room h
to_either room (Implies x y) d h =
    plain_either room _ (Implies x y) (plain_both room _ (Implies x y) (in_brackets room (Implies x y) d h))
to_either room (Inner team bound kind x y) d h =
    plain_either room _ (Inner team bound kind x y) (plain_both room _ (Inner team bound kind x y) (d room h))

to_state : (room : ℕ) (x : State) → Derives x → need_in 0 x (need x) ≤ room
    → IsState room (tokens_in 0 x (state_tokens x)) x
to_state room True d h = lifted room True (d room h)
to_state room False d h = lifted room False (d room h)
to_state room (Label name) d h = lifted room (Label name) (d room h)
to_state room (Not x) d h = lifted room (Not x) (d room h)
to_state room (And x y) d h = lifted room (And x y) (d room h)
to_state room (Or x y) d h = lifted room (Or x y) (d room h)
to_state room (Implies x y) d h = lifted room (Implies x y) (d room h)
to_state room (Inner team bound kind x y) d h = lifted room (Inner team bound kind x y) (d room h)

derives_not : (room : ℕ) (x : State) → Derives x → need (Not x) ≤ room → Bare room (Not x)
derives_not zero x d h = absurd (omega (arith, h))
derives_not (suc room) x d h = negation room (tokens_in 3 x (state_tokens x)) x (to_unary room x d (omega (arith, h)))

compares_from : (b : Bound) → HasThreshold b → Compares b
compares_from AskMax h = absurd h
compares_from AskMin h = absurd h
compares_from b h = tt

derives_inner : (room : ℕ) (team : Option (List (List ℕ))) (bound : Bound) (kind : PathKind) (x y : State)
    → HasHead team bound kind x → Derives x → Derives y → need (Inner team bound kind x y) ≤ room
    → Bare room (Inner team bound kind x y)
derives_inner zero team bound kind x y head dx dy h = absurd (omega (arith, h))
derives_inner (suc room) team bound kind x y head dx dy h =
    let left = lifted room x (dx room (omega (arith, h, le-max_left (need x) (need y)))) in
    let right = lifted room y (dy room (omega (arith, h, le-max_right (need x) (need y)))) in
    inside room (team_tokens team) (bound_tokens bound) (kind_tokens kind x (state_tokens x) ++ state_tokens y)
    (record { coalition = team; bound = bound; kind = kind; left = x; right = y })
    (team_derived team head.words) (bound_derived bound (threshold_share bound head.threshold))
    (compares_from bound head.threshold)
    (path_derived room kind x y (state_tokens x) (state_tokens y) head.kind_is left right)

derives : (x : State) → HasParts x → Derives x
derives True parts = λ room h. everywhere room
derives False parts = λ room h. nowhere room
derives (Label name) parts = λ room h.
    let P : List ℕ → Type 0 = λ n. IsUnary room ((34 ∷ (name ++ 34 ∷ [])) ∷ []) (Label n) in
    subst P (unquoted-quoted name) (label room (34 ∷ (name ++ 34 ∷ [])) refl)
derives (Not x) parts = λ room h. derives_not room x (derives x parts) h
derives (And x y) parts = λ room h.
    and room _ _ x y
    (to_both room x (derives x parts.0) (omega (arith, h, le-max_left (need_in 2 x (need x)) (need_in 3 y (need y)))))
    (to_unary room y (derives y parts.1) (omega (arith, h, le-max_right (need_in 2 x (need x)) (need_in 3 y (need y)))))
derives (Or x y) parts = λ room h.
    or room _ _ x y
    (to_either room x (derives x parts.0) (omega (arith, h, le-max_left (need_in 1 x (need x)) (need_in 2 y (need y)))))
    (to_both room y (derives y parts.1) (omega (arith, h, le-max_right (need_in 1 x (need x)) (need_in 2 y (need y)))))
derives (Implies x y) parts = λ room h.
    implies room _ _ x y
    (to_state room x (derives x parts.0) (omega (arith, h, le-max_left (need_in 0 x (need x)) (need_in 1 y (need y)))))
    (to_either room y (derives y parts.1)
    (omega (arith, h, le-max_right (need_in 0 x (need x)) (need_in 1 y (need y)))))
derives (Inner team bound kind x y) parts =
    λ room h. derives_inner room team bound kind x y parts.0 (derives x parts.1) (derives y parts.2) h

-- the tokens of the spelling, where it nests no deeper
pub printed_state : (room : ℕ) (x : State) → HasParts x → need x ≤ room → IsState room (state_tokens x) x
printed_state room x parts h = lifted room x (derives x parts room h)

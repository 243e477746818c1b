-- How deep a printed state formula nests, and that what was read nests no deeper.
use Rattle.std.proofs.Common.{◌≡◌, ◌+◌, ◌≤◌, ℕ, suc, List, [], ◌∷◌, ◌++◌, Bool, true, false, cond, refl, arith, nat_lt}
use Rattle.std.specs.Prelude.{codes, max}
use Rattle.std.specs.List.{All}
use Rattle.std.proofs.lemmas.List.Elements.{All-head, All-tail}
use Rattle.std.proofs.Math.Nat.{max-le}
use Rattle.std.proofs.lemmas.Bool.Decides.{nat_tests}
use Rattle.formula_reader.specs.declared.formula.PathKind.{PathKind}
use Rattle.formula_reader.specs.Formula.{State, True}
use Rattle.formula_reader.specs.Limits.{most_nested}
use Rattle.rpatl_syntax.specs.Spelling.{strength_of}
use Rattle.formula_tokens.specs.TokenRules.{IsSpelling}
use Rattle.formula_reader.specs.Rules.{IsState, IsEither, IsBoth, IsUnary, IsPath, plain_state, implies, plain_either}
use Rattle.formula_reader.specs.Rules.{or}
use Rattle.formula_reader.specs.Rules.{plain_both, and, negation, brackets, everywhere, nowhere, label, inside, reach}
use Rattle.formula_reader.specs.Rules.{reach_within, until, until_within, next, always}
use Rattle.rpatl_syntax.specs.Spellable.{HasParts, HasKind, HasHead, IsSide, need_in, need}
use Rattle.rpatl_syntax.proofs.Kept.{all_left, all_right, label_kept, coalition_kept, threshold_kept}

-- in such a place so many open `(`, `!` and `[` suffice
pub record Suits (least room : ℕ) (x : State) : Type 0 where
  pub nests : need_in least x (need x) ≤ room
  pub parts : HasParts x

test_below : (b : Bool) (n : ℕ) → n ≤ cond b (n + 1) n
test_below true n = omega arith
test_below false n = omega arith

test_above : (b : Bool) (n : ℕ) → cond b (n + 1) n ≤ n + 1
test_above true n = omega arith
test_above false n = omega arith

pub need-below : (least : ℕ) (x : State) (n : ℕ) → n ≤ need_in least x n
need-below least x n = test_below (nat_lt (strength_of x) least) n

pub need-above : (least : ℕ) (x : State) (n : ℕ) → need_in least x n ≤ n + 1
need-above least x n = test_above (nat_lt (strength_of x) least) n

tests_rise : (a b : Bool) (n : ℕ) → (a ≡ true → b ≡ true) → cond a (n + 1) n ≤ cond b (n + 1) n
tests_rise true true n h = omega arith
tests_rise true false n h = cc (h refl)
tests_rise false true n h = omega arith
tests_rise false false n h = omega arith

lt_rises : (s less least : ℕ) → less ≤ least → nat_lt s less ≡ true → nat_lt s least ≡ true
lt_rises s less least h e = grind (arith, nat_tests)

need-rises : (less least : ℕ) (x : State) (n : ℕ) → less ≤ least → need_in less x n ≤ need_in least x n
need-rises less least x n h =
    tests_rise (nat_lt (strength_of x) less) (nat_lt (strength_of x) least) n (lt_rises (strength_of x) less least h)

looser : (less least room : ℕ) (x : State) → less ≤ least → Suits least room x → Suits less room x
looser less least room x h s =
    record { nests = omega (arith, need-rises less least x (need x) h, s.nests); parts = s.parts }

all_states : (room : ℕ) → Suits 0 room True
all_states room = record { nests = omega arith; parts = tt }

-- a path: its kind, and both sides
pub record PathSuits (room : ℕ) (kind : PathKind) (x y : State) : Type 0 where
  pub kind_is : HasKind kind x
  pub left : Suits 0 room x
  pub right : Suits 0 room y

inner_needs : (room : ℕ) (x y : State) → need_in 0 x (need x) ≤ room → need_in 0 y (need y) ≤ room
    → max (need x) (need y) + 1 ≤ suc room
inner_needs room x y a b =
    let left : need x ≤ room = omega (arith, need-below 0 x (need x), a) in
    let right : need y ≤ room = omega (arith, need-below 0 y (need y), b) in
    omega (arith, max-le left right)

-- what stands behind a token
all_behind : (ts : List (List ℕ)) (token : List ℕ) (us : List (List ℕ)) → All IsSpelling (ts ++ token ∷ us)
    → All IsSpelling us
all_behind ts token us a = All-tail IsSpelling token us (all_right ts (token ∷ us) a)

mutual
  unary_suits : (room : ℕ) (us : List (List ℕ)) (x : State) → IsUnary room us x → All IsSpelling us → Suits 3 room x
  unary_suits _ _ _ (negation room us x d) a =
      let inner = unary_suits room us x d (All-tail IsSpelling (codes "!") us a) in
      record { nests = omega (arith, inner.nests); parts = inner.parts }
  unary_suits _ _ _ (brackets room us x d) a =
      let behind = All-tail IsSpelling (codes "(") (us ++ codes ")" ∷ []) a in
      let inner = state_suits room us x d (all_left us (codes ")" ∷ []) behind) in
      record {
        nests = omega (arith, need-below 0 x (need x), need-above 3 x (need x), inner.nests);
        parts = inner.parts;
      }
  unary_suits _ _ _ (everywhere room) a = record { nests = omega arith; parts = tt }
  unary_suits _ _ _ (nowhere room) a = record { nests = omega arith; parts = tt }
  unary_suits _ _ _ (label room token q) a =
      record { nests = omega arith; parts = label_kept token q (All-head IsSpelling token [] a) }
  unary_suits _ _ _ (inside room team asks us f n b c d) a =
      let back = codes "[" ∷ (us ++ codes "]" ∷ []) in
      let behind_team = all_right team (asks ++ back) a in
      let behind_bound =
      All-tail IsSpelling (codes "[") (us ++ codes "]" ∷ []) (all_right asks back behind_team) in
      let sides = path_suits room us f.kind f.left f.right d (all_left us (codes "]" ∷ []) behind_bound) in
      let head : HasHead f.coalition f.bound f.kind f.left = record {
        words = coalition_kept team f.coalition n (all_left team (asks ++ back) a);
        threshold = threshold_kept asks f.bound b c;
        kind_is = sides.kind_is;
      } in
      record {
        nests = inner_needs room f.left f.right sides.left.nests sides.right.nests;
        parts = (head, sides.left.parts, sides.right.parts);
      }

  both_suits : (room : ℕ) (us : List (List ℕ)) (x : State) → IsBoth room us x → All IsSpelling us → Suits 2 room x
  both_suits _ _ _ (plain_both room us x d) a = looser 2 3 room x (omega arith) (unary_suits room us x d a)
  both_suits _ _ _ (and room us vs x y d e) a =
      let left = both_suits room us x d (all_left us (codes "&" ∷ vs) a) in
      let right = unary_suits room vs y e (all_behind us (codes "&") vs a) in
      record { nests = max-le left.nests right.nests; parts = (left.parts, right.parts) }

  either_suits : (room : ℕ) (us : List (List ℕ)) (x : State) → IsEither room us x → All IsSpelling us → Suits 1 room x
  either_suits _ _ _ (plain_either room us x d) a = looser 1 2 room x (omega arith) (both_suits room us x d a)
  either_suits _ _ _ (or room us vs x y d e) a =
      let left = either_suits room us x d (all_left us (codes "|" ∷ vs) a) in
      let right = both_suits room vs y e (all_behind us (codes "|") vs a) in
      record { nests = max-le left.nests right.nests; parts = (left.parts, right.parts) }

  pub state_suits : (room : ℕ) (us : List (List ℕ)) (x : State) → IsState room us x → All IsSpelling us → Suits 0 room x
  state_suits _ _ _ (plain_state room us x d) a = looser 0 1 room x (omega arith) (either_suits room us x d a)
  state_suits _ _ _ (implies room us vs x y d e) a =
      let left = state_suits room us x d (all_left us (codes "=>" ∷ vs) a) in
      let right = either_suits room vs y e (all_behind us (codes "=>") vs a) in
      record { nests = max-le left.nests right.nests; parts = (left.parts, right.parts) }

  pub path_suits : (room : ℕ) (us : List (List ℕ)) (kind : PathKind) (x y : State) → IsPath room us kind x y
      → All IsSpelling us → PathSuits room kind x y
  path_suits _ _ _ _ _ (reach room us y d) a =
      let behind = All-tail IsSpelling (codes "F") us a in
      record { kind_is = tt; left = all_states room; right = state_suits room us y d behind }
  path_suits _ _ _ _ _ (reach_within room token us k y n d) a =
      let behind = all_behind (codes "F" ∷ codes "<=" ∷ []) token us a in
      record { kind_is = n.small; left = all_states room; right = state_suits room us y d behind }
  path_suits _ _ _ _ _ (until room us vs x y d e) a =
      record {
        kind_is = tt;
        left = state_suits room us x d (all_left us (codes "U" ∷ vs) a);
        right = state_suits room vs y e (all_behind us (codes "U") vs a);
      }
  path_suits _ _ _ _ _ (until_within room us token vs k x y d n e) a =
      let bounded = all_behind us (codes "U") (codes "<=" ∷ token ∷ vs) a in
      record {
        kind_is = n.small;
        left = state_suits room us x d (all_left us (codes "U" ∷ codes "<=" ∷ token ∷ vs) a);
        right = state_suits room vs y e (all_behind (codes "<=" ∷ []) token vs bounded);
      }
  path_suits _ _ _ _ _ (next room us y d) a =
      let behind = All-tail IsSpelling (codes "X") us a in
      record { kind_is = refl; left = all_states room; right = state_suits room us y d behind }
  path_suits _ _ _ _ _ (always room us y d) a =
      let behind = All-tail IsSpelling (codes "G") us a in
      record { kind_is = refl; left = all_states room; right = state_suits room us y d behind }

-- a side of a path
pub side : (x : State) → Suits 0 most_nested x → IsSide x
side x s = record { parts = s.parts; nests = omega (arith, need-below 0 x (need x), s.nests) }

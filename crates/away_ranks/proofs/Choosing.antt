-- A state of the maximiser that is not left has a choice that does not serve.
use Rattle.std.proofs.Common.{◌≡◌, ℕ, ◌<◌, ◌≤◌, Bool, true, false, List, length, set, arith, sym, ap, ◌∙◌}
use Rattle.std.proofs.Common.{inl, inr, Option, Some, None}
use Rattle.std.specs.Prelude.{slice_index_or}
use Rattle.std.specs.List.{list_all}
use Rattle.std.proofs.lemmas.Bool.{cases_lt}
use Rattle.std.proofs.lemmas.List.{get_or-set_same, get_or-set_other}
use Rattle.game_model.specs.declared.game.Side.TheVariants.{Max}
use Rattle.game_model.specs.Dual.{other_side}
use Rattle.game_model.specs.Game.{no_distribution, choices_of, choice_of}
use Rattle.game_model.specs.Query.{Query, IsQuery, states, side_at}
use Rattle.attractors.specs.Attractor.{serves, attracts, IsAttractor}
use Rattle.attractors.proofs.Tests.{all-place}
use Rattle.almost_sure.specs.ExcludedSets.{gone_excluded}
use Rattle.expected_rewards.specs.Turned.{turned}
use Rattle.expected_rewards.proofs.Turned.{turned-side}
use Rattle.away_ranks.specs.inside.Left.{IsUnserved, AreKept}
use Rattle.away_ranks.proofs.Later.{differ}

-- the first choice that does not serve, if each one before it does
pub first-unserved : (q : Query) (gone left : List Bool) (choices : List (Option ℕ)) (s c : ℕ) → IsQuery q
    → s < states q → side_at q s ≡ Max → IsAttractor (turned q) (gone_excluded gone) left
    → slice_index_or left s false ≡ false → slice_index_or gone s false ≡ false
    → ((k : ℕ) → 0 ≤ k → k < c → serves (gone_excluded gone) left (choice_of q.game s k) ≡ true)
    → (c < length (choices_of q.game s) → serves (gone_excluded gone) left (choice_of q.game s c) ≡ false)
    → s < length choices → IsUnserved q gone left (set choices s (Some c)) s
first-unserved q gone left choices s c posed inside is_side drawn unleft within before first place =
    let none : list_all (serves (gone_excluded gone) left) (choices_of q.game s) ≡ false =
    ap (λ side. attracts (other_side side) (gone_excluded gone) left (choices_of q.game s)) (sym is_side)
    ∙ ap (λ side. attracts side (gone_excluded gone) left (choices_of q.game s)) (sym (turned-side q posed s inside))
    ∙ drawn.closed s inside unleft within in
    let at : slice_index_or (set choices s (Some c)) s None ≡ Some c = get_or-set_same choices s (Some c) None place in
    elim (cases_lt c (length (choices_of q.game s))) [
      | inl below ↦ (c, at, below, first below)
      | inr past ↦
          let one = all-place (serves (gone_excluded gone) left) (choices_of q.game s) no_distribution none in
          let serve : serves (gone_excluded gone) left (choice_of q.game s one.0) ≡ true =
          before one.0 (omega arith) (omega (arith, one.1, past)) in
          let fails : serves (gone_excluded gone) left (choice_of q.game s one.0) ≡ false = one.2 in
          absurd (cc)
    ]

-- it is kept by states that have gone
pub AreKept-set : (gone : List Bool) (first choices : List (Option ℕ)) (s : ℕ) (v : Option ℕ)
    → AreKept gone first choices → slice_index_or gone s false ≡ false → AreKept gone first (set choices s v)
AreKept-set gone first choices s v kept within t out =
    get_or-set_other choices s t v None (differ gone s t within out) ∙ kept t out

-- and the choices before stay
pub IsUnserved-set : (q : Query) (gone left : List Bool) (choices : List (Option ℕ)) (s t : ℕ) (v : Option ℕ)
    → t < s → IsUnserved q gone left choices t → IsUnserved q gone left (set choices s v) t
IsUnserved-set q gone left choices s t v below one = (
  one.0,
  get_or-set_other choices s t v None (λ same. omega (arith, below, same)) ∙ one.1,
  one.2,
  one.3,
)

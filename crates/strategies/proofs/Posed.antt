-- A game whose lists pass a test, state by state, is a question.
use Rattle.std.proofs.Common.{◌≡◌, ℕ, zero, suc, ◌<◌, ◌≤◌, Bool, true, false, List, [], ◌∷◌, length, get_or, sym, refl}
use Rattle.std.proofs.Common.{rules}
use Rattle.std.specs.Prelude.{slice_index_or}
use Rattle.std.specs.List.{All}
use Rattle.std.proofs.lemmas.List.Elements.{All-head, All-tail}
use Rattle.game_model.specs.Limits.{total_bound, most_states, most_choices}
use Rattle.game_model.specs.Game.{Distribution, IsDistribution, total_of, choices_of, no_distribution}
use Rattle.game_model.specs.Query.{Query, IsQuery, states, is_goal, is_dead}
use Rattle.game_model.specs.Rising.{RiseFrom}
use Rattle.game_model.proofs.RisingEdges.{IsRising-from, weighty-from}
use Rattle.strategies.specs.worked_games.Games.{coin_loop, give_and_take, lingering}

abbrev Fits : ℕ → Distribution → Type 0
Fits n m = (0 < length m.edges) × RiseFrom 0 m.edges × (total_of m.edges ≡ m.total) × (m.total < total_bound)
    × All (λ e. e.to < n) m.edges

abbrev AreFit : ℕ → List Distribution → Type 0
AreFit n choices = (0 < length choices) × (length choices ≤ most_choices) × All (Fits n) choices

abbrev IsFit : Query → Type 0
IsFit q = (0 < states q) × (states q ≤ most_states) × (length q.sides ≡ states q) × (length q.goals ≡ states q)
    × (length q.deads ≡ states q) × All (AreFit (states q)) q.game

distribution : (n : ℕ) (m : Distribution) → Fits n m → IsDistribution m
distribution n m h = record {
  some = h.0;
  rising = IsRising-from 0 m.edges h.1;
  weights = weighty-from 0 m.edges h.1;
  sums = h.2;
  small = h.3;
}

posed : (q : Query) → IsFit q → ((s : ℕ) → is_goal q s ≡ true → is_dead q s ≡ false) → IsQuery q
posed q h apart =
    let at : (s : ℕ) → s < states q → AreFit (states q) (choices_of q.game s) = λ s l. h.5 s [] l in
    let choice : (s c : ℕ) → s < states q → c < length (choices_of q.game s)
    → Fits (states q) (get_or (choices_of q.game s) c no_distribution) =
    λ s c l k. (at s l).2 c no_distribution k in
    record {
      game = record {
        some = h.0;
        few = h.1;
        chosen = λ s l. (at s l).0;
        bounded = λ s l. (at s l).1;
        distribution = λ s c l k. distribution (states q) _ (choice s c l k);
        inside = λ s c l k. (choice s c l k).4;
      };
      sides = h.2;
      goals = h.3;
      deads = h.4;
      apart = apart;
    }

none-dead : (deads : List Bool) → All (λ dead. dead ≡ false) deads → (s : ℕ)
    → slice_index_or deads s false ≡ false
none-dead [] h s = refl
none-dead (dead ∷ deads) h zero = All-head (λ dead. dead ≡ false) dead deads h
none-dead (dead ∷ deads) h (suc s) = none-dead deads (All-tail (λ dead. dead ≡ false) dead deads h) s

pub is_coin : IsQuery coin_loop
is_coin = posed coin_loop (search rules) (λ s goal. none-dead coin_loop.deads (search rules) s)

pub is_lingering : IsQuery lingering
is_lingering = posed lingering (search rules) (λ s goal. none-dead lingering.deads (search rules) s)

pub is_give : IsQuery give_and_take
is_give = posed give_and_take (search rules) apart
  where
    apart : (s : ℕ) → is_goal give_and_take s ≡ true → is_dead give_and_take s ≡ false
    apart zero h = refl
    apart (suc zero) h = refl
    apart (suc (suc zero)) h = refl
    apart (suc (suc (suc zero))) h = sym h
    apart (suc (suc (suc (suc s)))) h = refl

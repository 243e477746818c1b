-- Ranked lists certify the choices of the Max side's plan.
use Rattle.std.proofs.Common.{◌≡◌, ℕ, ◌<◌, false, List, length, take, drop, refl, sym, subst, sum, Option}
use Rattle.std.specs.Prelude.{slice_index}
use Rattle.std.specs.List.{All}
use Rattle.std.specs.Bool.{if◌then◌else◌}
use Rattle.std.proofs.lemmas.List.Elements.{All-from_get_or}
use Rattle.game_model.specs.declared.game.Side.{Side}
use Rattle.game_model.specs.declared.game.Side.TheVariants.{Max, Min}
use Rattle.game_model.specs.Game.{Distribution, no_distribution, choices_of}
use Rattle.game_model.specs.Query.{Query, IsQuery, is_goal, is_dead, side_at}
use Rattle.game_model.specs.Plans.{planned, planned_place, same_side}
use Rattle.game_model.specs.Ranks.{IsRankedChoice, HasRankedChoice, Ranked, ReachesUnder}
use Rattle.game_model.proofs.Choices.{AreChoicesOf-planned, denominator-pos}
use Rattle.game_model.specs.Limits.{unit}
use Rattle.game_laws.proofs.Planned.{one-at, planned_place-given, rank-most}
use Rattle.game_laws.proofs.Horizon.{certified-reached}

-- each choice that is left under the plan is ranked
planned-ranked : (q : Query) (values : List ℕ) (plan : List (Option ℕ)) (ranks : List ℕ)
    → Ranked q values plan ranks → (s : ℕ) → s < length q.game → is_goal q s ≡ false
    → is_dead q s ≡ false → 0 < slice_index values s → (side : Side) → side_at q s ≡ side
    → All (IsRankedChoice (slice_index values) (slice_index ranks) s) (planned q Max plan s)
planned-ranked q values plan ranks h s inside no_goal alive some Max max =
    let P : Distribution → Type 0 = IsRankedChoice (slice_index values) (slice_index ranks) s in
    let choices : List Distribution = choices_of q.game s in
    let has : HasRankedChoice q (slice_index values) (slice_index ranks) plan s =
    h.greatest s inside no_goal alive some max in
    let one : All P (take 1 (drop has.choice choices)) =
    one-at P choices has.choice no_distribution has.inside has.ranked in
    let place : planned_place plan s (length choices) ≡ has.choice =
    planned_place-given plan s (length choices) has.choice has.given has.inside in
    subst (λ side. All P
    (if same_side side Max then take 1 (drop (planned_place plan s (length choices)) choices) else choices)) (sym max)
    (subst (λ p. All P (take 1 (drop p choices))) (sym place) one)
planned-ranked q values plan ranks h s inside no_goal alive some Min min =
    let P : Distribution → Type 0 = IsRankedChoice (slice_index values) (slice_index ranks) s in
    let choices : List Distribution = choices_of q.game s in
    subst (λ side. All P
    (if same_side side Max then take 1 (drop (planned_place plan s (length choices)) choices) else choices)) (sym min)
    (All-from_get_or P choices no_distribution (λ c l. h.least s inside no_goal alive some min c l))

-- ranked values are reached under the plan
pub Ranked-reached : (q : Query) (values : List ℕ) (plan : List (Option ℕ)) (ranks : List ℕ) → IsQuery q
    → Ranked q values plan ranks → ReachesUnder q plan (slice_index values)
Ranked-reached q values plan ranks posed h = λ m some.
    certified-reached unit q (planned q Max plan) (slice_index values) (slice_index ranks) (sum ranks) (record {
      chosen = AreChoicesOf-planned q Max plan posed.game;
      positive = denominator-pos q.game posed.game;
      units = h.units;
      deads = h.deads;
      ranks = rank-most ranks;
      ranked = λ s inside no_goal alive some.
          planned-ranked q values plan ranks h s inside no_goal alive some (side_at q s) refl;
    }) m

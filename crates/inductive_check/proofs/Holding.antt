-- Replies to an inductive table hold every opponent to it.
use Rattle.std.proofs.Common.{◌≡◌, ℕ, zero, suc, ◌<◌, ◌≤◌, Bool, true, false, List, [], ◌∷◌, length, get_or, take, drop}
use Rattle.std.proofs.Common.{arith, refl, ap, subst, sym, ◌∙◌, Option, Some, None, unwrap_or, nat_lt}
use Rattle.std.specs.Prelude.{slice_index_or}
use Rattle.std.specs.Bool.{if◌then◌else◌}
use Rattle.std.proofs.lemmas.Bool.Decides.{nat_tests}
use Rattle.game_model.specs.declared.game.Side.{Side}
use Rattle.game_model.specs.declared.game.Side.TheVariants.{Max, Min}
use Rattle.game_model.specs.Game.{Distribution, no_distribution, choices_of, choice_of}
use Rattle.game_model.specs.Query.{Query, IsQuery, states, is_goal, is_dead, side_at}
use Rattle.game_model.specs.Values.{optimum, bellman}
use Rattle.game_model.specs.Limits.{unit}
use Rattle.game_model.specs.Rounded.{up_value, IsInductive}
use Rattle.game_model.specs.Plans.{same_side, planned_place, planned}
use Rattle.game_model.proofs.Choices.{AreChoicesOf-planned}
use Rattle.game_laws.proofs.High.{inductive-above}
use Rattle.fixed_bellman.specs.Given.{IsFree}
use Rattle.inductive_check.specs.Replies.{NeedsReply, IsReply, AreReplies, HoldsUnder}
use Rattle.inductive_check.proofs.UpSteps.{up_step-goal, up_step-free}
use Rattle.inductive_check.proofs.Entries.{held-most}

-- a state, by its marks
marked-most : (goal dead : Bool) (top best x : ℕ) → (goal ≡ true → top ≤ x) → (goal ≡ false → dead ≡ false → best ≤ x)
    → (if goal then top else (if dead then 0 else best)) ≤ x
marked-most true dead top best x at_goal free = at_goal refl
marked-most false true top best x at_goal free = let least : 0 ≤ x = omega arith in least
marked-most false false top best x at_goal free = free refl refl

-- the optimum of one choice alone
optimum-one : {X : Type 0} (side : Side) (f : X → ℕ) (xs : List X) (i : ℕ) (d : X) → i < length xs
    → optimum side f (take 1 (drop i xs)) ≡ f (get_or xs i d)
optimum-one side f [] i d l = absurd (omega arith)
optimum-one side f (x ∷ xs) zero d l = refl
optimum-one side f (x ∷ xs) (suc i) d l = optimum-one side f xs i d (omega arith)

place-in_range : (c count : ℕ) → c < count → ◌≡◌ {A = ℕ} (if nat_lt c count then c else 0) c
place-in_range c count in_range = grind (arith, nat_tests)

-- a state of the maximiser keeps its choices
planned-greatest : (q : Query) (replies : List (Option ℕ)) (s : ℕ) → side_at q s ≡ Max
    → planned q Min replies s ≡ choices_of q.game s
planned-greatest q replies s greatest =
    ap (λ side. if same_side side Min
    then take 1 (drop (planned_place replies s (length (choices_of q.game s))) (choices_of q.game s))
    else choices_of q.game s) greatest

-- one of the minimiser has its reply alone
planned-least : (q : Query) (replies : List (Option ℕ)) (s c : ℕ) → side_at q s ≡ Min
    → slice_index_or replies s None ≡ Some c → c < length (choices_of q.game s)
    → planned q Min replies s ≡ take 1 (drop c (choices_of q.game s))
planned-least q replies s c least given in_range =
    let choices : List Distribution = choices_of q.game s in
    let place : planned_place replies s (length choices) ≡ c =
    ap (λ reply. if nat_lt (unwrap_or reply 0) (length choices) then unwrap_or reply 0 else 0) given
    ∙ place-in_range c (length choices) in_range in
    ap (λ side.
    if same_side side Min then take 1 (drop (planned_place replies s (length choices)) choices) else choices) least
    ∙ ap (λ i. take 1 (drop i choices)) place

module _ (q : Query) (table : ℕ → ℕ) (replies : List (Option ℕ)) (h : IsQuery q) (inductive : IsInductive q table) where
  -- the up value of a reply
  reply-most : (s : ℕ) (reply : Option ℕ) → s < states q → side_at q s ≡ Min → slice_index_or replies s None ≡ reply
      → IsReply q table s reply → optimum (side_at q s) (up_value table) (planned q Min replies s) ≤ table s
  reply-most s None inside least given good = absurd good
  reply-most s (Some c) inside least given good =
      let alone : optimum (side_at q s) (up_value table) (planned q Min replies s)
      ≡ up_value table (choice_of q.game s c) =
      ap (λ xs. optimum (side_at q s) (up_value table) xs) (planned-least q replies s c least given good.0)
      ∙ optimum-one (side_at q s) (up_value table) (choices_of q.game s) c no_distribution good.0 in
      subst (λ n. n ≤ table s) (sym alone) (held-most q table s h inside c good.0 good.1)

  -- a state that is neither goal nor dead
  free-most : (s : ℕ) (side : Side) → s < states q → IsFree q s → side_at q s ≡ side
      → (NeedsReply q s → IsReply q table s (slice_index_or replies s None))
      → optimum (side_at q s) (up_value table) (planned q Min replies s) ≤ table s
  free-most s Max inside free is good =
      subst (λ xs. optimum (side_at q s) (up_value table) xs ≤ table s) (sym (planned-greatest q replies s is))
      (subst (λ n. n ≤ table s) (up_step-free q table s free) (inductive s inside))
  free-most s Min inside free is good =
      reply-most s (slice_index_or replies s None) inside is refl (good (record { free = free; least = is }))

  -- the up step of the game in which the minimiser plays the replies
  planned-most : AreReplies q table replies → (s : ℕ) → s < states q
      → bellman q (planned q Min replies) unit (up_value table) s ≤ table s
  planned-most good s inside =
      marked-most (is_goal q s) (is_dead q s) unit
      (optimum (side_at q s) (up_value table) (planned q Min replies s)) (table s)
      (λ goal. subst (λ n. n ≤ table s) (up_step-goal q table s goal) (inductive s inside))
      (λ goal dead. free-most s (side_at q s) inside (goal, dead) refl (good s inside))

  -- no opponent is above the table at any horizon
  pub HoldsUnder-replies : AreReplies q table replies → HoldsUnder q replies table
  HoldsUnder-replies good = λ k s inside.
      omega (
        arith,
        inductive-above q (planned q Min replies) table (AreChoicesOf-planned q Min replies h.game)
            (planned-most good) k s inside,
      )

-- Certificates that agree wherever a check looks have the same faults.
use Rattle.std.proofs.Common.{◌≡◌, ◌∙◌, ℕ, zero, suc, ◌+◌, ◌*◌, ◌<◌, ◌≤◌, ◌⊎◌, Bool, true, false, List, [], ◌∷◌}
use Rattle.std.proofs.Common.{length, arith, refl, ap, subst, sym, inl, inr}
use Rattle.std.specs.List.{All}
use Rattle.std.specs.Prelude.{slice_index_or}
use Rattle.std.proofs.lemmas.Bool.{cases_Bool}
use Rattle.std.proofs.lemmas.List.Elements.{All-head, All-tail, All-cons}
use Rattle.std.proofs.lemmas.List.Sums.{sum_by-cons}
use Rattle.game_model.specs.declared.game.Edge.{Edge}
use Rattle.game_model.specs.Game.{Distribution, choices_of, choice_of, no_edge}
use Rattle.game_model.specs.Query.{states}
use Rattle.game_model.specs.Values.{weighted_sum}
use Rattle.expected_rewards.specs.Tables.{is_finite, StaysFinite}
use Rattle.reward_check.specs.declared.check.RewardCause.{RewardCause}
use Rattle.reward_check.specs.declared.parts.Part.{Part}
use Rattle.reward_check.specs.declared.parts.Part.TheVariants.{Upper, Ranks, Lower, Infinite}
use Rattle.reward_check.specs.Certificates.{Certificate}
use Rattle.reward_check.specs.Parts.{HasZeros, LooksAt, HasChoice, HasPlan, IsTaken, IsRight}
use Rattle.reward_check.specs.Parts.{IsPassedAt, IsPassed, IsAccepted}
use Rattle.reward_check.specs.Faults.{IsLackOf, IsPlanless, IsFirstWrong, IsFirstUnpassed, IsFirstGoalFault}
use Rattle.reward_check.specs.Faults.{IsRewardFault}
use Rattle.reward_check.proofs.Causes.{lack-wrong}

-- the first certificate with the rewards and the values of the second
abbrev pub valued : Certificate → Certificate → Certificate
valued c d = record c { low = d.low; high = d.high; lower = d.lower; upper = d.upper }

-- the rewards and the values agree wherever a check of the first looks
pub record AreAlike (c d : Certificate) : Type 0 where
  pub low : (s k : ℕ) → s < states c.question → k < length (choices_of c.question.game s) → c.low s k ≡ d.low s k
  pub high : (s k : ℕ) → s < states c.question → k < length (choices_of c.question.game s) → c.high s k ≡ d.high s k
  pub lower : (s : ℕ) → is_finite c.finite s ≡ true → c.lower s ≡ d.lower s
  pub upper : (s : ℕ) → is_finite c.bounded s ≡ true → c.upper s ≡ d.upper s

-- both are for one question, and have the same lists
pub record HaveSameLists (c d : Certificate) : Type 0 where
  pub question : d.question ≡ c.question
  pub finite : d.finite ≡ c.finite
  pub bounded : d.bounded ≡ c.bounded
  pub choices : d.choices ≡ c.choices
  pub replies : d.replies ≡ c.replies
  pub ranks : d.ranks ≡ c.ranks

same-valued : (c d : Certificate) → HaveSameLists c d → d ≡ valued c d
same-valued c d same = ap (λ v. record d { question = v }) same.question
    ∙ ap (λ v. record d { question = c.question; finite = v }) same.finite
    ∙ ap (λ v. record d { question = c.question; finite = c.finite; bounded = v }) same.bounded
    ∙ ap (λ v. record d { question = c.question; finite = c.finite; bounded = c.bounded; choices = v }) same.choices
    ∙ ap (λ v. record (valued c d) { replies = v; ranks = d.ranks }) same.replies
    ∙ ap (λ v. record (valued c d) { ranks = v }) same.ranks

back : (c d : Certificate) → AreAlike c d → AreAlike (valued c d) c
back c d same = record {
  low = λ s k inside choice. sym (same.low s k inside choice);
  high = λ s k inside choice. sym (same.high s k inside choice);
  lower = λ s finite. sym (same.lower s finite);
  upper = λ s bounded. sym (same.upper s bounded);
}

-- what is looked at, and what may be taken
looks : (part : Part) (c d : Certificate) (s : ℕ) → AreAlike c d → LooksAt part c s → LooksAt part (valued c d) s
looks Upper c d s same h = h
looks Ranks c d s same h = h
looks Lower c d s same h = (h.0, h.1, subst (λ v. 0 < v) (same.lower s h.1) h.2)
looks Infinite c d s same h = h

looked-inside : (part : Part) (c : Certificate) (s : ℕ) → LooksAt part c s → s < states c.question
looked-inside Upper c s h = h.0.0
looked-inside Ranks c s h = h.0.0
looked-inside Lower c s h = h.0.0
looked-inside Infinite c s h = h.0.0

choice : (part : Part) (c d : Certificate) (s : ℕ) → HasChoice part c s → HasChoice part (valued c d) s
choice Upper c d s h = h
choice Ranks c d s h = h
choice Lower c d s h = h
choice Infinite c d s h = h

planned : (part : Part) (c d : Certificate) (s : ℕ) → HasPlan part c s → HasPlan part (valued c d) s
planned part c d s h own = choice part c d s (h own)

taken : (part : Part) (c d : Certificate) (s k : ℕ) → IsTaken part c s k → IsTaken part (valued c d) s k
taken Upper c d s k h = h
taken Ranks c d s k h = h
taken Lower c d s k h = h
taken Infinite c d s k h = h

-- sums over marked successors
sums : (x y : ℕ → ℕ) (edges : List Edge) → All (λ e. x e.to ≡ y e.to) edges
    → weighted_sum x edges ≡ weighted_sum y edges
sums x y [] h = refl
sums x y (e ∷ es) h =
    let head = All-head (λ (d : Edge). x d.to ≡ y d.to) e es h in
    let more = ap (λ v. e.weight * v) head in
    rw (sum_by-cons (λ (d : Edge). d.weight * x d.to) e es, sum_by-cons (λ (d : Edge). d.weight * y d.to) e es)
    (omega (arith, more, sums x y es (All-tail (λ (d : Edge). x d.to ≡ y d.to) e es h)))

marked-sums : (marks : List Bool) (x y : ℕ → ℕ) (m : Distribution)
    → ((t : ℕ) → is_finite marks t ≡ true → x t ≡ y t) → StaysFinite marks m
    → weighted_sum x m.edges ≡ weighted_sum y m.edges
marked-sums marks x y m same stays =
    sums x y m.edges (λ p e inside. same (slice_index_or m.edges p e).to (stays p e inside))

-- all successors are marked, or one is not
either-way : (marks : List Bool) (edges : List Edge) → All (λ e. is_finite marks e.to ≡ true) edges
    ⊎ ((p : ℕ) × (p < length edges) × (is_finite marks (slice_index_or edges p no_edge).to ≡ false))
either-way marks [] = inl (λ p e inside. absurd (omega (arith, inside)))
either-way marks (e ∷ es) = elim (cases_Bool (is_finite marks e.to)) [
  | inl here ↦ elim (either-way marks es) [
    | inl all ↦ inl (All-cons (λ (d : Edge). is_finite marks d.to ≡ true) e es here all)
    | inr away ↦ inr (suc away.0, omega (arith, away.1), away.2)
  ]
  | inr gone ↦ inr (zero, omega arith, gone)
]

moved : (P : ℕ → ℕ → ℕ → Type 0) (r r' w w' x x' : ℕ) → r ≡ r' → w ≡ w' → x ≡ x' → P r w x → P r' w' x'
moved P r r' w w' x x' a b e h = subst (λ v. P r' w' v) e (subst (λ v. P r' v x) b (subst (λ v. P v w x) a h))

-- what is right, and what is lacking
above : (P : ℕ → ℕ → ℕ → Type 0) (c d : Certificate) (s k : ℕ) → AreAlike c d → LooksAt Upper c s
    → k < length (choices_of c.question.game s) → StaysFinite c.bounded (choice_of c.question.game s k)
    → P (c.high s k) (weighted_sum c.upper (choice_of c.question.game s k).edges) (c.upper s)
    → P (d.high s k) (weighted_sum d.upper (choice_of c.question.game s k).edges) (d.upper s)
above P c d s k same looked inside stays = moved P (c.high s k) (d.high s k)
    (weighted_sum c.upper (choice_of c.question.game s k).edges)
    (weighted_sum d.upper (choice_of c.question.game s k).edges) (c.upper s) (d.upper s)
    (same.high s k looked.0.0 inside)
    (marked-sums c.bounded c.upper d.upper (choice_of c.question.game s k) same.upper stays)
    (same.upper s looked.1)

below : (P : ℕ → ℕ → ℕ → Type 0) (c d : Certificate) (s k : ℕ) → AreAlike c d → LooksAt Lower c s
    → k < length (choices_of c.question.game s) → StaysFinite c.finite (choice_of c.question.game s k)
    → P (c.low s k) (weighted_sum c.lower (choice_of c.question.game s k).edges) (c.lower s)
    → P (d.low s k) (weighted_sum d.lower (choice_of c.question.game s k).edges) (d.lower s)
below P c d s k same looked inside stays = moved P (c.low s k) (d.low s k)
    (weighted_sum c.lower (choice_of c.question.game s k).edges)
    (weighted_sum d.lower (choice_of c.question.game s k).edges) (c.lower s) (d.lower s)
    (same.low s k looked.0.0 inside)
    (marked-sums c.finite c.lower d.lower (choice_of c.question.game s k) same.lower stays)
    (same.lower s looked.1)

right : (part : Part) (c d : Certificate) (s k : ℕ) → AreAlike c d → LooksAt part c s → IsTaken part c s k
    → IsRight part c s k → IsRight part (valued c d) s k
right Upper c d s k same looked may h =
    let m = choice_of c.question.game s k in
    (h.0, above (λ r w x. r * m.total + w ≤ x * m.total) c d s k same looked may.0 h.0 h.1)
right Ranks c d s k same looked may h = h
right Lower c d s k same looked may (inl away) = inl away
right Lower c d s k same looked may (inr paid) =
    let m = choice_of c.question.game s k in
    elim (either-way c.finite m.edges) [
      | inl stays ↦ inr (below (λ r w x. x * m.total ≤ r * m.total + w) c d s k same looked may.0 stays paid)
      | inr away ↦ inl away
    ]
right Infinite c d s k same looked may h = h

lack : (part : Part) (c d : Certificate) (s k : ℕ) (cause : RewardCause) → AreAlike c d → LooksAt part c s
    → IsTaken part c s k → IsLackOf part c s k cause → IsLackOf part (valued c d) s k cause
lack Upper c d s k cause same looked may (inl leaves) = inl leaves
lack Upper c d s k cause same looked may (inr h) =
    let m = choice_of c.question.game s k in
    inr (h.0, h.1, above (λ r w x. x * m.total < r * m.total + w) c d s k same looked may.0 h.1 h.2)
lack Ranks c d s k cause same looked may h = h
lack Lower c d s k cause same looked may h =
    let m = choice_of c.question.game s k in
    (h.0, h.1, below (λ r w x. r * m.total + w < x * m.total) c d s k same looked may.0 h.1 h.2)
lack Infinite c d s k cause same looked may h = h

passed-at : (part : Part) (c d : Certificate) (s : ℕ) → AreAlike c d → IsPassedAt part c s
    → IsPassedAt part (valued c d) s
passed-at part c d s same at =
    let other = back c d same in
    record {
      planned = λ looked. planned part c d s (at.planned (looks part (valued c d) c s other looked));
      right = λ looked k may.
          let looked' = looks part (valued c d) c s other looked in
          let may' = taken part (valued c d) c s k may in
          right part c d s k same looked' may' (at.right looked' k may');
    }

planless : (part : Part) (c d : Certificate) (s : ℕ) (cause : RewardCause) → AreAlike c d
    → IsPlanless part c s cause → IsPlanless part (valued c d) s cause
planless part c d s cause same h = record {
  looked = looks part c d s same h.looked;
  own = h.own;
  none = λ has. h.none (choice part (valued c d) c s has);
  named = h.named;
}

first-wrong : (part : Part) (c d : Certificate) (s k : ℕ) (cause : RewardCause) → AreAlike c d
    → IsFirstWrong part c s k cause → IsFirstWrong part (valued c d) s k cause
first-wrong part c d s k cause same h = record {
  looked = looks part c d s same h.looked;
  planned = planned part c d s h.planned;
  taken = taken part c d s k h.taken;
  before = λ j less may.
      let may' = taken part (valued c d) c s j may in
      right part c d s j same h.looked may' (h.before j less may');
  lack = lack part c d s k cause same h.looked h.taken h.lack;
}

first-unpassed : (part : Part) (c d : Certificate) (s : ℕ) (cause : RewardCause) → AreAlike c d
    → IsFirstUnpassed part c s cause → IsFirstUnpassed part (valued c d) s cause
first-unpassed part c d s cause same h = record {
  inside = h.inside;
  before = λ t less. passed-at part c d t same (h.before t less);
  caused = elim h.caused [
    | inl none ↦ inl (planless part c d s cause same none)
    | inr wrong ↦ inr (wrong.0, first-wrong part c d s wrong.0 cause same wrong.1)
  ];
}

-- goals
zeros : (c d : Certificate) (s : ℕ) → AreAlike c d → HasZeros c s → HasZeros (valued c d) s
zeros c d s same h = record {
  finite = h.finite;
  lower = subst (λ v. v ≡ 0) (same.lower s h.finite) h.lower;
  bounded = h.bounded;
  upper = subst (λ v. v ≡ 0) (same.upper s h.bounded) h.upper;
}

goal_fault : (c d : Certificate) (s : ℕ) → AreAlike c d → IsFirstGoalFault c s → IsFirstGoalFault (valued c d) s
goal_fault c d s same h = record {
  inside = h.inside;
  goal = h.goal;
  none = λ has. h.none (zeros (valued c d) c s (back c d same) has);
  before = λ t less goal. zeros c d t same (h.before t less goal);
}

same_fault : (c d : Certificate) (s : ℕ) (cause : RewardCause) → AreAlike c d → IsRewardFault c s cause
    → IsRewardFault (valued c d) s cause
same_fault c d s cause same (inl h) = inl (h.0, goal_fault c d s same h.1)
same_fault c d s cause same (inr h) = inr (record {
  goals = λ t inside goal. zeros c d t same (h.goals t inside goal);
  part = h.part;
  before = λ earlier less t inside. passed-at earlier c d t same (h.before earlier less t inside);
  first = first-unpassed h.part c d s cause same h.first;
})

pub moved_fault : (c d : Certificate) (s : ℕ) (cause : RewardCause) → HaveSameLists c d → AreAlike c d
    → IsRewardFault d s cause → IsRewardFault c s cause
moved_fault c d s cause lists same h =
    same_fault (valued c d) c s cause (back c d same)
    (subst (λ (k : Certificate). IsRewardFault k s cause) (same-valued c d lists) h)

-- what is accepted has no fault
unpassed-none : (part : Part) (c : Certificate) (s : ℕ) (cause : RewardCause) → IsPassed part c
    → ¬ IsFirstUnpassed part c s cause
unpassed-none part c s cause passed h = elim h.caused [
  | inl none ↦ none.none ((passed s h.inside).planned none.looked none.own)
  | inr wrong ↦
      let first : IsFirstWrong part c s wrong.0 cause = wrong.1 in
      lack-wrong part c s wrong.0 cause first.lack ((passed s h.inside).right first.looked wrong.0 first.taken)
]

pub accepted-no_fault : (c : Certificate) (s : ℕ) (cause : RewardCause) → IsAccepted c → ¬ IsRewardFault c s cause
accepted-no_fault c s cause is (inl h) = let fault = h.1 in fault.none (is.goals s fault.inside fault.goal)
accepted-no_fault c s cause is (inr h) = unpassed-none h.part c s cause (is.parts h.part) h.first

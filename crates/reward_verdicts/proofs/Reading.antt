-- A report on expected rewards is read in one way: each field ends at the space behind it.
use Rattle.std.proofs.Common.{◌≡◌, ◌∙◌, ℕ, List, [], ◌∷◌, ◌++◌, drop, Option, refl, sym, ap, append_assoc, arith}
use Rattle.std.specs.Prelude.{All, codes, decimal}
use Rattle.std.proofs.lemmas.List.{append_cancel_left}
use Rattle.std.proofs.lemmas.List.Elements.{All-tail}
use Rattle.reward_values.specs.Values.{IsValue, value_text}
use Rattle.verdicts.specs.declared.verdict.Verdict.{Verdict}
use Rattle.verdicts.specs.declared.report.How.{How}
use Rattle.verdicts.specs.declared.report.How.TheVariants.{Rounds, Steps, Audited, Solved}
use Rattle.verdicts.specs.Report.{verdict_text, how_text}
use Rattle.verdicts.proofs.Numbers.{number-one}
use Rattle.verdicts.proofs.Reading.{how-one, verdict-one}
use Rattle.reward_verdicts.specs.declared.report.RewardLine.{RewardLine}
use Rattle.reward_verdicts.specs.Report.{IsRewardLine, reward_line_text, reward_report}

-- no two values of these places have the same text with a space behind it
abbrev pub ValuesOne : ℕ → Type 0
ValuesOne places = (a b : Option ℕ) (r s : List ℕ) → IsValue a → IsValue b
    → value_text places a ++ 32 ∷ r ≡ value_text places b ++ 32 ∷ s → (a ≡ b) × (r ≡ s)

-- 1. The words that say where the bounds come from begin with a space.

how_behind : How → List ℕ
how_behind how = drop 1 (how_text how)

how-spaced : (how : How) → how_text how ≡ 32 ∷ how_behind how
unfolding how_behind
how-spaced (Rounds rounds) = refl
how-spaced (Steps steps) = refl
how-spaced Audited = refl
how-spaced Solved = refl

-- 2. A line, and what stands behind it.

line_onto : ℕ → RewardLine → List ℕ → List ℕ
line_onto places line rest =
    codes "state " ++ (decimal line.state ++ (codes " lower " ++ (value_text places line.lower ++ (codes " upper "
    ++ (value_text places line.upper ++ 32 ∷ (how_behind line.how ++ 32 ∷ (verdict_text line.verdict ++ 10 ∷ rest)))))))

line_text-onto : (places : ℕ) (line : RewardLine) (rest : List ℕ)
    → reward_line_text places line ++ rest ≡ line_onto places line rest
unfolding line_onto
line_text-onto places line rest =
    in_order (codes "state ") (decimal line.state) (codes " lower ") (value_text places line.lower)
    (codes " upper ") (value_text places line.upper) (how_text line.how) (verdict_text line.verdict)
    ∙ ap (λ h. codes "state " ++ (decimal line.state ++ (codes " lower " ++ (value_text places line.lower ++
    (codes " upper " ++ (value_text places line.upper ++ (h ++ 32 ∷ (verdict_text line.verdict ++ 10 ∷ rest))))))))
    (how-spaced line.how)
  where
    in_order : (a n b l c u h v : List ℕ) → ((a ++ n) ++ ((b ++ l) ++ ((c ++ u) ++ (h ++ 32 ∷ (v ++ 10 ∷ []))))) ++ rest
        ≡ a ++ (n ++ (b ++ (l ++ (c ++ (u ++ (h ++ 32 ∷ (v ++ 10 ∷ rest)))))))
    in_order a n b l c u h v = simp append_assoc

same_line : (a b : RewardLine) → a.state ≡ b.state → a.lower ≡ b.lower → a.upper ≡ b.upper → a.how ≡ b.how
    → a.verdict ≡ b.verdict → a ≡ b
same_line a b state lower upper how verdict =
    let made : ℕ → Option ℕ → Option ℕ → How → Verdict → RewardLine =
    λ s l u h v. record { state = s; lower = l; upper = u; how = h; verdict = v } in
    ap (λ s. made s a.lower a.upper a.how a.verdict) state
    ∙ ap (λ l. made b.state l a.upper a.how a.verdict) lower
    ∙ ap (λ u. made b.state b.lower u a.how a.verdict) upper
    ∙ ap (λ h. made b.state b.lower b.upper h a.verdict) how
    ∙ ap (λ v. made b.state b.lower b.upper b.how v) verdict

-- the words with their space
how-onto : (how : How) (rest : List ℕ) → how_text how ++ 32 ∷ rest ≡ 32 ∷ (how_behind how ++ 32 ∷ rest)
how-onto how rest = ap (λ h. h ++ 32 ∷ rest) (how-spaced how)

line-one : (places : ℕ) → ValuesOne places → (a b : RewardLine) (r s : List ℕ) → IsRewardLine a → IsRewardLine b
    → line_onto places a r ≡ line_onto places b s → (a ≡ b) × (r ≡ s)
unfolding line_onto
line-one places one a b r s ha hb e =
    let state = number-one a.state b.state _ _ (omega (arith, ha.state)) (omega (arith, hb.state))
    (append_cancel_left (codes "state ") _ _ e) in
    let lower = one a.lower b.lower _ _ ha.lower hb.lower (append_cancel_left (codes "lower ") _ _ state.1) in
    let upper = one a.upper b.upper _ _ ha.upper hb.upper (append_cancel_left (codes "upper ") _ _ lower.1) in
    let words = how-onto a.how (verdict_text a.verdict ++ 10 ∷ r) ∙ ap (λ t. 32 ∷ t) upper.1
    ∙ sym (how-onto b.how (verdict_text b.verdict ++ 10 ∷ s)) in
    let how = how-one a.how b.how _ _ ha.count hb.count words in
    let verdict = verdict-one a.verdict b.verdict _ _ how.1 in
    (same_line a b state.0 lower.0 upper.0 how.0 verdict.0, append_cancel_left (codes "\n") _ _ verdict.1)

pub report-one : (places : ℕ) → ValuesOne places → (lines others : List RewardLine) → All IsRewardLine lines
    → All IsRewardLine others → reward_report places lines ≡ reward_report places others → lines ≡ others
report-one places one [] [] ha hb e = refl
report-one places one [] (b ∷ others) ha hb e = absurd (cc)
report-one places one (a ∷ lines) [] ha hb e = absurd (cc)
report-one places one (a ∷ lines) (b ∷ others) ha hb e =
    let as_read : line_onto places a (reward_report places lines) ≡ line_onto places b (reward_report places others) =
    sym (line_text-onto places a (reward_report places lines)) ∙ e
    ∙ line_text-onto places b (reward_report places others) in
    let parts = line-one places one a b (reward_report places lines) (reward_report places others)
    (ha 0 a (omega arith)) (hb 0 b (omega arith)) as_read in
    let first : a ≡ b = parts.0 in
    let behind : lines ≡ others = report-one places one lines others (All-tail IsRewardLine a lines ha)
    (All-tail IsRewardLine b others hb) parts.1 in
    cc

-- A report is read in one way: each field tells where it ends.
use Rattle.std.proofs.Common.{◌≡◌, ◌∙◌, ◌≤◌, ◌+◌, ◌/◌, ◌%◌, ℕ, zero, suc, List, [], ◌∷◌, ◌++◌, length, get_or, Option}
use Rattle.std.proofs.Common.{Some, refl, sym, ap, append_assoc, arith}
use Rattle.std.specs.Prelude.{◌==◌, if◌then◌else◌, All, codes, decimal}
use Rattle.std.proofs.lemmas.List.{append_cancel_left, length-append}
use Rattle.std.proofs.lemmas.List.Elements.{All-tail}
use Rattle.game_model.specs.Limits.{unit}
use Rattle.plan_text.specs.Fixed.{fixed, last_digits, unit_digits}
use Rattle.verdicts.specs.declared.verdict.Verdict.{Verdict}
use Rattle.verdicts.specs.declared.verdict.Verdict.TheVariants.{Yes, No, Undecided, Bracket}
use Rattle.verdicts.specs.declared.report.How.{How}
use Rattle.verdicts.specs.declared.report.How.TheVariants.{Rounds, Steps, Audited, Solved}
use Rattle.verdicts.specs.declared.report.ReportLine.{ReportLine}
use Rattle.verdicts.specs.Report.{HasCount, IsLine, verdict_text, how_text, line_text, report}
use Rattle.verdicts.proofs.Numbers.{number-one}

-- no two values have the same text
abbrev pub FixedOne : Type 0
FixedOne = (u v : ℕ) → u ≤ unit → v ≤ unit → fixed u ≡ fixed v → u ≡ v

-- 1. The text of a value has a fixed length.

up_to_length : (xs ys r s : List ℕ) → length xs ≡ length ys → xs ++ r ≡ ys ++ s → (xs ≡ ys) × (r ≡ s)
up_to_length [] [] r s h e = (refl, e)
up_to_length [] (y ∷ ys) r s h e = absurd (omega arith)
up_to_length (x ∷ xs) [] r s h e = absurd (omega arith)
up_to_length (x ∷ xs) (y ∷ ys) r s h e =
    let first : x ≡ y = cc in
    let behind : xs ++ r ≡ ys ++ s = cc in
    let parts = up_to_length xs ys r s (omega arith) behind in
    let others : xs ≡ ys = parts.0 in
    (cc, parts.1)

length-last_digits : (k n : ℕ) → length (last_digits k n) ≡ k
unfolding last_digits
length-last_digits zero n = refl
length-last_digits (suc k) n =
    omega (arith, length-append (last_digits k (n / 10)) ((48 + n % 10) ∷ []), length-last_digits k (n / 10))

length-fixed : (u : ℕ) → length (fixed u) ≡ 2 + unit_digits
length-fixed u = ap (λ n. suc (suc n)) (length-last_digits unit_digits (u % unit))

value-one : FixedOne → (u v : ℕ) (r s : List ℕ) → u ≤ unit → v ≤ unit → fixed u ++ r ≡ fixed v ++ s → (u ≡ v) × (r ≡ s)
value-one one u v r s hu hv e =
    let parts = up_to_length (fixed u) (fixed v) r s (length-fixed u ∙ sym (length-fixed v)) e in
    (one u v hu hv parts.0, parts.1)

-- 2. The words are told apart by a byte.

-- the byte behind the first space: of ` rounds `, ` steps `, ` audited` or ` solved`; and the one behind it
read_how : List ℕ → ℕ
read_how text = get_or text 1 0

read_next : List ℕ → ℕ
read_next text = get_or text 2 0

pub how-one : (a b : How) (r s : List ℕ) → HasCount a → HasCount b
    → how_text a ++ 32 ∷ r ≡ how_text b ++ 32 ∷ s → (a ≡ b) × (r ≡ s)
unfolding read_how read_next
how-one (Rounds m) (Rounds n) r s hm hn e =
    let parts = number-one m n r s (omega arith) (omega arith)
    (append_cancel_left (codes " rounds ") (decimal m ++ 32 ∷ r) (decimal n ++ 32 ∷ s) e) in
    (ap (λ k. Rounds k) parts.0, parts.1)
how-one (Steps m) (Steps n) r s hm hn e =
    let parts = number-one m n r s (omega arith) (omega arith)
    (append_cancel_left (codes " steps ") (decimal m ++ 32 ∷ r) (decimal n ++ 32 ∷ s) e) in
    (ap (λ k. Steps k) parts.0, parts.1)
how-one (Rounds m) (Steps n) r s hm hn e = let second : ◌≡◌ {A = ℕ} 114 115 = ap read_how e in absurd (omega arith)
how-one (Rounds m) Audited r s hm hn e = let second : ◌≡◌ {A = ℕ} 114 97 = ap read_how e in absurd (omega arith)
how-one (Steps m) (Rounds n) r s hm hn e = let second : ◌≡◌ {A = ℕ} 115 114 = ap read_how e in absurd (omega arith)
how-one (Steps m) Audited r s hm hn e = let second : ◌≡◌ {A = ℕ} 115 97 = ap read_how e in absurd (omega arith)
how-one Audited (Rounds n) r s hm hn e = let second : ◌≡◌ {A = ℕ} 97 114 = ap read_how e in absurd (omega arith)
how-one Audited (Steps n) r s hm hn e = let second : ◌≡◌ {A = ℕ} 97 115 = ap read_how e in absurd (omega arith)
how-one Audited Audited r s hm hn e = (refl, append_cancel_left (codes " audited ") r s e)
how-one Audited Solved r s hm hn e = let second : ◌≡◌ {A = ℕ} 97 115 = ap read_how e in absurd (omega arith)
how-one Solved Audited r s hm hn e = let second : ◌≡◌ {A = ℕ} 115 97 = ap read_how e in absurd (omega arith)
how-one Solved (Rounds n) r s hm hn e = let second : ◌≡◌ {A = ℕ} 115 114 = ap read_how e in absurd (omega arith)
how-one (Rounds m) Solved r s hm hn e = let second : ◌≡◌ {A = ℕ} 114 115 = ap read_how e in absurd (omega arith)
how-one Solved (Steps n) r s hm hn e = let third : ◌≡◌ {A = ℕ} 111 116 = ap read_next e in absurd (omega arith)
how-one (Steps m) Solved r s hm hn e = let third : ◌≡◌ {A = ℕ} 116 111 = ap read_next e in absurd (omega arith)
how-one Solved Solved r s hm hn e = (refl, append_cancel_left (codes " solved ") r s e)

read_verdict : ℕ → Option Verdict
read_verdict b = if b == 84 then Some Yes
    else (if b == 70 then Some No else (if b == 85 then Some Undecided else Some Bracket))

verdict_read : (v : Verdict) (r : List ℕ) → read_verdict (get_or (verdict_text v ++ r) 0 0) ≡ Some v
unfolding read_verdict
verdict_read Yes r = refl
verdict_read No r = refl
verdict_read Undecided r = refl
verdict_read Bracket r = refl

pub verdict-one : (a b : Verdict) (r s : List ℕ) → verdict_text a ++ r ≡ verdict_text b ++ s → (a ≡ b) × (r ≡ s)
verdict-one a b r s e =
    let read : Some a ≡ Some b =
    sym (verdict_read a r) ∙ ap (λ (t : List ℕ). read_verdict (get_or t 0 0)) e ∙ verdict_read b s in
    let same : a ≡ b = cc in
    let left : verdict_text a ++ r ≡ verdict_text a ++ s = e ∙ ap (λ v. verdict_text v ++ s) (sym same) in
    (same, append_cancel_left (verdict_text a) r s left)

-- 3. A line, and what stands behind it.

line_onto : ReportLine → List ℕ → List ℕ
line_onto line rest =
    codes "state " ++ (decimal line.state ++ (codes " lower " ++ (fixed line.lower ++ (codes " upper "
    ++ (fixed line.upper ++ (how_text line.how ++ 32 ∷ (verdict_text line.verdict ++ 10 ∷ rest)))))))

line_text-onto : (line : ReportLine) (rest : List ℕ) → line_text line ++ rest ≡ line_onto line rest
unfolding line_onto
line_text-onto line rest = in_order (codes "state ") (decimal line.state) (codes " lower ") (fixed line.lower)
    (codes " upper ") (fixed line.upper) (how_text line.how) (verdict_text line.verdict)
  where
    in_order : (a n b l c u h v : List ℕ) → ((a ++ n) ++ ((b ++ l) ++ ((c ++ u) ++ (h ++ 32 ∷ (v ++ 10 ∷ []))))) ++ rest
        ≡ a ++ (n ++ (b ++ (l ++ (c ++ (u ++ (h ++ 32 ∷ (v ++ 10 ∷ rest)))))))
    in_order a n b l c u h v = simp append_assoc

same_line : (a b : ReportLine) → a.state ≡ b.state → a.lower ≡ b.lower → a.upper ≡ b.upper → a.how ≡ b.how
    → a.verdict ≡ b.verdict → a ≡ b
same_line a b state lower upper how verdict =
    let made : ℕ → ℕ → ℕ → How → Verdict → ReportLine =
    λ s l u h v. record { state = s; lower = l; upper = u; how = h; verdict = v } in
    ap (λ s. made s a.lower a.upper a.how a.verdict) state
    ∙ ap (λ l. made b.state l a.upper a.how a.verdict) lower
    ∙ ap (λ u. made b.state b.lower u a.how a.verdict) upper
    ∙ ap (λ h. made b.state b.lower b.upper h a.verdict) how
    ∙ ap (λ v. made b.state b.lower b.upper b.how v) verdict

line-one : FixedOne → (a b : ReportLine) (r s : List ℕ) → IsLine a → IsLine b
    → line_onto a r ≡ line_onto b s → (a ≡ b) × (r ≡ s)
unfolding line_onto
line-one one a b r s ha hb e =
    let state = number-one a.state b.state _ _ (omega (arith, ha.state)) (omega (arith, hb.state))
    (append_cancel_left (codes "state ") _ _ e) in
    let lower =
    value-one one a.lower b.lower _ _ ha.values.0 hb.values.0 (append_cancel_left (codes "lower ") _ _ state.1) in
    let upper =
    value-one one a.upper b.upper _ _ ha.values.1 hb.values.1 (append_cancel_left (codes " upper ") _ _ lower.1) in
    let how = how-one a.how b.how _ _ ha.count hb.count upper.1 in
    let verdict = verdict-one a.verdict b.verdict _ _ how.1 in
    (same_line a b state.0 lower.0 upper.0 how.0 verdict.0, append_cancel_left (codes "\n") _ _ verdict.1)

pub report-one : FixedOne → (lines others : List ReportLine) → All IsLine lines → All IsLine others
    → report lines ≡ report others → lines ≡ others
report-one one [] [] ha hb e = refl
report-one one [] (b ∷ others) ha hb e = absurd (cc)
report-one one (a ∷ lines) [] ha hb e = absurd (cc)
report-one one (a ∷ lines) (b ∷ others) ha hb e =
    let as_read : line_onto a (report lines) ≡ line_onto b (report others) =
    sym (line_text-onto a (report lines)) ∙ e ∙ line_text-onto b (report others) in
    let parts = line-one one a b (report lines) (report others) (ha 0 a (omega arith)) (hb 0 b (omega arith)) as_read in
    let first : a ≡ b = parts.0 in
    let behind : lines ≡ others =
    report-one one lines others (All-tail IsLine a lines ha) (All-tail IsLine b others hb) parts.1 in
    cc

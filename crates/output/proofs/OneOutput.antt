-- A text says which output it is.
use Rattle.std.proofs.Common.{◌≡◌, ◌≢◌, ◌∙◌, ◌≤◌, ℕ, List, [], ◌∷◌, ◌++◌, length, get_or, Option, Some, None, refl, sym}
use Rattle.std.proofs.Common.{ap, append_assoc, arith}
use Rattle.std.specs.Prelude.{All, codes}
use Rattle.std.proofs.lemmas.List.{append_cancel_left, append_cancel_right}
use Rattle.std.proofs.lemmas.List.Elements.{All-nil, All-cons, All-head, All-tail}
use Rattle.game_model.specs.Limits.{most_states}
use Rattle.formula_reader.specs.Formula.{Tree}
use Rattle.rpatl_syntax.specs.Spelling.{spelling}
use Rattle.rpatl_syntax.specs.Spellable.{IsSpellable}
use Rattle.plan_text.specs.Entries.{Entry, IsInRange}
use Rattle.plan_text.specs.Written.{certificate_text}
use Rattle.verdicts.specs.declared.report.ReportLine.{ReportLine}
use Rattle.verdicts.specs.Report.{IsLine, line_text, report}
use Rattle.output.specs.Outputs.{Certificate, Output, certificate_part, output_text, AreEntriesInLimits}
use Rattle.output.specs.Outputs.{IsSpelledOut, IsWholeOutput}
use Rattle.output.proofs.PlainParts.{spellable-plain}
use Rattle.output.proofs.Places.{at}
use Rattle.output.proofs.NoLineFeed.{ended-one, line-ended, formula-ended}

-- no two reports have the same text, no two certificates, and no two formulas
abbrev pub ReportsOne : Type 0
ReportsOne = (lines others : List ReportLine) → All IsLine lines → All IsLine others
    → report lines ≡ report others → lines ≡ others

abbrev pub CertificatesOne : Type 0
CertificatesOne = (entries others : List Entry) → length entries ≤ most_states
    → length others ≤ most_states → All IsInRange entries → All IsInRange others
    → certificate_text entries ≡ certificate_text others → entries ≡ others

abbrev pub SpellingsOne : Type 0
SpellingsOne = (tree other : Tree) → IsSpellable tree → IsSpellable other
    → spelling tree ≡ spelling other → tree ≡ other

-- 1. The lines of a report, with text behind them that begins otherwise.

abbrev BeginsOtherwise : List ℕ → Type 0
BeginsOtherwise rest = get_or rest 0 0 ≢ 115

lines-one : ReportsOne → (lines others : List ReportLine) (r s : List ℕ) → All IsLine lines → All IsLine others
    → BeginsOtherwise r → BeginsOtherwise s → report lines ++ r ≡ report others ++ s → (lines ≡ others) × (r ≡ s)
lines-one one [] [] r s ha hb hr hs e = (refl, e)
lines-one one [] (b ∷ others) r s ha hb hr hs e = absurd (hr (at e 0))
lines-one one (a ∷ lines) [] r s ha hb hr hs e = absurd (hs (sym (at e 0)))
lines-one one (a ∷ lines) (b ∷ others) r s ha hb hr hs e =
    let of_a = All-head IsLine a lines ha in
    let of_b = All-head IsLine b others hb in
    let in_order =
    sym (append_assoc (line_text a) (report lines) r) ∙ e ∙ append_assoc (line_text b) (report others) s in
    let parts = ended-one (line_text a) (line_text b) (report lines ++ r) (report others ++ s) (line-ended a of_a)
    (line-ended b of_b) in_order in
    let alone : a ∷ [] ≡ b ∷ [] = one (a ∷ []) (b ∷ []) (All-cons IsLine a [] of_a (All-nil IsLine))
    (All-cons IsLine b [] of_b (All-nil IsLine)) (ap (λ (t : List ℕ). t ++ []) parts.0) in
    let more =
    lines-one one lines others r s (All-tail IsLine a lines ha) (All-tail IsLine b others hb) hr hs parts.1 in
    let rest : lines ≡ others = more.0 in
    (cc (alone, rest), more.1)

-- 2. The formula and the certificate.

certificate-one : CertificatesOne → SpellingsOne → (a b : Certificate) → AreEntriesInLimits (Some a)
    → AreEntriesInLimits (Some b) → IsSpelledOut (Some a) → IsSpelledOut (Some b)
    → certificate_part (Some a) ≡ certificate_part (Some b) → a ≡ b
certificate-one one spelled_one a b of_a of_b spell_a spell_b e =
    let parts = ended-one (codes "formula " ++ (spelling a.formula ++ codes "\n"))
    (codes "formula " ++ (spelling b.formula ++ codes "\n")) (certificate_text a.entries) (certificate_text b.entries)
    (formula-ended a.formula (spellable-plain a.formula spell_a))
    (formula-ended b.formula (spellable-plain b.formula spell_b)) e in
    let spelled = append_cancel_right (spelling a.formula) (spelling b.formula) (codes "\n")
    (append_cancel_left (codes "formula ") _ _ parts.0) in
    let made : Tree → List Entry → Certificate = λ f entries. record { formula = f; entries = entries } in
    ap (λ f. made f a.entries) (spelled_one a.formula b.formula spell_a spell_b spelled)
    ∙ ap (λ entries. made b.formula entries) (one a.entries b.entries of_a.0 of_b.0 of_a.1 of_b.1 parts.1)

plan-one : CertificatesOne → SpellingsOne → (a b : Option Certificate) → AreEntriesInLimits a → AreEntriesInLimits b
    → IsSpelledOut a → IsSpelledOut b → certificate_part a ≡ certificate_part b → a ≡ b
plan-one one spelled_one None None of_a of_b spell_a spell_b e = refl
plan-one one spelled_one None (Some b) of_a of_b spell_a spell_b e = absurd (omega (arith, at e 0))
plan-one one spelled_one (Some a) None of_a of_b spell_a spell_b e = absurd (omega (arith, at e 0))
plan-one one spelled_one (Some a) (Some b) of_a of_b spell_a spell_b e =
    ap (λ (c : Certificate). Some c) (certificate-one one spelled_one a b of_a of_b spell_a spell_b e)

plan-otherwise : (certificate : Option Certificate) → BeginsOtherwise (certificate_part certificate)
plan-otherwise None = omega arith
plan-otherwise (Some certificate) = omega arith

-- 3. The output.

pub output-one : ReportsOne → CertificatesOne → SpellingsOne → (a b : Output) → IsWholeOutput a → IsWholeOutput b
    → output_text a ≡ output_text b → a ≡ b
output-one reports certificates spellings a b of_a of_b e =
    let parts = lines-one reports a.lines b.lines (certificate_part a.certificate) (certificate_part b.certificate)
    of_a.limits.lines of_b.limits.lines (plan-otherwise a.certificate) (plan-otherwise b.certificate) e in
    let made : List ReportLine → Option Certificate → Output =
    λ lines certificate. record { lines = lines; certificate = certificate } in
    ap (λ lines. made lines a.certificate) parts.0 ∙ ap (λ certificate. made b.lines certificate) (plan-one certificates
    spellings a.certificate b.certificate of_a.limits.entries of_b.limits.entries of_a.formula of_b.formula parts.1)

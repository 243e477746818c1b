-- Rows without an action.
use Rattle.std.proofs.Common.{◌≡◌, ◌∙◌, ◌<◌, ◌+◌, inl, inr, ℕ, ◌==◌, not, Bool, false, cond, List, [], ◌∷◌, ◌++◌}
use Rattle.std.proofs.Common.{length, take, get_or, option_map, slice_get, refl, ap, ap₂, sym}
use Rattle.std.proofs.lemmas.Bool.{cases_Bool}
use Rattle.std.proofs.lemmas.List.{take_more}
use Rattle.std.proofs.lemmas.List.Elements.{All-head, All-tail, All-push}
use Rattle.std.specs.List.{filter}
use Rattle.std.specs.Option.{option_map_or}
use Rattle.std.specs.Str.{bytes_eq}
use Rattle.transition_lines.specs.declared.line.Transition.{Transition}
use Rattle.transition_lines.specs.Lines.{Row}
use Rattle.transition_lines.specs.Text.{transitions}
use Rattle.transition_lines.specs.Order.{has}
use Rattle.transition_lines.specs.Answers.{row_place, clashes_at}
use Rattle.tra_reader.specs.inside.Noted.{IsSilent, AreSilent, silent_rows}

abbrev pub with_action : Transition → List ℕ → Row
with_action transition action = record { transition = transition; action = action }

pub silent_is : (rows : List Row) → AreSilent rows → rows ≡ silent_rows (transitions rows)
silent_is [] are = refl
silent_is (row ∷ rows) are =
    ap₂ (λ (r : Row) rs. r ∷ rs) (ap (with_action row.transition) (All-head IsSilent row rows are))
    (silent_is rows (All-tail IsSilent row rows are))

pub silent_push : (rows : List Row) (row : Row) → AreSilent rows → row.action ≡ [] → AreSilent (rows ++ row ∷ [])
silent_push rows row are none = All-push IsSilent rows row are none

same : (f a : List ℕ) → f ≡ [] → a ≡ [] → not (bytes_eq f a) ≡ false
same f a e d = ap₂ (λ x y. not (bytes_eq x y)) e d

abbrev differs : List ℕ → List Row → Bool
differs a rows = option_map_or (λ f. not (bytes_eq f a))
    (option_map (λ (row : Row). row.action) (slice_get rows 0)) false

agree : (rows : List Row) (q : ℕ) (a : List ℕ) → AreSilent rows → a ≡ []
    → differs a (filter (has row_place q) rows) ≡ false
agree [] q a are none = refl
agree (b ∷ rows) q a are none = elim (cases_Bool (row_place b == q)) [
  | inl e ↦ ap (λ v. differs a (cond v (b ∷ filter (has row_place q) rows) (filter (has row_place q) rows))) e
      ∙ same b.action a (All-head IsSilent b rows are) none
  | inr e ↦ ap (λ v. differs a (cond v (b ∷ filter (has row_place q) rows) (filter (has row_place q) rows))) e
      ∙ agree rows q a (All-tail IsSilent b rows are) none
]

-- a silent row behind silent ones clashes with none
pub silent_clash : (rows : List Row) (row : Row) → AreSilent rows → row.action ≡ [] → clashes_at rows row ≡ false
silent_clash rows row are none = agree rows (row_place row) row.action are none

push_rows : (ts : List Transition) (t : Transition)
    → silent_rows (ts ++ t ∷ []) ≡ silent_rows ts ++ with_action t [] ∷ []
push_rows [] t = refl
push_rows (u ∷ ts) t = ap (λ rs. with_action u [] ∷ rs) (push_rows ts t)

-- one silent row more
pub silent_more : (ts : List Transition) (i : ℕ) (t : Transition) → i < length ts → t ≡ get_or ts i t
    → silent_rows (take (i + 1) ts) ≡ silent_rows (take i ts) ++ with_action t [] ∷ []
silent_more ts i t within is =
    ap silent_rows (take_more ts i t within) ∙ ap (λ (x : Transition). silent_rows (take i ts ++ x ∷ [])) (sym is)
    ∙ push_rows (take i ts) t

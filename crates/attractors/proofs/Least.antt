-- A set that grew lies in each set that has the goals and attracts no more.
use Rattle.std.proofs.Common.{◌≡◌, ℕ, ◌<◌, Bool, true, false, List, length, arith, refl, sym, ap, ◌∙◌, inl, inr}
use Rattle.std.specs.Prelude.{slice_index_or}
use Rattle.std.proofs.lemmas.Bool.{cases_eq, cases_lt, cases_Bool}
use Rattle.std.proofs.lemmas.List.{get_or-set_other, get_or_past, ext_get_or}
use Rattle.std.proofs.lemmas.List.Sums.{AllPass-from_list_all}
use Rattle.game_model.specs.declared.game.Side.{Side}
use Rattle.game_model.specs.declared.game.Side.TheVariants.{Max, Min}
use Rattle.game_model.specs.Game.{no_distribution, choices_of}
use Rattle.game_model.specs.Query.{Query, states, is_goal, side_at}
use Rattle.attractors.specs.Attractor.{ExcludedSets, serves, attracts, is_attracted, Grew, from_goals, with_state}
use Rattle.attractors.specs.Attractor.{IsClosed}
use Rattle.attractors.specs.Attractor.{IsAttractor}
use Rattle.attractors.specs.Search.{IsLarger}
use Rattle.attractors.proofs.Tests.{any-place}
use Rattle.attractors.proofs.Serving.{attracts-one, attracts-all}
use Rattle.attractors.proofs.Searching.{Grew-goals}
use Rattle.attractors.proofs.Following.{serves-more}

-- what a set attracts, a larger one does
attracted-more : (q : Query) (excluded : ExcludedSets) (set more : List Bool) (s : ℕ) (side : Side) → side_at q s ≡ side
    → IsLarger set more → is_attracted q excluded set s ≡ true → is_attracted q excluded more s ≡ true
attracted-more q excluded set more s Max is_side larger h =
    let some = any-place (serves excluded set) (choices_of q.game s) no_distribution
    (sym (ap (λ side. attracts side excluded set (choices_of q.game s)) is_side) ∙ h) in
    attracts-one q excluded more s some.0 is_side some.1 (serves-more excluded set more q s some.0 larger some.2)
attracted-more q excluded set more s Min is_side larger h =
    let all = AllPass-from_list_all (serves excluded set) (choices_of q.game s)
    (sym (ap (λ side. attracts side excluded set (choices_of q.game s)) is_side) ∙ h) in
    attracts-all q excluded more s is_side (λ c l. serves-more excluded set more q s c larger (all c no_distribution l))

pub member-inside : (set : List Bool) (s : ℕ) → slice_index_or set s false ≡ true → s < length set
member-inside set s member = elim (cases_lt s (length set)) [
  | inl below ↦ below
  | inr past ↦ let none : slice_index_or set s false ≡ false = get_or_past set s false past in absurd (cc)
]

Grew-within : (q : Query) (excluded : ExcludedSets) (set other : List Bool) → Grew q excluded set
    → IsClosed q excluded other
    → ((s : ℕ) → s < states q → is_goal q s ≡ true → slice_index_or other s false ≡ true) → IsLarger set other
Grew-within q excluded _ other (from_goals set goals) closed has s member =
    let inside : s < states q = omega (arith, member-inside set s member, goals.many) in
    has s inside (sym (goals.each s inside) ∙ member)
Grew-within q excluded _ other (with_state set t grew inside free attracted) closed has s member = elim (cases_eq s t) [
  | inl same ↦ elim (cases_Bool (slice_index_or other s false)) [
    | inl there ↦ there
    | inr out ↦
        let attracts_it : is_attracted q excluded other t ≡ true =
        attracted-more q excluded set other t (side_at q t) refl
        (Grew-within q excluded set other grew closed has) attracted in
        let not_it : is_attracted q excluded other t ≡ false =
        closed t inside (ap (λ u. slice_index_or other u false) (sym same) ∙ out) free in
        absurd (cc)
  ]
  | inr apart ↦ Grew-within q excluded set other grew closed has s
      (sym (get_or-set_other set t s true false apart) ∙ member)
]

pub least : (q : Query) (excluded : ExcludedSets) (set other : List Bool) → IsAttractor q excluded set
    → IsClosed q excluded other
    → ((s : ℕ) → s < states q → is_goal q s ≡ true → slice_index_or other s false ≡ true) → IsLarger set other
least q excluded set other h closed has = Grew-within q excluded set other h.grew closed has

-- sets of which each lies in the other
same-flags : (a b : Bool) → (a ≡ true → b ≡ true) → (b ≡ true → a ≡ true) → a ≡ b
same-flags true b there back = sym (there refl)
same-flags false true there back = back refl
same-flags false false there back = refl

pub one : (q : Query) (excluded : ExcludedSets) (set other : List Bool) → IsAttractor q excluded set
    → IsAttractor q excluded other → set ≡ other
one q excluded set other h k =
    let there : IsLarger set other = least q excluded set other h k.closed (Grew-goals q excluded other k.grew) in
    let back : IsLarger other set = least q excluded other set k h.closed (Grew-goals q excluded set h.grew) in
    ext_get_or false set other (h.many ∙ sym k.many)
    (λ s inside. same-flags (slice_index_or set s false) (slice_index_or other s false) (there s) (back s))

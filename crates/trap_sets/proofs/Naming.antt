-- One more state is named.
use Rattle.std.proofs.Common.{◌≡◌, ◌≢◌, ℕ, ◌+◌, ◌-◌, ◌<◌, List, [], ◌∷◌, ◌++◌, length, set, arith, refl, sym, ◌∙◌}
use Rattle.std.proofs.Common.{ap, inl, inr}
use Rattle.std.specs.Prelude.{slice_index}
use Rattle.std.proofs.lemmas.Bool.{cases_eq}
use Rattle.std.proofs.lemmas.List.{get_or_push, get_or_append_left, get_or-set_same, get_or-set_other}
use Rattle.trap_sets.specs.inside.Naming.{IsNamed, IsNaming}
use Rattle.trap_sets.proofs.Each.{IsEach-none, IsEach-push}
use Rattle.trap_sets.proofs.Zeros.{within}

pub IsNaming-none : (part names : List ℕ) → ((p : ℕ) → slice_index names p ≡ 0) → IsNaming part names [] 0
IsNaming-none part names none = record {
  each = IsEach-none (IsNamed part names) [] refl;
  known = λ p some. absurd (some (none p));
}

module _ (part names class : List ℕ) (n : ℕ) (h : IsNaming part names class n) where
  name-below : (p : ℕ) → slice_index names p ≢ 0 → slice_index names p - 1 < n
  name-below p some = omega (
    arith,
    within class (slice_index names p - 1) (λ none. some (sym (h.known p some) ∙ none)),
    h.each.many,
  )

  IsNaming-push : (names' : List ℕ) (v : ℕ)
      → ((p : ℕ) → slice_index names p ≢ 0 → slice_index names' p ≡ slice_index names p)
      → ((p : ℕ) → slice_index names' p ≢ 0 → slice_index names p ≡ 0 → (slice_index names' p ≡ n + 1) × (v ≡ n + 1))
      → IsNamed part names' n v → IsNaming part names' (class ++ v ∷ []) (n + 1)
  IsNaming-push names' v kept new here = record {
    each = IsEach-push (IsNamed part names') class (class ++ v ∷ []) v n refl (record {
      many = h.each.many;
      each = λ s l.
          let was = h.each.each s l in record {
            out = was.out;
            named = λ some. was.named some
                ∙ sym (kept (slice_index part s) (λ none. was.given some (was.named some ∙ none)));
            least = was.least;
            given = was.given;
          };
    }) here;
    known = λ p some. elim (cases_eq (slice_index names p) 0) [
      | inl none ↦
          let at : slice_index names' p - 1 ≡ n = omega (arith, (new p some none).0) in
          ap (slice_index (class ++ v ∷ [])) at ∙ get_or_push class v 0 n h.each.many ∙ (new p some none).1
          ∙ sym (new p some none).0
      | inr was ↦
          ap (λ x. slice_index (class ++ v ∷ []) (x - 1)) (kept p was)
          ∙ get_or_append_left class (v ∷ []) 0 (slice_index names p - 1)
          (omega (arith, name-below p was, h.each.many)) ∙ h.known p was ∙ sym (kept p was)
    ];
  }

  -- a state without a part
  pub IsNaming-out : slice_index part n ≡ 0 → IsNaming part names (class ++ 0 ∷ []) (n + 1)
  IsNaming-out out = IsNaming-push names 0 (λ p some. refl) (λ p some none. absurd (some none)) (record {
    out = λ e. refl;
    named = λ some. absurd (some out);
    least = omega arith;
    given = λ some. absurd (some out);
  })

  -- a state whose part has a name
  pub IsNaming-known : slice_index part n ≢ 0 → slice_index names (slice_index part n) ≢ 0
      → IsNaming part names (class ++ slice_index names (slice_index part n) ∷ []) (n + 1)
  IsNaming-known some name = IsNaming-push names (slice_index names (slice_index part n)) (λ p is. refl)
      (λ p is none. absurd (is none)) (record {
        out = λ none. absurd (some none);
        named = λ is. refl;
        least = omega (arith, name-below (slice_index part n) name);
        given = λ is. name;
      })

  -- the first state of a part
  pub IsNaming-first : slice_index part n ≢ 0 → slice_index part n < length names
      → slice_index names (slice_index part n) ≡ 0
      → IsNaming part (set names (slice_index part n) (n + 1)) (class ++ (n + 1) ∷ []) (n + 1)
  IsNaming-first some room none =
      let own : ℕ = slice_index part n in
      let here : slice_index (set names own (n + 1)) own ≡ n + 1 = get_or-set_same names own (n + 1) 0 room in
      let other : (p : ℕ) → p ≢ own → slice_index (set names own (n + 1)) p ≡ slice_index names p =
      λ p apart. get_or-set_other names own p (n + 1) 0 apart in
      IsNaming-push (set names own (n + 1)) (n + 1)
      (λ p is. other p (λ same. is (ap (slice_index names) same ∙ none)))
      (λ p is was. elim (cases_eq p own) [
        | inl same ↦ (ap (slice_index (set names own (n + 1))) same ∙ here, refl)
        | inr apart ↦ absurd (is (other p apart ∙ was))
      ]) (record {
        out = λ out. absurd (some out);
        named = λ is. sym here;
        least = omega arith;
        given = λ is e. absurd (omega (arith, e));
      })
